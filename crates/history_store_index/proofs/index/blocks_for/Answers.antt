use Rattle.std.proofs.Common.{arith}
use Rattle.history_store_index.proofs.Blocking.{filled_few}
use Rattle.history_store_index.proofs.index.blocks_for.Goals as goal

pub overflow_add-count_filled : goal.overflow_add-count_filled
overflow_add-count_filled c = let f = filled_few c.args.blocks.now in omega (arith, f)
