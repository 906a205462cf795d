use Rattle.std.proofs.Common.{arith}
use Rattle.std.proofs.lemmas.Grind.{common_steps}
use Rattle.history_store_index.proofs.Blocking.{filled_few}
use Rattle.history_store_index.proofs.index.count_filled.Goals as goal

pub overflow_add-filled : goal.overflow_add-filled
overflow_add-filled c =
    let f = filled_few c.args.blocks.now in
    grind (arith, common_steps, f, c.loop-block.invariant)
