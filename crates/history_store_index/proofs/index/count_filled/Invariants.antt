use Rattle.std.proofs.Common.{◌≡◌, ◌+◌, drop}
use Rattle.history_store_index.specs.Blocks.{filled}
use Rattle.history_store_index.proofs.index.count_filled.Given as goal

abbrev pub invariant-loop-block : goal.invariant-loop-block
invariant-loop-block l = filled l.blocks ≡ l.filled + filled (drop l.block-index l.blocks)
