use Rattle.std.proofs.Common.{◌≡◌, ◌++◌, drop}
use Rattle.std.specs.List.{concat}
use Rattle.history_store_index.proofs.index.RowIndex.copy.Given as goal

abbrev pub invariant-loop-block : goal.invariant-loop-block
invariant-loop-block l = concat l.block-items ≡ l.ids.items
    ++ concat (drop l.block-index l.block-items)
