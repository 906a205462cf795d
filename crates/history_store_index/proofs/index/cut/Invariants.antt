use Rattle.std.proofs.Common.{◌≡◌, ◌+◌, ◌-◌, ◌++◌, length}
use Rattle.std.specs.List.{concat}
use Rattle.history_store_index.proofs.index.cut.Given as goal

abbrev pub invariant-cut : goal.invariant-cut
invariant-cut l = concat l.blocks.items ++ l.rest ≡ l.ids

abbrev pub decreases-cut : goal.decreases-cut
decreases-cut l = length l.rest + (1 - length l.blocks.items)
