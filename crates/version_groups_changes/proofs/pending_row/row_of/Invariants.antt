use Rattle.std.proofs.Common.{◌≡◌, take}
use Rattle.version_groups_changes.proofs.pending_row.row_of.Given as goal

abbrev pub invariant-loop-value : goal.invariant-loop-value
invariant-loop-value l = l.copies.items ≡ take l.value-index l.values
