use Rattle.std.proofs.Common.{◌≡◌}
use Rattle.version_groups_changes.specs.PendingChanges.{lost_by_now, gained_by_now}
use Rattle.version_groups_changes.proofs.pending_changes.lost_and_gained_by_now.Given as goal

abbrev pub invariant-loop-row : goal.invariant-loop-row
invariant-loop-row l = record {
  lost : l.lost.items ≡ lost_by_now l.yielded;
  gained : l.gained.items ≡ gained_by_now l.yielded;
}
