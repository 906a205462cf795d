use Rattle.std.proofs.Common.{◌≤◌, IsTrue, length, drop}
use Rattle.disk_model.specs.Calls.{are_writes}
use Rattle.disk_model.proofs.crash_image.synced_calls.Given as goal

abbrev pub invariant-loop-synced : goal.invariant-loop-synced
invariant-loop-synced l = record {
  len : l.synced ≤ length l.calls;
  since : IsTrue (are_writes (drop l.synced l.calls));
}

abbrev pub decreases-loop-synced : goal.decreases-loop-synced
decreases-loop-synced l = l.synced
