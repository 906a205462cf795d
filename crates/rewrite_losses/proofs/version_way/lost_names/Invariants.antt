use Rattle.std.proofs.Common.{◌-◌, ◌≡◌, ◌≤◌}
use Rattle.smo_ops_types.specs.Commands.{versions_of}
use Rattle.smo_ops_versions_spec.specs.LostNames.{lost_names}
use Rattle.rewrite_losses.proofs.version_way.lost_names.Given as goal

abbrev pub invariant-loop-k : goal.invariant-loop-k
invariant-loop-k l = record {
  low : l.asked ≤ l.k;
  high : l.k ≤ l.stored;
  so_far : l.losses ≡ lost_names (versions_of l.versions) l.stored l.k;
}

abbrev pub decreases-loop-k : goal.decreases-loop-k
decreases-loop-k l = l.k - l.asked
