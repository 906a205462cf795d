use Rattle.std.proofs.Common.{◌≡◌, drop}
use Rattle.std.specs.List.{flat_map}
use Rattle.smo_ops_types.specs.Changes.{changes_of}
use Rattle.smo_ops_spec.specs.First.{first_refusal}
use Rattle.smo_ops_spec.specs.Counts.{change_counts}
use Rattle.smo_ops_spec.specs.ValidValues.{ChangesHold}
use Rattle.smo_ops.proofs.count.check_each_change.Given as goal

abbrev pub invariant-loop-change : goal.invariant-loop-change
invariant-loop-change l = record {
  counts : first_refusal (flat_map change_counts (changes_of l.changes))
      ≡ first_refusal (flat_map change_counts (changes_of (drop l.change-index l.changes)));
  constants : ChangesHold (changes_of (drop l.change-index l.changes))
      → ChangesHold (changes_of l.changes);
}
