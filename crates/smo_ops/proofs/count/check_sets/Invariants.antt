use Rattle.std.proofs.Common.{◌≡◌, drop}
use Rattle.smo_ops_types.specs.Changes.{sets_of}
use Rattle.smo_ops_spec.specs.First.{first_refusal}
use Rattle.smo_ops_spec.specs.Counts.{set_counts}
use Rattle.smo_ops_spec.specs.ValidValues.{SetsHold}
use Rattle.smo_ops.proofs.count.check_sets.Given as goal

abbrev pub invariant-loop-expr : goal.invariant-loop-expr
invariant-loop-expr l = record {
  counts : first_refusal (set_counts (sets_of l.sets))
      ≡ first_refusal (set_counts (sets_of (drop l.expr-index l.sets)));
  constants : SetsHold (sets_of (drop l.expr-index l.sets)) → SetsHold (sets_of l.sets);
}
