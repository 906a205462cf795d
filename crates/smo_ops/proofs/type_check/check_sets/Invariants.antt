use Rattle.std.proofs.Common.{◌≡◌, ◌+◌, drop}
use Rattle.std.specs.Prelude.{None}
use Rattle.cond_expr.specs.Faults.{first_unknown}
use Rattle.smo_ops_types.specs.Changes.{sets_of}
use Rattle.smo_ops_spec.specs.First.{first_refusal}
use Rattle.smo_ops_spec.specs.OneRow.{own_kinds}
use Rattle.smo_ops_spec.specs.Checks.{AreSmall, set_references, set_faults, sets_nodes}
use Rattle.smo_ops.proofs.type_check.check_sets.Given as goal

abbrev pub invariant-loop-name : goal.invariant-loop-name
invariant-loop-name l = record {
  faults : first_refusal (set_faults l.own l.at (sets_of l.sets))
      ≡ first_refusal (set_faults l.own l.next (sets_of (drop l.name-index l.sets)));
  nodes : l.next + sets_nodes (sets_of (drop l.name-index l.sets))
      ≡ l.at + sets_nodes (sets_of l.sets);
  small : AreSmall (sets_of (drop l.name-index l.sets));
  known : first_unknown (own_kinds l.own) (set_references (sets_of (drop l.name-index l.sets)))
      ≡ None;
}
