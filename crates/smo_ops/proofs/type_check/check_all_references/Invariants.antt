use Rattle.std.proofs.Common.{◌≡◌, ◌++◌, drop}
use Rattle.cond_expr.specs.Seen.{test}
use Rattle.cond_expr.specs.Faults.{test_references}
use Rattle.smo_ops_types.specs.Changes.{sets_of}
use Rattle.smo_ops_spec.specs.Checks.{AreSmall, reference_fault, set_references}
use Rattle.smo_ops.proofs.type_check.check_all_references.Given as goal

abbrev pub invariant-loop-expr : goal.invariant-loop-expr
invariant-loop-expr l = record {
  faults : reference_fault l.own (set_references (sets_of l.sets) ++ test_references (test l.cond))
      ≡ reference_fault l.own (set_references (sets_of (drop l.expr-index l.sets))
      ++ test_references (test l.cond));
  small : AreSmall (sets_of (drop l.expr-index l.sets));
}
