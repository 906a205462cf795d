use Rattle.std.proofs.Common.{◌∙◌}
use Rattle.std.proofs.lemmas.Result.{err_from_is_err_and}
use Rattle.cond_expr.specs.Seen.{tree, test}
use Rattle.cond_expr.specs.Faults.{references, test_references}
use Rattle.smo_ops_spec.specs.Checks.{reference_fault}
use Rattle.smo_ops.proofs.CheckLaws.{reference_here, reference_later, small_here}
use Rattle.smo_ops.proofs.PassedOn.{passed_on}
use Rattle.smo_ops.proofs.type_check.check_all_references.Goals as goal

pub returns-in_err-check_references : goal.returns-in_err-check_references
returns-in_err-check_references c =
    let p = err_from_is_err_and c.from_residual.result c.from_residual.ensures.1 in
    rw (p.1, p.2)
    (passed_on (reference_fault c.args.own.now (references (tree c.loop-expr-item.result.1))) _
    c.in_err-check_references.field-0.0
    (λ r h. c.loop-expr.invariant.faults
    ∙ reference_here c.args.own.now c.args.sets.now c.loop-expr.expr-index c.loop-expr-item.result
    c.loop-expr-test.true c.loop-expr-item.is (test_references (test c.args.cond.now)) r h)
    c.in_err-check_references.ensures)

pub loop-expr-preserved : goal.loop-expr-preserved
loop-expr-preserved c = record {
  faults = c.loop-expr.invariant.faults
      ∙ reference_later c.args.own.now c.args.sets.now c.loop-expr.expr-index
      c.loop-expr-item.result c.loop-expr-test.true c.loop-expr-item.is
      (test_references (test c.args.cond.now)) c.in_ok-check_references.ensures;
  small = (small_here c.args.sets.now c.loop-expr.expr-index c.loop-expr-item.result
      c.loop-expr-test.true c.loop-expr-item.is c.loop-expr.invariant.small).1;
}
