use Rattle.std.proofs.Common.{◌+◌, ◌∷◌, [], ◌∙◌}
use Rattle.std.proofs.lemmas.Result.{err_from_is_err_and}
use Rattle.cond_expr.specs.Seen.{test}
use Rattle.cond_expr.specs.Sizes.{test_nodes}
use Rattle.cond_expr.specs.Faults.{test_references}
use Rattle.smo_ops_spec.specs.Checks.{reference_fault, test_fault}
use Rattle.smo_ops_spec.proofs.Firsts.{first_at, first_later, first_alone}
use Rattle.smo_ops.proofs.PassedOn.{test_walked}
use Rattle.smo_ops.proofs.check.check_delete.Goals as goal

pub returns-in_err-check_test_references : goal.returns-in_err-check_test_references
returns-in_err-check_test_references c =
    let p = err_from_is_err_and c.from_residual.result c.from_residual.ensures.1 in
    let reference = reference_fault c.args.own.now (test_references (test c.args.cond.now)) in
    let typed = test_fault c.args.own.now c.args.at (test c.args.cond.now) in
    rw (p.1, p.2)
    (test_walked reference (reference ∷ typed ∷ []) (c.args.at + test_nodes (test c.args.cond.now))
    c.in_err-check_test_references.field-0.0 (λ r h. first_at reference (typed ∷ []) r h)
    c.in_err-check_test_references.ensures)

pub returns-in_err-next : goal.returns-in_err-next
returns-in_err-next c =
    let p = err_from_is_err_and c.from_residual-in_err-next.result
    c.from_residual-in_err-next.ensures.1 in
    let reference = reference_fault c.args.own.now (test_references (test c.args.cond.now)) in
    let typed = test_fault c.args.own.now c.args.at (test c.args.cond.now) in
    rw (p.1, p.2)
    (test_walked typed (reference ∷ typed ∷ []) (c.args.at + test_nodes (test c.args.cond.now))
    c.in_err-next.field-0.0
    (λ r h. first_later reference (typed ∷ []) c.in_ok-check_test_references.ensures
    ∙ first_alone typed ∙ h) c.in_err-next.ensures.tested)

pub returns : goal.returns
returns c =
    let reference = reference_fault c.args.own.now (test_references (test c.args.cond.now)) in
    let typed = test_fault c.args.own.now c.args.at (test c.args.cond.now) in (
      first_later reference (typed ∷ []) c.in_ok-check_test_references.ensures ∙ first_alone typed
          ∙ c.in_ok-next.ensures.tested,
      c.in_ok-next.ensures.next,
    )
