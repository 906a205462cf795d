use Rattle.std.proofs.Common.{◌≡◌, List, ◌++◌, ◌+◌, ◌∙◌, arith, subst}
use Rattle.std.specs.Prelude.{Some, None}
use Rattle.std.proofs.lemmas.Result.{err_from_is_err_and}
use Rattle.prima_base.specs.Columns.{Column}
use Rattle.cond_expr.specs.Seen.{test}
use Rattle.cond_expr.specs.Sizes.{test_nodes}
use Rattle.cond_expr.specs.Faults.{test_references}
use Rattle.smo_ops_spec.specs.First.{first_refusal}
use Rattle.smo_ops_types.specs.Changes.{update, sets_of}
use Rattle.smo_ops_spec.specs.Checks.{pair_names, name_faults, reference_fault, set_references}
use Rattle.smo_ops_spec.specs.Checks.{set_faults, sets_nodes, test_fault, tests_after}
use Rattle.smo_ops.proofs.ChangeTests.{update_names, update_references, update_room, sets_known}
use Rattle.smo_ops.proofs.ChangeTests.{test_known, update_sets, update_test}
use Rattle.smo_ops.proofs.PassedOn.{test_walked, walked_on}
use Rattle.smo_ops.proofs.check.check_update.Goals as goal

pub returns-in_err-check_names : goal.returns-in_err-check_names
returns-in_err-check_names c =
    let p = err_from_is_err_and c.from_residual.result c.from_residual.ensures.1 in
    rw (p.1, p.2)
    (test_walked (first_refusal (name_faults c.args.table.now c.columns.result.now
    (pair_names c.args.sets.now)))
    (tests_after c.args.own.now
    (update c.args.table.now (sets_of c.args.sets.now) (test c.args.cond.now)) c.args.at)
    (c.args.at + (sets_nodes (sets_of c.args.sets.now) + test_nodes (test c.args.cond.now)))
    c.in_err-check_names.field-0.0
    (λ r h. update_names c.args.table.now c.args.own.now c.args.sets.now (test c.args.cond.now)
    c.args.at r
    (subst (λ (cs : List Column). first_refusal
    (name_faults c.args.table.now cs (pair_names c.args.sets.now)) ≡ Some r) c.columns.ensures
    h)) c.in_err-check_names.ensures)

pub returns-in_err-check_all_references : goal.returns-in_err-check_all_references
returns-in_err-check_all_references c =
    let p = err_from_is_err_and c.from_residual-in_err-check_all_references.result
    c.from_residual-in_err-check_all_references.ensures.1 in
    let fine = subst (λ (cs : List Column). first_refusal
    (name_faults c.args.table.now cs (pair_names c.args.sets.now)) ≡ None) c.columns.ensures
    c.in_ok-check_names.ensures in
    rw (p.1, p.2)
    (test_walked (reference_fault c.args.own.now
    (set_references (sets_of c.args.sets.now) ++ test_references (test c.args.cond.now)))
    (tests_after c.args.own.now
    (update c.args.table.now (sets_of c.args.sets.now) (test c.args.cond.now)) c.args.at)
    (c.args.at + (sets_nodes (sets_of c.args.sets.now) + test_nodes (test c.args.cond.now)))
    c.in_err-check_all_references.field-0.0
    (update_references c.args.table.now c.args.own.now c.args.sets.now (test c.args.cond.now)
    c.args.at fine) c.in_err-check_all_references.ensures)

pub check_sets-requires-clause-room : goal.check_sets-requires-clause-room
check_sets-requires-clause-room c =
    let fine = subst (λ (cs : List Column). first_refusal
    (name_faults c.args.table.now cs (pair_names c.args.sets.now)) ≡ None) c.columns.ensures
    c.in_ok-check_names.ensures in
    let room = update_room c.args.table.now c.args.own.now c.args.sets.now (test c.args.cond.now)
    c.args.at fine c.requires.columns c.requires.narrow c.requires.sets c.requires.place in
    omega arith

pub check_sets-requires-clause-known : goal.check_sets-requires-clause-known
check_sets-requires-clause-known c =
    let fine = subst (λ (cs : List Column). first_refusal
    (name_faults c.args.table.now cs (pair_names c.args.sets.now)) ≡ None) c.columns.ensures
    c.in_ok-check_names.ensures in
    sets_known c.args.table.now c.args.own.now c.args.sets.now (test c.args.cond.now) c.args.at fine
    c.in_ok-check_all_references.ensures

pub returns-in_err-next : goal.returns-in_err-next
returns-in_err-next c =
    let p = err_from_is_err_and c.from_residual-in_err-next.result
    c.from_residual-in_err-next.ensures.1 in
    let fine = subst (λ (cs : List Column). first_refusal
    (name_faults c.args.table.now cs (pair_names c.args.sets.now)) ≡ None) c.columns.ensures
    c.in_ok-check_names.ensures in
    rw (p.1, p.2)
    (walked_on (set_faults c.args.own.now c.args.at (sets_of c.args.sets.now))
    (tests_after c.args.own.now
    (update c.args.table.now (sets_of c.args.sets.now) (test c.args.cond.now)) c.args.at)
    (c.args.at + sets_nodes (sets_of c.args.sets.now))
    (c.args.at + (sets_nodes (sets_of c.args.sets.now) + test_nodes (test c.args.cond.now)))
    c.in_err-next.field-0.0
    (update_sets c.args.table.now c.args.own.now c.args.sets.now (test c.args.cond.now) c.args.at
    fine c.in_ok-check_all_references.ensures) c.in_err-next.ensures)

pub check_test_types-requires-clause-room : goal.check_test_types-requires-clause-room
check_test_types-requires-clause-room c =
    let fine = subst (λ (cs : List Column). first_refusal
    (name_faults c.args.table.now cs (pair_names c.args.sets.now)) ≡ None) c.columns.ensures
    c.in_ok-check_names.ensures in
    let room = update_room c.args.table.now c.args.own.now c.args.sets.now (test c.args.cond.now)
    c.args.at fine c.requires.columns c.requires.narrow c.requires.sets c.requires.place in
    let walked = c.in_ok-next.ensures in
    omega (arith, walked.1, c.requires.test)

pub check_test_types-requires-clause-known : goal.check_test_types-requires-clause-known
check_test_types-requires-clause-known c =
    let fine = subst (λ (cs : List Column). first_refusal
    (name_faults c.args.table.now cs (pair_names c.args.sets.now)) ≡ None) c.columns.ensures
    c.in_ok-check_names.ensures in
    test_known c.args.table.now c.args.own.now c.args.sets.now (test c.args.cond.now) c.args.at fine
    c.in_ok-check_all_references.ensures

pub returns-in_err-after : goal.returns-in_err-after
returns-in_err-after c =
    let p = err_from_is_err_and c.from_residual-in_err-after.result
    c.from_residual-in_err-after.ensures.1 in
    let fine = subst (λ (cs : List Column). first_refusal
    (name_faults c.args.table.now cs (pair_names c.args.sets.now)) ≡ None) c.columns.ensures
    c.in_ok-check_names.ensures in
    let walked = c.in_ok-next.ensures in
    rw (p.1, p.2)
    (test_walked (test_fault c.args.own.now c.in_ok-next.next (test c.args.cond.now))
    (tests_after c.args.own.now
    (update c.args.table.now (sets_of c.args.sets.now) (test c.args.cond.now)) c.args.at)
    (c.args.at + (sets_nodes (sets_of c.args.sets.now) + test_nodes (test c.args.cond.now)))
    c.in_err-after.field-0.0
    (λ r h. update_test c.args.table.now c.args.own.now c.args.sets.now (test c.args.cond.now)
    c.args.at fine c.in_ok-check_all_references.ensures c.in_ok-next.next walked.0 walked.1 ∙ h)
    c.in_err-after.ensures.tested)

pub returns : goal.returns
returns c =
    let fine = subst (λ (cs : List Column). first_refusal
    (name_faults c.args.table.now cs (pair_names c.args.sets.now)) ≡ None) c.columns.ensures
    c.in_ok-check_names.ensures in
    let walked = c.in_ok-next.ensures in (
      update_test c.args.table.now c.args.own.now c.args.sets.now (test c.args.cond.now) c.args.at
          fine c.in_ok-check_all_references.ensures c.in_ok-next.next walked.0 walked.1
          ∙ c.in_ok-after.ensures.tested,
      (let next = c.in_ok-after.ensures.next in omega (arith, walked.1, next)),
    )
