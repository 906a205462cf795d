use Rattle.std.proofs.Common.{[], ◌∷◌, ◌++◌, sym, subst, ◌∙◌}
use Rattle.std.specs.Prelude.{Option, Err}
use Rattle.std.proofs.lemmas.Result.{err_from_is_err_and}
use Rattle.prima_base.specs.declared.refusal.OpRefusal.{OpRefusal}
use Rattle.smo_ops_spec.specs.Preconditions.{each_known, each_once, cover}
use Rattle.prima_base.specs.Faults.{IsTested}
use Rattle.smo_ops_operators.proofs.NameListLaws.{known_later, unknown_first}
use Rattle.smo_ops_operators.proofs.PartTests.{part_tests}
use Rattle.smo_ops_operators.proofs.GroupedTests.{tested_on, tests_stop_at, last_decides}
use Rattle.smo_ops_operators.proofs.operator.decompose_table.check_parts.Goals as goal

pub returns-in_err-check_each_known : goal.returns-in_err-check_each_known
returns-in_err-check_each_known c =
    let p = err_from_is_err_and c.from_residual.result c.from_residual.ensures.1 in
    rw (p.1, p.2)
    (tests_stop_at (part_tests c.args.table.now c.args.columns.now c.args.left.now
    c.args.left_columns.now c.args.right.now c.args.right_columns.now) 0
    c.in_err-check_each_known.field-0.0
    (tested_on _ _ c.in_err-check_each_known.field-0.0
    (unknown_first c.args.table.now c.args.columns.now c.args.left_columns.now
    c.args.right_columns.now) c.in_err-check_each_known.ensures))

pub returns-in_err-check_each_known-2 : goal.returns-in_err-check_each_known-2
returns-in_err-check_each_known-2 c =
    let p = err_from_is_err_and c.from_residual-in_err-check_each_known-2.result
    c.from_residual-in_err-check_each_known-2.ensures.1 in
    let both = known_later c.args.table.now c.args.columns.now c.args.left_columns.now
    c.args.right_columns.now c.in_ok-check_each_known.ensures in
    rw (p.1, p.2)
    (tests_stop_at (part_tests c.args.table.now c.args.columns.now c.args.left.now
    c.args.left_columns.now c.args.right.now c.args.right_columns.now) 0
    c.in_err-check_each_known-2.field-0.0
    (subst (λ (f : Option OpRefusal). IsTested {A = Unit {0}} f
    (Err c.in_err-check_each_known-2.field-0.0)) both c.in_err-check_each_known-2.ensures))

pub returns-in_err-check_each_once : goal.returns-in_err-check_each_once
returns-in_err-check_each_once c =
    let p = err_from_is_err_and c.from_residual-in_err-check_each_once.result
    c.from_residual-in_err-check_each_once.ensures.1 in
    let both = known_later c.args.table.now c.args.columns.now c.args.left_columns.now
    c.args.right_columns.now c.in_ok-check_each_known.ensures in
    rw (p.1, p.2)
    (tests_stop_at (part_tests c.args.table.now c.args.columns.now c.args.left.now
    c.args.left_columns.now c.args.right.now c.args.right_columns.now) 1
    c.in_err-check_each_once.field-0.0
    (sym both ∙ c.in_ok-check_each_known-2.ensures, c.in_err-check_each_once.ensures))

pub returns-in_err-check_each_once-2 : goal.returns-in_err-check_each_once-2
returns-in_err-check_each_once-2 c =
    let p = err_from_is_err_and c.from_residual-in_err-check_each_once-2.result
    c.from_residual-in_err-check_each_once-2.ensures.1 in
    let both = known_later c.args.table.now c.args.columns.now c.args.left_columns.now
    c.args.right_columns.now c.in_ok-check_each_known.ensures in
    rw (p.1, p.2)
    (tests_stop_at (part_tests c.args.table.now c.args.columns.now c.args.left.now
    c.args.left_columns.now c.args.right.now c.args.right_columns.now) 2
    c.in_err-check_each_once-2.field-0.0 (
      sym both ∙ c.in_ok-check_each_known-2.ensures,
      (c.in_ok-check_each_once.ensures, c.in_err-check_each_once-2.ensures),
    ))

pub returns : goal.returns
returns c =
    let both = known_later c.args.table.now c.args.columns.now c.args.left_columns.now
    c.args.right_columns.now c.in_ok-check_each_known.ensures in
    last_decides (each_known c.args.table.now c.args.columns.now
    (c.args.left_columns.now ++ c.args.right_columns.now)
    ∷ each_once c.args.left.now c.args.left_columns.now
    ∷ each_once c.args.right.now c.args.right_columns.now ∷ [])
    (cover c.args.table.now c.args.columns.now c.args.left_columns.now c.args.right_columns.now)
    c.check_cover.result (
      sym both ∙ c.in_ok-check_each_known-2.ensures,
      (c.in_ok-check_each_once.ensures, (c.in_ok-check_each_once-2.ensures, tt)),
    )
    c.check_cover.ensures
