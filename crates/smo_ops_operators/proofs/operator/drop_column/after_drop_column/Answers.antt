use Rattle.std.proofs.Common.{◌≡◌, List, [], ◌∷◌, ap, subst, ◌∙◌}
use Rattle.std.specs.Prelude.{None, Err}
use Rattle.std.specs.FinMap.{insert}
use Rattle.std.proofs.lemmas.Result.{err_from_is_err_and}
use Rattle.prima_base.specs.Columns.{Column}
use Rattle.smo_ops_types.specs.Operators.{drop_column}
use Rattle.smo_ops_spec.specs.Effects.{columns_of}
use Rattle.smo_ops_spec.specs.Preconditions.{each_known, another_column}
use Rattle.smo_ops_spec.specs.Making.{without}
use Rattle.prima_base.specs.Faults.{IsTested}
use Rattle.smo_ops_operators.proofs.TestSteps.{stopped, goes_on}
use Rattle.smo_ops_operators.proofs.MadeTables.{put_again, without_are_columns}
use Rattle.smo_ops_operators.proofs.operator.drop_column.after_drop_column.Goals as goal

pub with_table-requires : goal.with_table-requires
with_table-requires c = rw (c.deref.ensures.value, c.in_ok-rest.ensures)
    (without_are_columns c.args.column.now c.in_ok-columns.columns.now
    c.in_ok-columns.ensures.valid)

pub returns-in_err-columns : goal.returns-in_err-columns
returns-in_err-columns c =
    let p = err_from_is_err_and c.from_residual.result c.from_residual.ensures.1 in
    rw (p.1, p.2)
    (stopped c.args.schema.now (drop_column c.args.column.now c.args.table.now) 0
    c.in_err-columns.field-0.0 c.in_err-columns.ensures.there)

pub returns-in_err-check_known : goal.returns-in_err-check_known
returns-in_err-check_known c =
    let p = err_from_is_err_and c.from_residual-in_err-check_known.result
    c.from_residual-in_err-check_known.ensures.1 in
    rw (p.1, p.2)
    (stopped c.args.schema.now (drop_column c.args.column.now c.args.table.now) 1
    c.in_err-check_known.field-0.0 (
      c.in_ok-columns.ensures.there,
      subst (λ (cs : List Column). IsTested {A = Unit {0}}
          (each_known c.args.table.now cs (c.args.column.now ∷ []))
          (Err c.in_err-check_known.field-0.0)) c.in_ok-columns.ensures.columns
          c.in_err-check_known.ensures,
    ))

pub returns-in_err-check_another : goal.returns-in_err-check_another
returns-in_err-check_another c =
    let p = err_from_is_err_and c.from_residual-in_err-check_another.result
    c.from_residual-in_err-check_another.ensures.1 in
    rw (p.1, p.2)
    (stopped c.args.schema.now (drop_column c.args.column.now c.args.table.now) 2
    c.in_err-check_another.field-0.0 (
      c.in_ok-columns.ensures.there,
      (
        subst (λ (cs : List Column). each_known c.args.table.now cs (c.args.column.now ∷ [])
            ≡ None) c.in_ok-columns.ensures.columns c.in_ok-check_known.ensures,
        subst (λ (cs : List Column). IsTested {A = Unit {0}} (another_column c.args.table.now cs)
            (Err c.in_err-check_another.field-0.0)) c.in_ok-columns.ensures.columns
            c.in_err-check_another.ensures,
      ),
    ))

pub returns : goal.returns
returns c =
    goes_on c.args.schema.now (drop_column c.args.column.now c.args.table.now) c.in_ok-next.next (
      c.in_ok-columns.ensures.there,
      (
        subst
            (λ (cs : List Column). each_known c.args.table.now cs (c.args.column.now ∷ []) ≡ None)
            c.in_ok-columns.ensures.columns c.in_ok-check_known.ensures,
        (
          subst (λ (cs : List Column). another_column c.args.table.now cs ≡ None)
              c.in_ok-columns.ensures.columns c.in_ok-check_another.ensures,
          tt,
        ),
      ),
    )
    (c.in_ok-next.ensures ∙ ap (λ (cs : List Column). insert c.args.schema.now c.args.table.now cs)
    (c.deref.ensures.value ∙ c.in_ok-rest.ensures
    ∙ ap (λ (cs : List Column). without c.args.column.now cs) c.in_ok-columns.ensures.columns)
    ∙ put_again c.args.schema.now c.args.table.now
    (without c.args.column.now (columns_of c.args.schema.now c.args.table.now)))
