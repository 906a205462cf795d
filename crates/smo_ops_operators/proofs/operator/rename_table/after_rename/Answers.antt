use Rattle.std.proofs.Common.{sym, subst, ◌∙◌}
use Rattle.std.specs.Prelude.{Option, Err}
use Rattle.std.specs.FinMap.{remove}
use Rattle.std.proofs.lemmas.Result.{err_from_is_err_and}
use Rattle.prima_base.specs.declared.refusal.OpRefusal.{OpRefusal}
use Rattle.smo_ops_types.specs.Operators.{rename_table}
use Rattle.smo_ops_spec.specs.Effects.{columns_of}
use Rattle.prima_base.specs.Faults.{IsTested}
use Rattle.smo_ops_operators.proofs.TestSteps.{stopped, goes_on, free_one, put_like}
use Rattle.smo_ops_operators.proofs.operator.rename_table.after_rename.Goals as goal

pub returns-in_err-columns : goal.returns-in_err-columns
returns-in_err-columns c =
    let p = err_from_is_err_and c.from_residual.result c.from_residual.ensures.1 in
    rw (p.1, p.2)
    (stopped c.args.schema.now (rename_table c.args.table.now c.args.into.now) 0
    c.in_err-columns.field-0.0 c.in_err-columns.ensures.there)

pub returns-in_err-check_differ : goal.returns-in_err-check_differ
returns-in_err-check_differ c =
    let p = err_from_is_err_and c.from_residual-in_err-check_differ.result
    c.from_residual-in_err-check_differ.ensures.1 in
    rw (p.1, p.2)
    (stopped c.args.schema.now (rename_table c.args.table.now c.args.into.now) 1
    c.in_err-check_differ.field-0.0
    (c.in_ok-columns.ensures.there, c.in_err-check_differ.ensures))

pub returns-in_err-check_free : goal.returns-in_err-check_free
returns-in_err-check_free c =
    let p = err_from_is_err_and c.from_residual-in_err-check_free.result
    c.from_residual-in_err-check_free.ensures.1 in
    rw (p.1, p.2)
    (stopped c.args.schema.now (rename_table c.args.table.now c.args.into.now) 2
    c.in_err-check_free.field-0.0 (
      c.in_ok-columns.ensures.there,
      (
        c.in_ok-check_differ.ensures,
        subst (λ (f : Option OpRefusal). IsTested {A = Unit {0}} f
            (Err c.in_err-check_free.field-0.0))
            (free_one c.args.schema.now c.args.into.now c.args.table.now c.eq.result
            c.eq.ensures)
            c.in_err-check_free.ensures,
      ),
    ))

pub returns : goal.returns
returns c =
    goes_on c.args.schema.now (rename_table c.args.table.now c.args.into.now) c.in_ok-next.next (
      c.in_ok-columns.ensures.there,
      (
        c.in_ok-check_differ.ensures,
        (
          sym (free_one c.args.schema.now c.args.into.now c.args.table.now c.eq.result
              c.eq.ensures) ∙ c.in_ok-check_free.ensures,
          tt,
        ),
      ),
    )
    (put_like (remove c.args.schema.now c.args.table.now) c.in_ok-rest.rest c.in_ok-next.next
    c.args.into.now (columns_of c.args.schema.now c.args.table.now) c.in_ok-columns.columns.now
    c.in_ok-rest.ensures c.in_ok-next.ensures c.in_ok-columns.ensures.columns)
