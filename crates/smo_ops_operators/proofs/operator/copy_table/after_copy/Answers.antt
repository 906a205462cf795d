use Rattle.std.proofs.Common.{refl, sym, ap, subst, ◌≡◌, ◌∙◌}
use Rattle.std.specs.Prelude.{Err}
use Rattle.std.specs.FinMap.{insert}
use Rattle.std.proofs.lemmas.Result.{err_from_is_err_and}
use Rattle.schema_catalog.specs.Tables.{Tables}
use Rattle.smo_ops_types.specs.Operators.{copy_table}
use Rattle.smo_ops_spec.specs.Effects.{columns_of}
use Rattle.smo_ops_spec.specs.Preconditions.{few_tables}
use Rattle.prima_base.specs.Faults.{IsTested}
use Rattle.smo_ops_operators.proofs.TestSteps.{stopped, goes_on, put_like}
use Rattle.smo_ops_operators.proofs.operator.copy_table.after_copy.Goals as goal

pub returns-in_err-columns : goal.returns-in_err-columns
returns-in_err-columns c =
    let p = err_from_is_err_and c.from_residual.result c.from_residual.ensures.1 in
    rw (p.1, p.2)
    (stopped c.args.schema.now (copy_table c.args.table.now c.args.into.now) 0
    c.in_err-columns.field-0.0 c.in_err-columns.ensures.there)

pub returns-in_err-check_free : goal.returns-in_err-check_free
returns-in_err-check_free c =
    let p = err_from_is_err_and c.from_residual-in_err-check_free.result
    c.from_residual-in_err-check_free.ensures.1 in
    rw (p.1, p.2)
    (stopped c.args.schema.now (copy_table c.args.table.now c.args.into.now) 1
    c.in_err-check_free.field-0.0
    (c.in_ok-columns.ensures.there, c.in_err-check_free.ensures))

pub returns-in_err-check_tables : goal.returns-in_err-check_tables
returns-in_err-check_tables c =
    let p = err_from_is_err_and c.from_residual-in_err-check_tables.result
    c.from_residual-in_err-check_tables.ensures.1 in
    let is : c.in_ok-next.next ≡ insert c.args.schema.now c.args.into.now
    (columns_of c.args.schema.now c.args.table.now) =
    put_like c.args.schema.now c.args.schema.now c.in_ok-next.next c.args.into.now
    (columns_of c.args.schema.now c.args.table.now) c.in_ok-columns.columns.now
    refl c.in_ok-next.ensures c.in_ok-columns.ensures.columns in
    rw (p.1, p.2)
    (stopped c.args.schema.now (copy_table c.args.table.now c.args.into.now) 2
    c.in_err-check_tables.field-0.0 (
      c.in_ok-columns.ensures.there,
      (
        c.in_ok-check_free.ensures,
        subst (λ (ts : Tables).
            IsTested {A = Unit {0}} (few_tables ts) (Err c.in_err-check_tables.field-0.0)) is
            c.in_err-check_tables.ensures,
      ),
    ))

pub returns : goal.returns
returns c =
    let is : c.in_ok-next.next ≡ insert c.args.schema.now c.args.into.now
    (columns_of c.args.schema.now c.args.table.now) =
    put_like c.args.schema.now c.args.schema.now c.in_ok-next.next c.args.into.now
    (columns_of c.args.schema.now c.args.table.now) c.in_ok-columns.columns.now
    refl c.in_ok-next.ensures c.in_ok-columns.ensures.columns in
    goes_on c.args.schema.now (copy_table c.args.table.now c.args.into.now) c.in_ok-next.next (
      c.in_ok-columns.ensures.there,
      (
        c.in_ok-check_free.ensures,
        (sym (ap few_tables is) ∙ c.in_ok-check_tables.ensures, tt),
      ),
    ) is
