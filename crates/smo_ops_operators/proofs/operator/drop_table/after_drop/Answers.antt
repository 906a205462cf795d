use Rattle.std.proofs.lemmas.Result.{err_from_is_err_and}
use Rattle.smo_ops_types.specs.Operators.{drop_table}
use Rattle.smo_ops_operators.proofs.TestSteps.{stopped, goes_on}
use Rattle.smo_ops_operators.proofs.operator.drop_table.after_drop.Goals as goal

pub returns-in_err-columns_there : goal.returns-in_err-columns_there
returns-in_err-columns_there c =
    let p = err_from_is_err_and c.from_residual.result c.from_residual.ensures.1 in
    rw (p.1, p.2)
    (stopped c.args.schema.now (drop_table c.args.table.now) 0 c.in_err-columns_there.field-0.0
    c.in_err-columns_there.ensures.there)

pub returns : goal.returns
returns c = goes_on c.args.schema.now (drop_table c.args.table.now) c.in_ok-next.next
    (c.in_ok-columns_there.ensures.there, tt) c.in_ok-next.ensures
