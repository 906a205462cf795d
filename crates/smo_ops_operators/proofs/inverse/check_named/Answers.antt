use Rattle.std.proofs.lemmas.Result.{err_from_is_err_and}
use Rattle.smo_ops_operators.proofs.inverse.check_named.Goals as goal

pub returns-in_err-last : goal.returns-in_err-last
returns-in_err-last c =
    let p = err_from_is_err_and c.from_residual.result c.from_residual.ensures.1 in
    rw (p.1, p.2) (c.in_err-last.ensures c.args.before.now)
