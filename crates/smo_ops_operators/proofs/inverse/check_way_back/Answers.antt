use Rattle.smo_ops_operators.proofs.InverseNumbers.{numbered}
use Rattle.smo_ops_operators.proofs.inverse.check_way_back.Goals as goal

pub returns-clause-number : goal.returns-clause-number
returns-clause-number c = numbered c.args.before.now c.args.next.now c.args.inverse.now
    c.check_named.result c.check_named.ensures
