use Rattle.schema_catalog.proofs.Differing.{differs_so, same_so}
use Rattle.schema_catalog.proofs.difference.same.Goals as goal

pub returns-in_ok-copy-in-Some : goal.returns-in_ok-copy-in-Some
returns-in_ok-copy-in-Some c =
    rw c.in_ok-copy-in-Some.ensures (differs_so c.args.a.now c.args.b.now c.tables.result.now
    c.tables-2.result.now c.in-Some.name.now c.tables.ensures c.tables-2.ensures
    c.in-Some.ensures)

pub returns-in-None : goal.returns-in-None
returns-in-None c = same_so c.args.a.now c.args.b.now c.tables.result.now c.tables-2.result.now
    c.tables.ensures c.tables-2.ensures c.in-None.ensures
