use Rattle.std.proofs.Common.{rules, ◌≡◌}
use Rattle.query_exec.proofs.RunLaws.{alike_stored}
use Rattle.query_exec.proofs.run.alike_stores.Goals as goal

pub returns : goal.returns
returns c = λ t.
    let e : c.args.first.now.columns ≡ c.args.second.now.columns = search rules in
    alike_stored c.args.from c.args.first.now c.args.second.now e (c.shows_same.ensures t)
    (c.stores_no_more.ensures c.if-not-stores_no_more.false e)
