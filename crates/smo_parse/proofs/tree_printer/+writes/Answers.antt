use Rattle.std.proofs.lemmas.Result.{on_ok_weaker}
use Rattle.smo_parse.proofs.SeveralTests.{written}
use Rattle.smo_parse.proofs.tree_printer.+writes.Goals as goal

pub write_conds-returns-in_ok-write_cond-in-len2-up-clause-ok :
    goal.write_conds-returns-in_ok-write_cond-in-len2-up-clause-ok
write_conds-returns-in_ok-write_cond-in-len2-up-clause-ok t c =
    on_ok_weaker c.write_more_conds.result
    (written c.args.numbered c.args.none.now c.args.word.now _ _ _ c.args.parts.now
    c.conds_after.result.now c.first-item.result c.in-len2-up.len_at_least c.first-item.is
    c.conds_after.ensures c.in_ok-write_cond-in-len2-up.ensures.ok)
    c.write_more_conds.ensures.ok
