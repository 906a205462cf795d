use Rattle.query_exec.proofs.run.gone_on.Goals as goal

pub returns-clause-goes : goal.returns-clause-goes
returns-clause-goes c =
    rw (c.deref.ensures.value, c.deref-2.ensures.value, c.start-from.ensures.start) at
    (c.all_pieces_alike.ensures c.if-not-all_pieces_alike.false)
