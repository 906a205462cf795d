use Rattle.smo_ops_widths.proofs.dead.remove.Goals as goal

pub returns : goal.returns
returns c = c.remove-was_there.ensures.updates.0
