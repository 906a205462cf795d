use Rattle.journal.proofs.Putting.{fits}
use Rattle.archive_core.proofs.Held.{held_more}
use Rattle.archive_core.proofs.archive.Archive.put.Goals as goal

pub returns-in-Ok-clause-holds : goal.returns-in-Ok-clause-holds
returns-in-Ok-clause-holds g c rs held =
    let sealed = c.args.sealed.now.sealed in
    held_more (g.D.Disk.meaning c.args.self.now.journal.disk) (g.D.Disk.meaning c.put.new.self.disk)
    c.args.self.now.journal.at c.put.new.self.at rs _ sealed.known (fits _ sealed)
    c.in-Ok.ensures.place c.in-Ok.ensures.written held
