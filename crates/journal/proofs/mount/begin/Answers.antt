use Rattle.std.proofs.Common.{◌≡◌, ap, ◌∙◌}
use Rattle.journal.proofs.Emptied.{emptied}
use Rattle.journal.proofs.mount.begin.Goals as goal
use Rattle.journal.proofs.mount.begin.Goals.{then-len-eq9+in_ok-read_at+else-eq, else-len-eq9}

pub returns-clause-file : goal.returns-clause-file
returns-clause-file g c =
    let M = g.D.Disk.meaning in
    let same : (M c.if-len-eq9.disk).seen ≡ (M c.args.disk.now).seen =
    elim c.if-len-eq9.branch [
      | then-len-eq9+in_ok-read_at+else-eq w ↦
          ap (λ d. (M d).seen) w.disk-is ∙ w.read_at.ensures.reads.seen
      | else-len-eq9 w ↦ ap (λ d. (M d).seen) w.disk-is
    ] in
    emptied _ _ _ _ c.requires.short c.requires.len same
    c.in_ok-write_and_sync.ensures.landed.written
