use Rattle.std.proofs.Common.{inr, rules}
use Rattle.journal.proofs.Moments.{mount_turns}
use Rattle.journal.proofs.journal.Journal.mount.Goals as goal

pub returns-in-Ok-clause-turns : goal.returns-in-Ok-clause-turns
returns-in-Ok-clause-turns g c file honest seen =
    let M = g.D.Disk.meaning in
    mount_turns (M c.args.disk) (M c.sync.new.self) _ file honest seen c.sync.ensures.syncs
    (search rules) (search rules) c.open_synced.ensures.goes
    (c.open_synced.ensures.same_or_nine file)

pub returns-in-Err-clause-turns_err : goal.returns-in-Err-clause-turns_err
returns-in-Err-clause-turns_err g c = inr
    (λ file honest seen. let M = g.D.Disk.meaning in
    mount_turns (M c.args.disk) (M c.sync.new.self) _ file honest seen c.sync.ensures.syncs
    (search rules) (search rules) c.open_synced.ensures.goes
    (c.open_synced.ensures.same_or_nine file))
