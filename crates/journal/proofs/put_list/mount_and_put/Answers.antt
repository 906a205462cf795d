use Rattle.std.proofs.Common.{◌+◌, ◌-◌, ◌^◌, min, [], sym, ap, subst}
use Rattle.journal.specs.PutLists.{records_of, MountsAndPuts, EndsWith, IsAll}
use Rattle.journal.proofs.MountAndPut.{refused, mounted, ended, all_of_them, stopped_at}
use Rattle.journal.proofs.put_list.mount_and_put.Goals as goal

pub returns-in-Err-clause-any_moment : goal.returns-in-Err-clause-any_moment
returns-in-Err-clause-any_moment g c =
    let M = g.D.Disk.meaning in
    refused (M c.args.disk) (M c.in-Err.disk) (min c.args.limit (2 ^ 64 - 2))
    (records_of c.args.list.now) _
    c.in-Err.ensures.turns_err

pub returns-in-Err-clause-unmounted : goal.returns-in-Err-clause-unmounted
returns-in-Err-clause-unmounted g c fault is =
    let M = g.D.Disk.meaning in
    refused (M c.args.disk) (M c.in-Err.disk) c.args.limit [] _ c.in-Err.ensures.turns_err

pub returns-in-Ok-answer-clause-any_moment : goal.returns-in-Ok-answer-clause-any_moment
returns-in-Ok-answer-clause-any_moment g c =
    let M = g.D.Disk.meaning in
    let it = c.in-Ok.ensures in
    let limit = min c.args.limit (2 ^ 64 - 2) in
    let each = c.put_each-answer.ensures in
    let list = records_of c.args.list.now in
    subst (λ d. MountsAndPuts (M c.args.disk) (M d) limit list) (sym c.into_disk-disk.ensures)
    (subst (λ n. MountsAndPuts (M c.args.disk) (M c.put_each-answer.new.journal.disk) n list)
    it.limit
    (mounted (M c.args.disk) (M c.in-Ok.journal.disk) (M c.put_each-answer.new.journal.disk)
    c.in-Ok.journal.limit c.in-Ok.journal.at c.in-Ok._recs.items list it.opened it.stands it.goes
    it.turns each.goes each.any_moment))

pub returns-clause-any_moment : goal.returns-clause-any_moment
returns-clause-any_moment g c =
    let M = g.D.Disk.meaning in
    let it = c.in-Ok.ensures in
    let limit = min c.args.limit (2 ^ 64 - 2) in
    let each = c.put_each-answer.ensures in
    let list = records_of c.args.list.now in
    subst (λ d. MountsAndPuts (M c.args.disk) (M d) limit list) (sym c.into_disk-disk.ensures)
    (subst (λ n. MountsAndPuts (M c.args.disk) (M c.put_each-answer.new.journal.disk) n list)
    it.limit
    (mounted (M c.args.disk) (M c.in-Ok.journal.disk) (M c.put_each-answer.new.journal.disk)
    c.in-Ok.journal.limit c.in-Ok.journal.at c.in-Ok._recs.items list it.opened it.stands it.goes
    it.turns each.goes each.any_moment))

pub returns-in-Ok-answer-clause-all : goal.returns-in-Ok-answer-clause-all
returns-in-Ok-answer-clause-all g c =
    let M = g.D.Disk.meaning in
    let it = c.in-Ok.ensures in
    let list = records_of c.args.list.now in
    subst (λ n. IsAll (M c.args.disk) n list c.in-Ok-answer.put) it.limit
    (all_of_them (M c.args.disk) (M c.in-Ok.journal.disk) (M c.put_each-answer.new.journal.disk)
    c.in-Ok.journal.limit c.in-Ok.journal.at c.in-Ok._recs.items list it.opened it.stands it.goes
    it.turns c.put_each-answer.ensures.goes c.in-Ok-answer.put c.in-Ok-answer.ensures.all)

pub returns-in-Ok-answer-clause-put : goal.returns-in-Ok-answer-clause-put
returns-in-Ok-answer-clause-put g c =
    let M = g.D.Disk.meaning in
    let it = c.in-Ok.ensures in
    let limit = min c.args.limit (2 ^ 64 - 2) in
    let list = records_of c.args.list.now in
    let n = c.in-Ok-answer.put in
    subst (λ d. EndsWith (M c.args.disk) (M d) limit list n n) (sym c.into_disk-disk.ensures)
    (subst (λ l. EndsWith (M c.args.disk) (M c.put_each-answer.new.journal.disk) l list n n)
    it.limit
    (ended (M c.args.disk) (M c.in-Ok.journal.disk) (M c.put_each-answer.new.journal.disk)
    c.in-Ok.journal.limit c.in-Ok.journal.at c.in-Ok._recs.items list it.opened it.stands it.goes
    it.turns c.put_each-answer.ensures.goes n n c.in-Ok-answer.ensures.put))

pub returns-clause-stopped : goal.returns-clause-stopped
returns-clause-stopped g c many is =
    let M = g.D.Disk.meaning in
    let it = c.in-Ok.ensures in
    let limit = min c.args.limit (2 ^ 64 - 2) in
    let list = records_of c.args.list.now in
    let n = c.in-Err-answer.put in
    subst (λ k. EndsWith (M c.args.disk) (M c.into_disk-disk.result) limit list k (k + 1))
    (ap stopped_at is)
    (subst (λ d. EndsWith (M c.args.disk) (M d) limit list n (n + 1)) (sym c.into_disk-disk.ensures)
    (subst (λ l. EndsWith (M c.args.disk) (M c.put_each-answer.new.journal.disk) l list n (n + 1))
    it.limit
    (ended (M c.args.disk) (M c.in-Ok.journal.disk) (M c.put_each-answer.new.journal.disk)
    c.in-Ok.journal.limit c.in-Ok.journal.at c.in-Ok._recs.items list it.opened it.stands it.goes
    it.turns c.put_each-answer.ensures.goes n (n + 1) c.in-Err-answer.ensures.stopped)))
