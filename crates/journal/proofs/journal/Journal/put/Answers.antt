use Rattle.std.proofs.Common.{◌∙◌, arith}
use Rattle.journal.proofs.Putting.{first_put, both_put, acknowledged, fits}
use Rattle.journal.proofs.journal.Journal.put.Goals as goal

pub returns-in_err-write_and_sync-clause-puts : goal.returns-in_err-write_and_sync-clause-puts
returns-in_err-write_and_sync-clause-puts g c =
    let sealed = c.args.sealed.now.sealed in
    first_put _ _ _ _ _ (c.bytes-bytes.ensures.bytes ∙ sealed.is) sealed.known (fits _ sealed)
    c.write_and_sync.ensures.through

pub returns-in_err-write_and_sync-2-clause-puts : goal.returns-in_err-write_and_sync-2-clause-puts
returns-in_err-write_and_sync-2-clause-puts g c =
    let sealed = c.args.sealed.now.sealed in
    both_put _ _ _ _ _ (c.bytes-bytes.ensures.bytes ∙ sealed.is) sealed.known (fits _ sealed) _
    c.write_and_sync.ensures.through c.in_ok-write_and_sync.ensures.landed
    c.write_and_sync-2.ensures.through

pub returns-clause-puts : goal.returns-clause-puts
returns-clause-puts g c =
    let sealed = c.args.sealed.now.sealed in
    both_put _ _ _ _ _ (c.bytes-bytes.ensures.bytes ∙ sealed.is) sealed.known (fits _ sealed) _
    c.write_and_sync.ensures.through c.in_ok-write_and_sync.ensures.landed
    c.write_and_sync-2.ensures.through

pub returns-clause-acknowledged : goal.returns-clause-acknowledged
returns-clause-acknowledged g c rs honest s =
    let sealed = c.args.sealed.now.sealed in
    acknowledged _ _ _ rs _ _ (c.bytes-bytes.ensures.bytes ∙ sealed.is) sealed.known (fits _ sealed)
    honest s _ _ (omega arith) c.write_and_sync.ensures.through
    c.in_ok-write_and_sync.ensures.landed c.in_ok-write_and_sync-2.ensures.landed
