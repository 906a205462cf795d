use Rattle.version_groups_changes.proofs.pending_row.PendingRows.hits.Goals as goal

pub returns-clause-hits : goal.returns-clause-hits
returns-clause-hits c = λ can.
    let known = rw (← c.range-2.view_is) at (c.in_ok-range.ensures can) in
    rw (c.in_ok-put_all_pending.ensures, c.new-hits.ensures.items) known
