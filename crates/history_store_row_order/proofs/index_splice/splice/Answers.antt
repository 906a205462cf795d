use Rattle.std.proofs.Common.{subst}
use Rattle.relations_spec.specs.Sets.{In}
use Rattle.history_store_row_order.specs.Logs.{cells_of}
use Rattle.history_store_row_order.proofs.Splicing.{kept_there}
use Rattle.history_store_row_order.proofs.index_splice.splice.Goals as goal

pub take_out-requires-clause-known : goal.take_out-requires-clause-known
take_out-requires-clause-known c = rw (c.deref.ensures.value, c.in_ok-copy.ensures) c.requires.known

pub take_out-requires-clause-live_rise : goal.take_out-requires-clause-live_rise
take_out-requires-clause-live_rise c = rw (c.deref.ensures.value, c.in_ok-copy.ensures)
    c.requires.live_rise

pub take_out-requires-clause-there : goal.take_out-requires-clause-there
take_out-requires-clause-there c = rw (c.deref.ensures.value, c.in_ok-copy.ensures) c.requires.there

pub put_in-requires-clause-known : goal.put_in-requires-clause-known
put_in-requires-clause-known c = λ id i k d h.
    let s = rw (c.deref.ensures.value, c.in_ok-copy.ensures) at c.in_ok-found.ensures in
    c.requires.known id (s.kept_in id (subst (In id) c.deref-2.ensures.value i)) k d h

pub put_in-requires-clause-fresh : goal.put_in-requires-clause-fresh
put_in-requires-clause-fresh c = λ row i j.
    let s = rw (c.deref.ensures.value, c.in_ok-copy.ensures) at c.in_ok-found.ensures in
    c.requires.fresh row i (kept_there (cells_of c.args.columns.now) c.args.live.now.ids
    c.in_ok-found.found.items c.in_ok-found.kept.items c.args.lost.now s row
    (rw c.deref-2.ensures.value at j))

pub returns-clause-spliced : goal.returns-clause-spliced
returns-clause-spliced c =
    let s = rw (c.deref.ensures.value, c.in_ok-copy.ensures) at c.in_ok-found.ensures in
    let j = rw (c.deref-2.ensures.value, c.deref-3.ensures.value) at c.in_ok-ids.ensures in
    rw (c.in_ok-of.ensures, c.deref-4.ensures.value)
    (record { kept = c.in_ok-found.kept.items; split = s; joined = j })
