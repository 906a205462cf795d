use Rattle.std.proofs.Common.{rules, ◌≡◌, length, arith, refl, sym, ap, subst, ◌∙◌}
use Rattle.std.proofs.Math.Nat.{le_trans}
use Rattle.relations_spec.specs.Sets.{In}
use Rattle.history_store_row_order.specs.Rows.{AllWidth}
use Rattle.history_store_row_order.specs.Logs.{cells_of}
use Rattle.history_store_writes.specs.ValueIndexes.{indexed_columns}
use Rattle.history_store_change_spec.specs.Kept.{store_of}
use Rattle.history_store_row_order.proofs.Cells.{length-cells_of}
use Rattle.history_store_writes.proofs.Room.{least_rows_room}
use Rattle.history_store_change_spec.proofs.Making.{all_wide}
use Rattle.history_store_change_spec.proofs.Preparing.{all_known_in}
use Rattle.history_store_change_spec.proofs.Installing.{relation_from}
use Rattle.history_store_change_spec.proofs.Changing.{change_fits, change_leads, change_lost}
use Rattle.history_store.proofs.table.StoredTable.prepare_change.Goals as goal

pub splice-requires-clause-lost_wide : goal.splice-requires-clause-lost_wide
splice-requires-clause-lost_wide c =
    let a = c.self.inside in
    let r = rw (← c.self.view_is) at c.requires.lost in
    subst (λ n. AllWidth n c.args.lost.now) (length-cells_of a.logs.items
    ∙ ap length (sym c.deref.ensures.value))
    (all_wide a.columns.items (cells_of a.logs.items) c.args.lost.now
    c.self.invariant.kept.width r)

pub splice-requires-clause-gained_wide : goal.splice-requires-clause-gained_wide
splice-requires-clause-gained_wide c =
    let a = c.self.inside in
    let r = rw (← c.self.view_is) at c.requires.gained in
    rw c.deref-2.ensures.value (subst (λ n. AllWidth n c.args.gained.items)
    (length-cells_of a.logs.items ∙ ap length (sym c.deref.ensures.value))
    (all_wide a.columns.items (cells_of a.logs.items) c.args.gained.items
    c.self.invariant.kept.width r))

pub splice-requires-clause-known : goal.splice-requires-clause-known
splice-requires-clause-known c =
    let a = c.self.inside in
    all_known_in a.live.ids a.live.ids a.keys.items a.logs.items c.deref.result.now refl
    c.deref.ensures.value c.self.invariant.kept.stored.are_open c.self.invariant.ids

pub splice-requires-clause-there : goal.splice-requires-clause-there
splice-requires-clause-there c = λ row i.
    let a = c.self.inside in
    let b = rw (← c.self.view_is) at c.requires.before in
    let t = rw (← c.self.view_is) at (c.requires.there row i) in
    rw c.deref.ensures.value (subst (In row) (relation_from a.columns.items a.keys.items
    (cells_of a.logs.items) a.live.ids _ c.args.stamp c.args.stamp c.self.invariant.kept b
    (omega arith) c.requires.valid) t)

pub splice-requires-clause-fresh : goal.splice-requires-clause-fresh
splice-requires-clause-fresh c = λ row i h.
    let a = c.self.inside in
    let b = rw (← c.self.view_is) at c.requires.before in
    let j = rw c.deref.ensures.value at h in
    let f = rw (← c.self.view_is) at (c.requires.fresh row (rw c.deref-2.ensures.value at i)) in
    f (subst (In row) (sym (relation_from a.columns.items a.keys.items (cells_of a.logs.items)
    a.live.ids _ c.args.stamp c.args.stamp c.self.invariant.kept b (omega arith)
    c.requires.valid)) j)

pub returns-clause-fits : goal.returns-clause-fits
returns-clause-fits c =
    let a = c.self.inside in
    let b = rw (← c.self.view_is) at c.requires.before in
    let r = rw (← c.self.view_is) at c.requires.lost in
    let g = rw (← c.self.view_is) at c.requires.gained in
    let n : c.len-3.result ≡ length a.keys.items = search rules in
    let s = rw (c.deref.ensures.value, c.deref-2.ensures.value, n) at
    c.in_ok-found.ensures.spliced in
    let p = c.in_ok-found.ensures.placed in
    let m = rw c.deref-2.ensures.value at c.in_ok-found.ensures.more in
    let e : c.prepare_parts.new.self ≡ store_of a.columns.items a.keys.items (cells_of a.logs.items)
    c.prepare_parts.new.self.spare (indexed_columns a.others.items) =
    rw (← c.self.view_is) at c.in_ok-prepared.ensures.same in
    rw (c.in_ok-prepared.ensures.made, e) (change_fits a.columns.items a.keys.items
    (cells_of a.logs.items) a.live.ids _ c.self.invariant.kept c.args.stamp b c.requires.valid
    c.args.lost.now c.args.gained.items r g c.in_ok-found.found.items _ s p m _
    c.in_ok-prepared.ensures.room)

pub returns-clause-room : goal.returns-clause-room
returns-clause-room c =
    rw c.in_ok-prepared.ensures.made (le_trans (least_rows_room c.args.gained.items)
    c.in_ok-prepared.ensures.room)

pub returns-clause-leads : goal.returns-clause-leads
returns-clause-leads c =
    let a = c.self.inside in
    let b = rw (← c.self.view_is) at c.requires.before in
    let r = rw (← c.self.view_is) at c.requires.lost in
    let g = rw (← c.self.view_is) at c.requires.gained in
    let n : c.len-3.result ≡ length a.keys.items = search rules in
    let s = rw (c.deref.ensures.value, c.deref-2.ensures.value, n) at
    c.in_ok-found.ensures.spliced in
    let p = c.in_ok-found.ensures.placed in
    let m = rw c.deref-2.ensures.value at c.in_ok-found.ensures.more in
    let e : c.prepare_parts.new.self ≡ store_of a.columns.items a.keys.items (cells_of a.logs.items)
    c.prepare_parts.new.self.spare (indexed_columns a.others.items) =
    rw (← c.self.view_is) at c.in_ok-prepared.ensures.same in
    rw (← c.self.view_is, c.in_ok-prepared.ensures.made, e)
    (change_leads a.columns.items a.keys.items (cells_of a.logs.items) a.live.ids _
    c.self.invariant.kept c.args.stamp b c.requires.valid c.args.lost.now c.args.gained.items r
    g c.in_ok-found.found.items _ s p m _ _)

pub returns-clause-lost : goal.returns-clause-lost
returns-clause-lost c =
    let a = c.self.inside in
    let b = rw (← c.self.view_is) at c.requires.before in
    let r = rw (← c.self.view_is) at c.requires.lost in
    let g = rw (← c.self.view_is) at c.requires.gained in
    let n : c.len-3.result ≡ length a.keys.items = search rules in
    let s = rw (c.deref.ensures.value, c.deref-2.ensures.value, n) at
    c.in_ok-found.ensures.spliced in
    let p = c.in_ok-found.ensures.placed in
    let m = rw c.deref-2.ensures.value at c.in_ok-found.ensures.more in
    rw (← c.self.view_is, c.in_ok-prepared.ensures.made)
    (change_lost a.columns.items a.keys.items (cells_of a.logs.items) a.live.ids _
    c.self.invariant.kept c.args.stamp b c.requires.valid c.args.lost.now c.args.gained.items r
    g c.in_ok-found.found.items _ s p m)
