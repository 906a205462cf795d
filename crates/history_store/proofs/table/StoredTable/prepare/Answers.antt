use Rattle.std.proofs.Common.{rules, ◌≡◌, length, refl, sym, ap, subst, ◌∙◌}
use Rattle.std.proofs.Math.Nat.{le_trans}
use Rattle.history_store_row_order.specs.Rows.{AllWidth}
use Rattle.history_store_row_order.specs.Logs.{cells_of}
use Rattle.history_store_writes.specs.ValueIndexes.{indexed_columns}
use Rattle.history_store_change_spec.specs.Kept.{store_of}
use Rattle.history_store_row_order.proofs.Cells.{length-cells_of}
use Rattle.history_store_writes.proofs.Room.{least_rows_room}
use Rattle.history_store_change_spec.proofs.Making.{all_wide, made_leads, made_fits, made_gained}
use Rattle.history_store_change_spec.proofs.Making.{made_lost}
use Rattle.history_store_change_spec.proofs.Preparing.{all_known}
use Rattle.history_store.proofs.table.StoredTable.prepare.Goals as goal

pub find_change-requires-clause-wide : goal.find_change-requires-clause-wide
find_change-requires-clause-wide c =
    let a = c.self.inside in
    let r = rw (← c.self.view_is) at c.requires.relation in
    subst (λ n. AllWidth n c.args.rows.now) (length-cells_of a.logs.items
    ∙ ap length (sym c.deref.ensures.value))
    (all_wide a.columns.items (cells_of a.logs.items) c.args.rows.now
    c.self.invariant.kept.width r)

pub find_change-requires-clause-known : goal.find_change-requires-clause-known
find_change-requires-clause-known c =
    let a = c.self.inside in
    all_known a.live.ids a.live.ids a.keys.items a.logs.items c.deref.result.now refl
    c.deref.ensures.value c.self.invariant.kept.stored.are_open c.self.invariant.ids

pub returns-clause-fits : goal.returns-clause-fits
returns-clause-fits c =
    let a = c.self.inside in
    let b = rw (← c.self.view_is) at c.requires.before in
    let r = rw (← c.self.view_is) at c.requires.relation in
    let n : c.len-2.result ≡ length a.keys.items = search rules in
    let lost = rw c.deref.ensures.value at c.in_ok-lost.ensures.lost in
    let gained = rw c.deref.ensures.value at c.in_ok-lost.ensures.gained in
    let after = rw (c.deref.ensures.value, n) at c.in_ok-lost.ensures.after in
    let e : c.prepare_parts.new.self ≡ store_of a.columns.items a.keys.items (cells_of a.logs.items)
    c.prepare_parts.new.self.spare (indexed_columns a.others.items) =
    rw (← c.self.view_is) at c.in_ok-prepared.ensures.same in
    let room = rw gained at c.in_ok-prepared.ensures.room in
    rw (c.in_ok-prepared.ensures.made, e, lost, gained, after)
    (made_fits a.columns.items a.keys.items (cells_of a.logs.items) a.live.ids _
    c.self.invariant.kept c.args.stamp b c.requires.valid c.args.rows.now r _ room)

pub returns-clause-room : goal.returns-clause-room
returns-clause-room c =
    rw c.in_ok-prepared.ensures.made (le_trans (least_rows_room c.in_ok-lost.field-0.gained.items)
    c.in_ok-prepared.ensures.room)

pub returns-clause-leads : goal.returns-clause-leads
returns-clause-leads c =
    let a = c.self.inside in
    let b = rw (← c.self.view_is) at c.requires.before in
    let r = rw (← c.self.view_is) at c.requires.relation in
    let n : c.len-2.result ≡ length a.keys.items = search rules in
    let lost = rw c.deref.ensures.value at c.in_ok-lost.ensures.lost in
    let gained = rw c.deref.ensures.value at c.in_ok-lost.ensures.gained in
    let after = rw (c.deref.ensures.value, n) at c.in_ok-lost.ensures.after in
    let e : c.prepare_parts.new.self ≡ store_of a.columns.items a.keys.items (cells_of a.logs.items)
    c.prepare_parts.new.self.spare (indexed_columns a.others.items) =
    rw (← c.self.view_is) at c.in_ok-prepared.ensures.same in
    rw (c.in_ok-prepared.ensures.made, e, lost, gained, after)
    (made_leads a.columns.items a.keys.items (cells_of a.logs.items) a.live.ids _
    c.self.invariant.kept c.args.stamp b c.requires.valid c.args.rows.now r _ _)

pub returns-clause-lost : goal.returns-clause-lost
returns-clause-lost c =
    let a = c.self.inside in
    let b = rw (← c.self.view_is) at c.requires.before in
    let r = rw (← c.self.view_is) at c.requires.relation in
    let lost = rw c.deref.ensures.value at c.in_ok-lost.ensures.lost in
    rw (c.in_ok-prepared.ensures.made, ← c.self.view_is, lost)
    (made_lost a.columns.items a.keys.items (cells_of a.logs.items) a.live.ids _
    c.self.invariant.kept c.args.stamp b c.requires.valid c.args.rows.now r)

pub returns-clause-gained : goal.returns-clause-gained
returns-clause-gained c =
    let a = c.self.inside in
    let b = rw (← c.self.view_is) at c.requires.before in
    let r = rw (← c.self.view_is) at c.requires.relation in
    let gained = rw c.deref.ensures.value at c.in_ok-lost.ensures.gained in
    rw (c.in_ok-prepared.ensures.made, ← c.self.view_is, gained)
    (made_gained a.columns.items a.keys.items (cells_of a.logs.items) a.live.ids _
    c.self.invariant.kept c.args.stamp b c.requires.valid c.args.rows.now r)
