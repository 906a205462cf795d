use Rattle.std.proofs.Common.{rules, ◌≡◌, [], length, arith, refl, sym, ap, subst, ◌∙◌}
use Rattle.std.proofs.Math.Nat.{le_trans}
use Rattle.history_store_row_order.specs.Rows.{AllWidth}
use Rattle.history_store_row_order.specs.Handing.{only_in}
use Rattle.history_store_row_order.specs.Logs.{cells_of}
use Rattle.history_store_writes.specs.ValueIndexes.{indexed_columns}
use Rattle.history_store.specs.Store.{IsRelation}
use Rattle.history_store_change_spec.specs.Kept.{store_of}
use Rattle.history_store_row_order.proofs.Cells.{length-cells_of}
use Rattle.history_store_row_order.proofs.Coming.{only_relation, no_relation}
use Rattle.history_store_writes.proofs.Room.{least_rows_room}
use Rattle.history_store_change_spec.proofs.Making.{all_wide}
use Rattle.history_store_change_spec.proofs.Preparing.{all_known_in}
use Rattle.history_store_change_spec.proofs.Installing.{relation_from}
use Rattle.history_store_change_spec.proofs.Changing.{change_fits, change_leads}
use Rattle.history_store.proofs.table.StoredTable.prepare_union.Goals as goal

pub splice_fresh-requires-clause-wide : goal.splice_fresh-requires-clause-wide
splice_fresh-requires-clause-wide c =
    let a = c.self.inside in
    let r = rw (← c.self.view_is) at c.requires.relation in
    subst (λ n. AllWidth n c.args.rows.items)
    (length-cells_of a.logs.items ∙ ap length (sym c.deref.ensures.value))
    (all_wide a.columns.items (cells_of a.logs.items) c.args.rows.items
    c.self.invariant.kept.width r)

pub splice_fresh-requires-clause-known : goal.splice_fresh-requires-clause-known
splice_fresh-requires-clause-known c =
    let a = c.self.inside in
    all_known_in a.live.ids a.live.ids a.keys.items a.logs.items c.deref.result.now refl
    c.deref.ensures.value c.self.invariant.kept.stored.are_open c.self.invariant.ids

pub returns-clause-fits : goal.returns-clause-fits
returns-clause-fits c =
    let a = c.self.inside in
    let b = rw (← c.self.view_is) at c.requires.before in
    let r = rw (← c.self.view_is) at c.requires.relation in
    let n : c.len-3.result ≡ length a.keys.items = search rules in
    let f = rw c.deref.ensures.value at c.in_ok-gained.ensures.gained in
    let g : IsRelation a.columns.items c.in_ok-gained.gained.items =
    subst (IsRelation a.columns.items) (sym f)
    (only_relation a.columns.items c.args.rows.items _ r) in
    let s = rw (c.deref.ensures.value, n) at c.in_ok-gained.ensures.spliced in
    let e : c.prepare_parts.new.self ≡ store_of a.columns.items a.keys.items (cells_of a.logs.items)
    c.prepare_parts.new.self.spare (indexed_columns a.others.items) =
    rw (← c.self.view_is) at c.in_ok-prepared.ensures.same in
    rw (c.in_ok-prepared.ensures.made, e, c.new-lost.ensures.items)
    (change_fits a.columns.items a.keys.items (cells_of a.logs.items) a.live.ids _
    c.self.invariant.kept c.args.stamp b c.requires.valid [] c.in_ok-gained.gained.items
    (no_relation a.columns.items) g [] _ s c.in_ok-gained.ensures.placed
    c.in_ok-gained.ensures.more _ c.in_ok-prepared.ensures.room)

pub returns-clause-room : goal.returns-clause-room
returns-clause-room c =
    rw c.in_ok-prepared.ensures.made (le_trans (least_rows_room c.in_ok-gained.gained.items)
    c.in_ok-prepared.ensures.room)

pub returns-clause-lost : goal.returns-clause-lost
returns-clause-lost c =
    rw (c.in_ok-prepared.ensures.made, c.new-lost.ensures.items) refl

pub returns-clause-gained : goal.returns-clause-gained
returns-clause-gained c =
    let a = c.self.inside in
    let b = rw (← c.self.view_is) at c.requires.before in
    let e = rw c.deref.ensures.value at c.in_ok-gained.ensures.gained in
    rw (c.in_ok-prepared.ensures.made, ← c.self.view_is)
    (e ∙ ap (only_in c.args.rows.items) (sym
    (relation_from a.columns.items a.keys.items (cells_of a.logs.items) a.live.ids _
    c.args.stamp c.args.stamp c.self.invariant.kept b (omega arith) c.requires.valid)))

pub returns-clause-leads : goal.returns-clause-leads
returns-clause-leads c =
    let a = c.self.inside in
    let b = rw (← c.self.view_is) at c.requires.before in
    let r = rw (← c.self.view_is) at c.requires.relation in
    let n : c.len-3.result ≡ length a.keys.items = search rules in
    let f = rw c.deref.ensures.value at c.in_ok-gained.ensures.gained in
    let g : IsRelation a.columns.items c.in_ok-gained.gained.items =
    subst (IsRelation a.columns.items) (sym f)
    (only_relation a.columns.items c.args.rows.items _ r) in
    let s = rw (c.deref.ensures.value, n) at c.in_ok-gained.ensures.spliced in
    let e : c.prepare_parts.new.self ≡ store_of a.columns.items a.keys.items (cells_of a.logs.items)
    c.prepare_parts.new.self.spare (indexed_columns a.others.items) =
    rw (← c.self.view_is) at c.in_ok-prepared.ensures.same in
    rw (← c.self.view_is, c.in_ok-prepared.ensures.made, e, c.new-lost.ensures.items)
    (change_leads a.columns.items a.keys.items (cells_of a.logs.items) a.live.ids _
    c.self.invariant.kept c.args.stamp b c.requires.valid [] c.in_ok-gained.gained.items
    (no_relation a.columns.items) g [] _ s c.in_ok-gained.ensures.placed
    c.in_ok-gained.ensures.more _ _)
