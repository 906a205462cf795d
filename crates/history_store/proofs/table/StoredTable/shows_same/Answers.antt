use Rattle.std.proofs.Common.{rules, ◌≡◌, length, refl, sym, ap, ◌∙◌}
use Rattle.history_store_row_order.specs.Logs.{cells_of}
use Rattle.history_store_change_spec.proofs.Preparing.{all_known_in}
use Rattle.history_store.proofs.SameRows.{shows}
use Rattle.history_store.proofs.table.StoredTable.shows_same.Goals as goal

pub same_rows-requires-clause-width : goal.same_rows-requires-clause-width
same_rows-requires-clause-width c =
    let n : length c.self.inside.logs.items ≡ length c.other.inside.logs.items = search rules in
    ap length c.deref-5.ensures.value ∙ n ∙ sym (ap length c.deref-6.ensures.value)

pub same_rows-requires-clause-known : goal.same_rows-requires-clause-known
same_rows-requires-clause-known c =
    let a = c.self.inside in
    all_known_in a.live.ids a.live.ids a.keys.items a.logs.items c.deref-5.result.now refl
    c.deref-5.ensures.value c.self.invariant.kept.stored.are_open c.self.invariant.ids

pub same_rows-requires-clause-others : goal.same_rows-requires-clause-others
same_rows-requires-clause-others c =
    let b = c.other.inside in
    all_known_in b.live.ids b.live.ids b.keys.items b.logs.items c.deref-6.result.now refl
    c.deref-6.ensures.value c.other.invariant.kept.stored.are_open c.other.invariant.ids

pub returns : goal.returns
returns c = λ t m l h.
    let a = c.self.inside in
    let b = c.other.inside in
    let f = rw (c.deref.ensures.value, c.deref-2.ensures.value) at
    (c.is_settled.ensures c.if-not-is_settled.false) in
    let g = rw (c.deref-3.ensures.value, c.deref-4.ensures.value) at
    (c.is_settled-2.ensures c.if-not-is_settled-2.false) in
    let rows = rw (c.deref-5.ensures.value, c.deref-6.ensures.value) at (c.same_rows.ensures t) in
    rw (← c.self.view_is, ← c.other.view_is)
    (shows _ a.columns.items a.keys.items (cells_of a.logs.items) a.live.ids _ c.args.from m
    c.self.invariant.kept (f a.live.ids c.self.invariant.kept.stored) l h
    ∙ rows
    ∙ sym (shows _ b.columns.items b.keys.items (cells_of b.logs.items) b.live.ids _ c.args.from m
    c.other.invariant.kept (g b.live.ids c.other.invariant.kept.stored) l h))
