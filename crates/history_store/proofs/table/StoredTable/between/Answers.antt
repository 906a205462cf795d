use Rattle.std.proofs.Common.{refl, sym, ◌∙◌}
use Rattle.history_store_row_order.specs.Logs.{cells_of}
use Rattle.history_store_row_order.proofs.Cells.{length-cells_of}
use Rattle.history_store_change_spec.proofs.Preparing.{all_known_in}
use Rattle.history_store_change_spec.proofs.Showing.{relation_now}
use Rattle.history_store_row_order.proofs.Cutting.{ids_from}
use Rattle.history_store_change_spec.proofs.Making.{wide_now}
use Rattle.history_store.proofs.table.StoredTable.between.Goals as goal

pub count_before-end-requires-clause-narrow : goal.count_before-end-requires-clause-narrow
count_before-end-requires-clause-narrow c =
    let a = c.self.inside in
    let n = rw (← c.self.view_is) at c.requires.to in
    rw (c.deref.ensures.value, ← length-cells_of a.logs.items, c.self.invariant.kept.width) n

pub count_before-end-requires-clause-known : goal.count_before-end-requires-clause-known
count_before-end-requires-clause-known c =
    let a = c.self.inside in
    all_known_in a.live.ids a.live.ids a.keys.items a.logs.items c.deref.result.now refl
    c.deref.ensures.value c.self.invariant.kept.stored.are_open c.self.invariant.ids

pub count_before-requires-clause-narrow : goal.count_before-requires-clause-narrow
count_before-requires-clause-narrow c =
    let a = c.self.inside in
    let n = rw (← c.self.view_is) at c.requires.from in
    rw (c.deref-2.ensures.value, ← length-cells_of a.logs.items, c.self.invariant.kept.width) n

pub count_before-requires-clause-known : goal.count_before-requires-clause-known
count_before-requires-clause-known c =
    let a = c.self.inside in
    all_known_in a.live.ids a.live.ids a.keys.items a.logs.items c.deref-2.result.now refl
    c.deref-2.ensures.value c.self.invariant.kept.stored.are_open c.self.invariant.ids

pub over-requires-clause-known : goal.over-requires-clause-known
over-requires-clause-known c =
    let a = c.self.inside in
    all_known_in a.live.ids a.live.ids a.keys.items a.logs.items c.deref-3.result.now refl
    c.deref-3.ensures.value c.self.invariant.kept.stored.are_open c.self.invariant.ids

pub over-requires-clause-whole : goal.over-requires-clause-whole
over-requires-clause-whole c = λ q i.
    let a = c.self.inside in
    rw c.deref-3.ensures.value (wide_now a.columns.items a.keys.items a.logs.items a.live.ids
    c.self.invariant.kept q i)

pub returns : goal.returns
returns c = record {
  rows = λ m l h.
      let a = c.self.inside in
      let b = rw (← c.self.view_is) at h in
      let e = relation_now a.columns.items a.keys.items (cells_of a.logs.items) a.live.ids _ m
      c.self.invariant.kept b l in
      let f = rw c.deref.ensures.value at c.count_before-end.ensures in
      let g = rw c.deref-2.ensures.value at c.count_before.ensures in
      let o = rw (c.deref-3.ensures.value, c.min-start.ensures) at c.over.ensures in
      rw (← c.self.view_is, e) (o ∙ ids_from c.args.from.now c.args.to.now (cells_of a.logs.items)
      a.live.ids c.count_before.result c.count_before-end.result f.within (g.before, g.after)
      (f.before, f.after));
}
