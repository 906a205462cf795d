use Rattle.std.proofs.Common.{◌≡◌, ◌+◌, ◌<◌, [], get_or, length, refl, sym, ap, ◌∙◌, subst, arith}
use Rattle.history_store_row_order.specs.Logs.{cells_of}
use Rattle.history_store_writes.specs.ValueIndexes.{Indexed, IsIndexed}
use Rattle.history_store_change_spec.proofs.Preparing.{all_known_in}
use Rattle.history_store_change_spec.proofs.Showing.{stored_at}
use Rattle.history_store_writes.proofs.Others.{one_ready}
use Rattle.history_store_change_spec.proofs.Making.{wide_now}
use Rattle.history_store_change_spec.proofs.WithValue.{rows_found}
use Rattle.history_store.proofs.table.StoredTable.rows_with.Goals as goal

pub rows_with-requires-clause-ready : goal.rows_with-requires-clause-ready
rows_with-requires-clause-ready c =
    let a = c.self.inside in
    let h = subst (λ xs. c.in-Some.at < length xs) c.deref.ensures.value c.in-Some.ensures.at.0 in
    let i = subst (IsIndexed (cells_of a.logs.items) a.live.ids []) (sym c.index.ensures)
    (c.self.invariant.others c.in-Some.at c.index.result.now h) in
    rw c.deref-in-Some.ensures.value (one_ready a.logs.items (length a.keys.items) a.live.ids []
    c.index.result.now (λ q j. (c.self.invariant.kept.stored.are_open q j).0)
    c.self.invariant.ids i)

pub rows_with-requires-clause-known : goal.rows_with-requires-clause-known
rows_with-requires-clause-known c = λ q j.
    let a = c.self.inside in
    let h = subst (λ xs. c.in-Some.at < length xs) c.deref.ensures.value c.in-Some.ensures.at.0 in
    let i = subst (IsIndexed (cells_of a.logs.items) a.live.ids []) (sym c.index.ensures)
    (c.self.invariant.others c.in-Some.at c.index.result.now h) in
    all_known_in a.live.ids a.live.ids a.keys.items a.logs.items c.deref-in-Some.result.now refl
    c.deref-in-Some.ensures.value c.self.invariant.kept.stored.are_open c.self.invariant.ids q
    (i.only q j).0

pub rows_with-requires-clause-whole : goal.rows_with-requires-clause-whole
rows_with-requires-clause-whole c = λ q j.
    let a = c.self.inside in
    let h = subst (λ xs. c.in-Some.at < length xs) c.deref.ensures.value c.in-Some.ensures.at.0 in
    let i = subst (IsIndexed (cells_of a.logs.items) a.live.ids []) (sym c.index.ensures)
    (c.self.invariant.others c.in-Some.at c.index.result.now h) in
    rw c.deref-in-Some.ensures.value (wide_now a.columns.items a.keys.items a.logs.items a.live.ids
    c.self.invariant.kept q (i.only q j).0)

pub returns-in-Some-clause-rows : goal.returns-in-Some-clause-rows
returns-in-Some-clause-rows c = λ m l h.
    let a = c.self.inside in
    let b = rw (← c.self.view_is) at h in
    let t = stored_at a.columns.items a.keys.items (cells_of a.logs.items) a.live.ids _ (m + 1) m
    c.self.invariant.kept b (omega arith) in
    let n = subst (λ xs. c.in-Some.at < length xs) c.deref.ensures.value c.in-Some.ensures.at.0 in
    let i = subst (IsIndexed (cells_of a.logs.items) a.live.ids []) (sym c.index.ensures)
    (c.self.invariant.others c.in-Some.at c.index.result.now n) in
    let k : c.index.result.now.column ≡ c.args.column =
    ap (λ (x : Indexed). x.column) c.index.ensures
    ∙ subst (λ xs. (get_or xs c.in-Some.at c.index.result.now).column ≡ c.args.column)
    c.deref.ensures.value (c.in-Some.ensures.at.1 c.index.result.now) in
    rw (← c.self.view_is, ← k) (rw c.deref-in-Some.ensures.value at c.rows_with.ensures
    ∙ rows_found a.keys.items (cells_of a.logs.items) a.live.ids m
    c.self.invariant.kept.histories t l c.index.result.now i c.args.value.now)
