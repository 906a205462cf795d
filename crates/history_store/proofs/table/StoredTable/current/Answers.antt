use Rattle.std.proofs.Common.{◌≡◌, ◌∙◌, sym, List, subst}
use Rattle.std.proofs.lemmas.Result.{IfOk-weaker}
use Rattle.prima_base.specs.declared.value.Value.{Value}
use Rattle.history_store_row_order.specs.Logs.{cells_of}
use Rattle.history_store_row_order.specs.Rows.{rows_of}
use Rattle.history_store.specs.Store.{IsRelation}
use Rattle.history_store_change_spec.proofs.Preparing.{all_known}
use Rattle.history_store_change_spec.proofs.Showing.{relation_now, current_relation}
use Rattle.history_store.proofs.table.StoredTable.current.Goals as goal

pub copy_rows-requires : goal.copy_rows-requires
copy_rows-requires g c =
    let a = c.self.inside in
    all_known a.live.ids c.deref-2.result.now a.keys.items a.logs.items c.deref.result.now
    (c.deref-2.ensures.value ∙ c.in_ok-copy.ensures) c.deref.ensures.value
    c.self.invariant.kept.stored.are_open c.self.invariant.ids

pub returns-clause-rows : goal.returns-clause-rows
returns-clause-rows g c m l h =
    let a = c.self.inside in
    let b = rw (← c.self.view_is) at h in
    let e = relation_now a.columns.items a.keys.items (cells_of a.logs.items) a.live.ids _ m
    c.self.invariant.kept b l in
    rw (← c.self.view_is, e) (rw (
      c.deref.ensures.value,
      c.deref-2.ensures.value,
      c.in_ok-copy.ensures,
    ) at c.copy_rows.ensures.rows)

pub returns-clause-relation : goal.returns-clause-relation
returns-clause-relation g c =
    let a = c.self.inside in
    let r = current_relation a.columns.items a.keys.items (cells_of a.logs.items) a.live.ids
    c.self.invariant.kept in
    rw (← c.self.view_is) (IfOk-weaker c.copy_rows.result
    (λ v. v.items ≡ rows_of a.live.ids (cells_of a.logs.items))
    (λ v. IsRelation a.columns.items v.items)
    (λ v e. subst (λ (rs : List (List Value)). IsRelation a.columns.items rs) (sym e) r)
    (rw (c.deref.ensures.value, c.deref-2.ensures.value, c.in_ok-copy.ensures) at
    c.copy_rows.ensures.rows))
