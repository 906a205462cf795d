use Rattle.history_store_row_order.specs.Logs.{cells_of}
use Rattle.history_store_change_spec.proofs.Showing.{relation_now, current_relation}
use Rattle.history_store.proofs.table.StoredTable.rows_are_a_relation.Goals as goal

pub returns : goal.returns
returns c m l h =
    let a = c.self.inside in
    let b = rw (← c.self.view_is) at h in
    let e = relation_now a.columns.items a.keys.items (cells_of a.logs.items) a.live.ids _ m
    c.self.invariant.kept b l in
    rw (← c.self.view_is, e) (current_relation a.columns.items a.keys.items (cells_of a.logs.items)
    a.live.ids c.self.invariant.kept)
