use Rattle.std.proofs.Common.{sym, ◌∙◌}
use Rattle.history_store_row_order.specs.Logs.{cells_of}
use Rattle.history_store_change_spec.proofs.CellCounts.{all_count}
use Rattle.history_store.proofs.table.StoredTable.cells.Goals as goal

pub returns : goal.returns
returns c =
    let a = c.self.inside in
    let e = rw c.deref.ensures.value at c.count_cells.ensures in
    rw (← c.self.view_is) (e ∙ sym (all_count a.keys.items (cells_of a.logs.items)
    c.self.invariant.kept.histories))
