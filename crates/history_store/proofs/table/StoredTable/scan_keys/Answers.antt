use Rattle.history_store_row_order.specs.Logs.{cells_of}
use Rattle.history_store_change_spec.proofs.Valid.{is_store}
use Rattle.history_store.proofs.table.StoredTable.scan_keys.Goals as goal

pub returns-clause-valid : goal.returns-clause-valid
returns-clause-valid c = let a = c.self.inside in
    rw (← c.self.view_is) (is_store a.columns.items a.keys.items (cells_of a.logs.items) a.live.ids
    _ c.self.invariant.kept)
