use Rattle.std.proofs.Common.{◌≡◌, ◌+◌, drop}
use Rattle.history_store_row_order.specs.Logs.{cells_of}
use Rattle.history_store_spec.specs.Store.{cells_in}
use Rattle.history_store_writes.proofs.row_change.count_cells.Given as goal

abbrev pub invariant-loop-column : goal.invariant-loop-column
invariant-loop-column l = l.cells + cells_in (cells_of (drop l.column-index l.columns))
    ≡ cells_in (cells_of l.columns)
