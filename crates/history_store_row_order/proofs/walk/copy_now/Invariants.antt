use Rattle.std.proofs.Common.{◌≡◌, ◌++◌, drop}
use Rattle.history_store_row_order.specs.Logs.{cells_of}
use Rattle.history_store_row_order.specs.Rows.{row_now}
use Rattle.history_store_row_order.proofs.walk.copy_now.Given as goal

abbrev pub invariant-loop-column : goal.invariant-loop-column
invariant-loop-column l = record {
  same : row_now l.id (cells_of l.columns) ≡ l.values.items
      ++ row_now l.id (cells_of (drop l.column-index l.columns));
}
