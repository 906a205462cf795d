use Rattle.std.proofs.Common.{◌≡◌, ◌+◌, ◌++◌, drop, length}
use Rattle.history_store_row_order.specs.Logs.{cells_of}
use Rattle.history_store_row_order.specs.Rows.{rows_of}
use Rattle.history_store_row_order.proofs.walk.copy_rows.Given as goal

abbrev pub invariant-loop-id : goal.invariant-loop-id
invariant-loop-id g l = record {
  same : rows_of l.live (cells_of l.columns) ≡ l.rows.items
      ++ rows_of (drop l.id-index l.live) (cells_of l.columns);
  cost : l.steps ≡ l.initial.steps + length l.rows.items;
}
