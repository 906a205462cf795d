use Rattle.std.proofs.Common.{◌≡◌, ◌+◌, ◌≤◌, ◌++◌, drop, length, map}
use Rattle.std.specs.Prelude.{All}
use Rattle.prima_base.specs.Order.{shown, IsBorrowed}
use Rattle.prima_base.specs.Columns.{IsValid}
use Rattle.history_store_row_order.specs.Logs.{cells_of}
use Rattle.history_store_row_order.specs.Rows.{row_now}
use Rattle.history_store_row_order.proofs.cut.lend_now.Given as goal

abbrev pub invariant-loop-column : goal.invariant-loop-column
invariant-loop-column g l = record {
  values : row_now l.id (cells_of l.columns) ≡ map shown l.row.items
      ++ row_now l.id (cells_of (drop l.column-index l.columns));
  valid : All (λ v. IsValid (shown v)) l.row.items;
  borrowed : All IsBorrowed l.row.items;
  cost : l.steps ≡ l.initial.steps + length l.row.items;
  few : length l.row.items + length (drop l.column-index l.columns) ≤ length l.columns;
}
