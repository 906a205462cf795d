use Rattle.std.proofs.Common.{◌≡◌, ◌≤◌, ◌+◌, length, drop}
use Rattle.history_store_row_order.specs.Logs.{cells_of}
use Rattle.history_store_row_order.specs.Rows.{AllWidth}
use Rattle.history_store_row_order.specs.Handing.{handed}
use Rattle.history_store_row_order.proofs.Places.{Come}
use Rattle.history_store_row_order.proofs.index_splice.gained_places.Given as goal

abbrev pub invariant-loop-row : goal.invariant-loop-row
invariant-loop-row l = record {
  come : Come (cells_of l.columns) l.live.ids l.from (handed l.lost l.next l.gained) l.to.items
      (handed (drop l.k l.lost) l.fresh (drop l.row-index l.gained)) l.gained
      (drop l.row-index l.gained);
  wide : AllWidth (length l.columns) (drop l.row-index l.gained);
  few : l.fresh ≤ l.next + l.row-index;
  count : length l.to.items ≡ l.row-index;
}
