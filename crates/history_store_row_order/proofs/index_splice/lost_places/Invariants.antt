use Rattle.std.proofs.Common.{length, drop}
use Rattle.history_store_row_order.specs.Logs.{cells_of}
use Rattle.history_store_row_order.specs.Rows.{AllWidth}
use Rattle.history_store_row_order.proofs.Places.{ArePlaces}
use Rattle.history_store_row_order.proofs.index_splice.lost_places.Given as goal

abbrev pub invariant-loop-row : goal.invariant-loop-row
invariant-loop-row l = record {
  places : ArePlaces (cells_of l.columns) l.live.ids l.found.items l.from.items l.lost
      (drop l.row-index l.lost);
  wide : AllWidth (length l.columns) (drop l.row-index l.lost);
}
