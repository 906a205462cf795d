use Rattle.std.proofs.Common.{length, drop}
use Rattle.history_store_row_order.specs.Logs.{cells_of}
use Rattle.history_store_row_order.specs.Rows.{AllWidth}
use Rattle.history_store_row_order.proofs.Splicing.{IsTaken}
use Rattle.history_store_row_order.proofs.index_splice.take_out.Given as goal

abbrev pub invariant-loop-row : goal.invariant-loop-row
invariant-loop-row l = record {
  taken : IsTaken (cells_of l.columns) l.live l.found.items l.kept.items l.rest l.lost
      (drop l.row-index l.lost);
  wide : AllWidth (length l.columns) (drop l.row-index l.lost);
}
