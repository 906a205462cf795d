use Rattle.history_store_row_order.proofs.Cells.{length-cells_of}
use Rattle.history_store_writes.proofs.row_change.check_count.Goals as goal

pub returns : goal.returns
returns c = rw (length-cells_of c.args.columns.now, ← c.count_cells.ensures, ← c.max-width.ensures)
    c.if-more-count_cells.false
