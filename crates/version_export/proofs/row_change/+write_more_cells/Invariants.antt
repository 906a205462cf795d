use Rattle.std.proofs.Common.{length}
use Rattle.version_export.proofs.row_change.+write_more_cells.Given as goal

abbrev pub decreases-write_more_cells : goal.decreases-write_more_cells
decreases-write_more_cells l = length l.columns.now
