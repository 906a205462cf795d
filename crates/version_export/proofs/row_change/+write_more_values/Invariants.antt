use Rattle.std.proofs.Common.{length}
use Rattle.version_export.proofs.row_change.+write_more_values.Given as goal

abbrev pub decreases-write_more_values : goal.decreases-write_more_values
decreases-write_more_values l = length l.columns.now
