use Rattle.std.proofs.Common.{length}
use Rattle.version_export.proofs.row_change.+write_more_names.Given as goal

abbrev pub decreases-write_more_names : goal.decreases-write_more_names
decreases-write_more_names l = length l.columns.now
