use Rattle.std.proofs.Common.{length}
use Rattle.smo_ops_columns.proofs.column_join.+joined_columns.Given as goal

abbrev pub decreases-joined_columns : goal.decreases-joined_columns
decreases-joined_columns l = length l.columns.now
