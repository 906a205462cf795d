use Rattle.std.proofs.Common.{length}
use Rattle.cond_expr.proofs.evaluation.+lend_column.Given as goal

abbrev pub decreases-lend_column : goal.decreases-lend_column
decreases-lend_column l = length l.columns.now
