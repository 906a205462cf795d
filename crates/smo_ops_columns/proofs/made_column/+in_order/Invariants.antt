use Rattle.std.proofs.Common.{length}
use Rattle.smo_ops_columns.proofs.made_column.+in_order.Given as goal

abbrev pub decreases-in_order : goal.decreases-in_order
decreases-in_order l = length l.columns.now
