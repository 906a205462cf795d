use Rattle.std.proofs.Common.{length}
use Rattle.rewrite_losses.proofs.made_table.+columns_lost.Given as goal

abbrev pub decreases-columns_lost : goal.decreases-columns_lost
decreases-columns_lost l = length l.columns.now
