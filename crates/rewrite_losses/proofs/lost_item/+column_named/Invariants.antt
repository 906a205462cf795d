use Rattle.std.proofs.Common.{length}
use Rattle.rewrite_losses.proofs.lost_item.+column_named.Given as goal

abbrev pub decreases-column_named : goal.decreases-column_named
decreases-column_named l = length l.references.now
