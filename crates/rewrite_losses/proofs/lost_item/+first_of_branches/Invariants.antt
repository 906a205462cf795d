use Rattle.std.proofs.Common.{length}
use Rattle.rewrite_losses.proofs.lost_item.+first_of_branches.Given as goal

abbrev pub decreases-first_of_branches : goal.decreases-first_of_branches
decreases-first_of_branches l = length l.branches.now
