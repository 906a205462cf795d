use Rattle.std.proofs.Common.{length}
use Rattle.rewrite_losses.proofs.lost_item.+first_of_items.Given as goal

abbrev pub decreases-first_of_items : goal.decreases-first_of_items
decreases-first_of_items l = length l.from.now
