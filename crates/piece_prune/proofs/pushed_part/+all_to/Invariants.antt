use Rattle.std.proofs.Common.{length}
use Rattle.piece_prune.proofs.pushed_part.+all_to.Given as goal

abbrev pub decreases-all_to : goal.decreases-all_to
decreases-all_to l = length l.references.now
