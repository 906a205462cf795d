use Rattle.std.proofs.Common.{length}
use Rattle.temporal_lang.proofs.node_place.+count_in_branches.Given as goal

abbrev pub decreases-count_in_branches : goal.decreases-count_in_branches
decreases-count_in_branches l = length l.branches.now
