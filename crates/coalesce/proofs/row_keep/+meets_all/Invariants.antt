use Rattle.std.proofs.Common.{length}
use Rattle.coalesce.proofs.row_keep.+meets_all.Given as goal

abbrev pub decreases-meets_all : goal.decreases-meets_all
decreases-meets_all l = length l.conditions.now
