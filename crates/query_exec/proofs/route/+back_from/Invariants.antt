use Rattle.std.proofs.Common.{length}
use Rattle.query_exec.proofs.route.+back_from.Given as goal

abbrev pub decreases-back_from : goal.decreases-back_from
decreases-back_from l = length l.parts.now
