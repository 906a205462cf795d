use Rattle.std.proofs.Common.{length}
use Rattle.smo_ops_widths.proofs.way.+carry_each.Given as goal

abbrev pub decreases-carry_each : goal.decreases-carry_each
decreases-carry_each l = length l.ops.now
