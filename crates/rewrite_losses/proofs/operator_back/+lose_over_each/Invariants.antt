use Rattle.std.proofs.Common.{length}
use Rattle.rewrite_losses.proofs.operator_back.+lose_over_each.Given as goal

abbrev pub decreases-lose_over_each : goal.decreases-lose_over_each
decreases-lose_over_each l = length l.ops.now
