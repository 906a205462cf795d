use Rattle.std.proofs.Common.{length}
use Rattle.time_aggregate.proofs.agg_value.+are_same.Given as goal

abbrev pub decreases-are_same : goal.decreases-are_same
decreases-are_same l = length l.values.now
