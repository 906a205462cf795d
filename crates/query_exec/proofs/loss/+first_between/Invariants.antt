use Rattle.std.proofs.Common.{◌-◌}
use Rattle.query_exec.proofs.loss.+first_between.Given as goal

abbrev pub decreases-first_between : goal.decreases-first_between
decreases-first_between l = l.high - l.low
