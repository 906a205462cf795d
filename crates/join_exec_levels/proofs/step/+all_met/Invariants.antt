use Rattle.std.proofs.Common.{length}
use Rattle.join_exec_levels.proofs.step.+all_met.Given as goal

abbrev pub decreases-all_met : goal.decreases-all_met
decreases-all_met l = length l.conds.now
