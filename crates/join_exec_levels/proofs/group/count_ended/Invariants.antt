use Rattle.std.proofs.Common.{◌≤◌, ◌<◌, ◌-◌, length, get_or}
use Rattle.join_exec_levels.proofs.group.count_ended.Given as goal

abbrev pub invariant-half : goal.invariant-half
invariant-half l = record {
  order : l.low ≤ l.high;
  within : l.high ≤ length l.ends;
  ended : 0 < l.low → get_or l.ends (l.low - 1) 0 ≤ l.moment;
}

abbrev pub decreases-half : goal.decreases-half
decreases-half l = l.high - l.low
