use Rattle.std.proofs.Common.{◌<◌, ◌≤◌, ◌-◌, length, get_or}
use Rattle.history_store_index.proofs.index.find_block.Given as goal

abbrev pub invariant-halves : goal.invariant-halves
invariant-halves l = record {
  apart : l.low < l.high;
  inside : l.high ≤ length l.starts;
  from : get_or l.starts l.low 0 ≤ l.at;
  next : l.high < length l.starts → l.at < get_or l.starts l.high 0;
}

abbrev pub decreases-halves : goal.decreases-halves
decreases-halves l = l.high - l.low
