use Rattle.std.proofs.Common.{◌≤◌}
use Rattle.cases_journal.proofs.list.seal_each.Given as goal

abbrev pub invariant-loop-at : goal.invariant-loop-at
invariant-loop-at l = l.begin ≤ l.at
