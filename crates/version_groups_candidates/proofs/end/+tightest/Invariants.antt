use Rattle.std.proofs.Common.{◌≡◌, ◌≤◌, length, map, drop}
use Rattle.cond_expr.specs.Seen.{test, tests_of}
use Rattle.cond_expr.specs.Parts.{all_parts}
use Rattle.version_groups_candidates.specs.Ranges.{tightest}
use Rattle.version_groups_candidates.proofs.end.+tightest.Given as goal

abbrev pub invariant-tightest_of_all-members : goal.invariant-tightest_of_all-members
invariant-tightest_of_all-members l = record {
  within : l.k ≤ length l.members;
  same : l.tightest ≡ tightest l.side l.column
      (all_parts (tests_of (map test (drop l.k l.members)))) l.fn.end;
}

abbrev pub decreases-tightest_of_all-members : goal.decreases-tightest_of_all-members
decreases-tightest_of_all-members l = l.k
