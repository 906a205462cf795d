use Rattle.std.proofs.Common.{◌<◌, ◌≤◌, ℕ, [], length, get_or}
use Rattle.query_exec.proofs.run.stores_no_more.Given as goal

abbrev pub invariant-loop-k : goal.invariant-loop-k
invariant-loop-k l = (i : ℕ) → i < l.k
    → length (get_or l.second.cells i []) ≤ length (get_or l.first.cells i [])
