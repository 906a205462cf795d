use Rattle.std.proofs.Common.{◌≢◌, ◌<◌, ℕ, get_or}
use Rattle.history_store_writes.specs.ValueIndexes.{Indexed}
use Rattle.history_store_writes.proofs.other_index.index_of.Given as goal

abbrev pub invariant-loop-k : goal.invariant-loop-k
invariant-loop-k l = (j : ℕ) (d : Indexed) → j < l.k → (get_or l.others j d).column ≢ l.column
