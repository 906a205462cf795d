use Rattle.std.proofs.Common.{◌≡◌, ◌<◌, ◌≤◌, ℕ, get_or, vec_len}
use Rattle.history_store_writes.specs.ValueIndexes.{Indexed, IsLosing}
use Rattle.history_store_writes.proofs.other_index.lose_all.Given as goal

abbrev pub invariant-loop-k : goal.invariant-loop-k
invariant-loop-k l = record {
  long : vec_len l.others ≡ vec_len l.initial.others;
  done : (j : ℕ) (d : Indexed) → j < l.k → IsLosing l.columns l.lost
      (get_or l.initial.others.items j d) (get_or l.others.items j d);
  rest : (j : ℕ) (d : Indexed) → l.k ≤ j → get_or l.others.items j d
      ≡ get_or l.initial.others.items j d;
}
