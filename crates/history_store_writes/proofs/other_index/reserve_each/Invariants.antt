use Rattle.std.proofs.Common.{◌≡◌, ◌<◌, ◌≤◌, ℕ, get_or, vec_len}
use Rattle.history_store_writes.specs.ValueIndexes.{Indexed, least_room}
use Rattle.history_store_writes.proofs.other_index.reserve_each.Given as goal

abbrev pub invariant-loop-k : goal.invariant-loop-k
invariant-loop-k l = record {
  long : vec_len l.others ≡ vec_len l.initial.others;
  same : (j : ℕ) (d : Indexed) → j < vec_len l.initial.others
      → ((get_or l.others.items j d).column ≡ (get_or l.initial.others.items j d).column)
      × ((get_or l.others.items j d).ids ≡ (get_or l.initial.others.items j d).ids);
  kept : (room : ℕ) → least_room room l.initial.others.items ≤ least_room room l.others.items;
  room : (j : ℕ) (d : Indexed) → j < l.k → l.more ≤ (get_or l.others.items j d).room;
}
