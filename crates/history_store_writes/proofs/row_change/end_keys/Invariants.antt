use Rattle.std.proofs.Common.{◌≡◌, ◌<◌, ℕ, get_or, drop, vec_len, vec_capacity}
use Rattle.history_store_columns.specs.Keys.{no_span}
use Rattle.history_store_writes.specs.Writing.{end_keys}
use Rattle.history_store_writes.proofs.row_change.end_keys.Given as goal

abbrev pub invariant-loop-id : goal.invariant-loop-id
invariant-loop-id l = record {
  rest : end_keys l.ids l.stamp l.initial.keys.items
      ≡ end_keys (drop l.id-index l.ids) l.stamp l.keys.items;
  long : vec_len l.keys ≡ vec_len l.initial.keys;
  room : vec_capacity l.keys ≡ vec_capacity l.initial.keys;
  later : (k : ℕ) → k < vec_len l.keys → (get_or l.keys.items k no_span).start < l.stamp;
}
