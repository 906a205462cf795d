use Rattle.std.proofs.Common.{◌≡◌, ◌≤◌, drop, length}
use Rattle.history_store_row_order.specs.Indexes.{with_each}
use Rattle.history_store_row_order.proofs.index_splice.put_each.Given as goal

abbrev pub invariant-put : goal.invariant-put
invariant-put l = record {
  within : l.k ≤ length l.to;
  ids : l.live.ids ≡ with_each (drop l.k l.to) l.initial.live.ids;
  room : l.k ≤ l.live.room;
}

abbrev pub decreases-put : goal.decreases-put
decreases-put l = l.k
