use Rattle.std.proofs.Common.{◌≡◌, ◌≤◌, drop}
use Rattle.history_store_row_order.specs.Indexes.{without, AreAmong}
use Rattle.history_store_row_order.proofs.index_splice.take_each.Given as goal

abbrev pub invariant-loop-at : goal.invariant-loop-at
invariant-loop-at l = record {
  ids : without (drop l.at-index l.from) l.live.ids ≡ without l.from l.initial.live.ids;
  among : AreAmong (drop l.at-index l.from) l.live.ids;
  room : l.initial.live.room ≤ l.live.room;
}
