use Rattle.std.proofs.Common.{◌≤◌, ◌+◌, take}
use Rattle.history_store_value_order.specs.ByValue.{ids_handed, IsWith}
use Rattle.history_store_value_order.proofs.order.put_handed.Given as goal

abbrev pub invariant-loop-at : goal.invariant-loop-at
invariant-loop-at l = record {
  with_them : IsWith l.column.cells (take l.at (ids_handed l.lost l.next l.count))
      l.initial.index.ids l.index.ids;
  room : l.initial.index.room ≤ l.index.room + l.at;
}
