use Rattle.std.proofs.Common.{◌≤◌, take}
use Rattle.history_store_value_order.specs.ByValue.{IsWithout}
use Rattle.history_store_value_order.proofs.order.take_each.Given as goal

abbrev pub invariant-loop-id : goal.invariant-loop-id
invariant-loop-id l = record {
  without : IsWithout l.column.cells (take l.id-index l.ids) l.initial.index.ids l.index.ids;
  room : l.initial.index.room ≤ l.index.room;
}
