use Rattle.std.proofs.Common.{◌≡◌, map, take}
use Rattle.history_store_value_order.proofs.order.ids_of.Given as goal

abbrev pub invariant-loop-id : goal.invariant-loop-id
invariant-loop-id g l = record {
  same : l.ids.items ≡ map (λ m. m.1) (take l.id-index l.marks);
}
