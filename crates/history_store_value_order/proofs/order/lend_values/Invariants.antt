use Rattle.std.proofs.Common.{◌≡◌, [], ◌∷◌, map, take, All}
use Rattle.prima_base.specs.Order.{shown, IsBorrowed}
use Rattle.history_store_columns.specs.Log.{newest}
use Rattle.history_store_value_order.proofs.order.lend_values.Given as goal

abbrev pub invariant-loop-id : goal.invariant-loop-id
invariant-loop-id l = record {
  ids : map (λ m. m.1) l.marks.items ≡ take l.id-index l.live;
  values : All (λ m. newest m.1 l.column.cells ≡ shown m.0 ∷ []) l.marks.items;
  borrowed : All (λ m. IsBorrowed m.0) l.marks.items;
}
