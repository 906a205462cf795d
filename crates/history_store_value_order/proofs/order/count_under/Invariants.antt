use Rattle.std.proofs.Common.{◌≡◌, ◌<◌, ◌≤◌, ◌-◌, ℕ, true, false, [], ◌∷◌, length, get_or}
use Rattle.std.specs.Ordering.{is_lt}
use Rattle.prima_base.specs.Order.{shown}
use Rattle.history_store_value_order.specs.ByValue.{mark_cmp, mark_of}
use Rattle.history_store_value_order.proofs.order.count_under.Given as goal

abbrev pub invariant-halves : goal.invariant-halves
invariant-halves l = record {
  inside : l.high ≤ length l.index.ids;
  apart : l.low ≤ l.high;
  below : (k : ℕ) → k < l.low → is_lt (mark_cmp (mark_of l.column.cells (get_or l.index.ids k 0))
      (shown l.value ∷ [], l.id)) ≡ true;
  above : (k : ℕ) → l.high ≤ k → k < length l.index.ids
      → is_lt (mark_cmp (mark_of l.column.cells (get_or l.index.ids k 0))
      (shown l.value ∷ [], l.id)) ≡ false;
}

abbrev pub decreases-halves : goal.decreases-halves
decreases-halves l = l.high - l.low
