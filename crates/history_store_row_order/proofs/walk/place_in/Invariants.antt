use Rattle.std.proofs.Common.{◌≡◌, ◌<◌, ◌≤◌, ◌-◌, ℕ, length, get_or}
use Rattle.std.specs.declared.cmp.Ordering.TheVariants.{Less, Greater}
use Rattle.prima_base.specs.Order.{row_cmp}
use Rattle.history_store_row_order.specs.Logs.{cells_of}
use Rattle.history_store_row_order.specs.Rows.{row_now}
use Rattle.history_store_row_order.proofs.walk.place_in.Given as goal

abbrev pub invariant-halves : goal.invariant-halves
invariant-halves l = record {
  inside : l.high ≤ length l.live.ids;
  apart : l.low ≤ l.high;
  below : (k : ℕ) → k < l.low → row_cmp (row_now (get_or l.live.ids k 0) (cells_of l.columns)) l.row
      ≡ Less;
  above : (k : ℕ) → l.high ≤ k → k < length l.live.ids
      → row_cmp (row_now (get_or l.live.ids k 0) (cells_of l.columns)) l.row ≡ Greater;
}

abbrev pub decreases-halves : goal.decreases-halves
decreases-halves l = l.high - l.low
