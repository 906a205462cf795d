use Rattle.std.proofs.Common.{◌≡◌, ◌<◌, ◌≤◌, ◌-◌, ℕ, true, false, length, get_or}
use Rattle.history_store_row_order.specs.Cuts.{is_before}
use Rattle.history_store_row_order.specs.Logs.{cells_of}
use Rattle.history_store_row_order.specs.Rows.{row_now}
use Rattle.history_store_row_order.proofs.cut.count_before.Given as goal

abbrev pub invariant-halves : goal.invariant-halves
invariant-halves l = record {
  inside : l.high ≤ length l.live.ids;
  apart : l.low ≤ l.high;
  below : (k : ℕ) → k < l.low → is_before l.cut
      (row_now (get_or l.live.ids k 0) (cells_of l.columns)) ≡ true;
  above : (k : ℕ) → l.high ≤ k → k < length l.live.ids
      → is_before l.cut (row_now (get_or l.live.ids k 0) (cells_of l.columns)) ≡ false;
}

abbrev pub decreases-halves : goal.decreases-halves
decreases-halves l = l.high - l.low
