use Rattle.std.proofs.Common.{◌≡◌, ◌<◌, ◌≤◌, ℕ, get_or, vec_len}
use Rattle.history_store_columns.specs.Log.{Log}
use Rattle.history_store_row_order.specs.Logs.{cells_of}
use Rattle.history_store_writes.specs.Logs.{kinds_of, least_spare}
use Rattle.history_store_writes.proofs.row_change.reserve_all.Given as goal

abbrev pub invariant-loop-k : goal.invariant-loop-k
invariant-loop-k l = record {
  long : vec_len l.columns ≡ vec_len l.initial.columns;
  cells : cells_of l.columns.items ≡ cells_of l.initial.columns.items;
  kinds : kinds_of l.columns.items ≡ kinds_of l.initial.columns.items;
  spare : (least : ℕ) → least_spare least l.initial.columns.items ≤ least_spare least
      l.columns.items;
  ids : (j : ℕ) (d : Log) → j < vec_len l.initial.columns
      → (get_or l.columns.items j d).ids ≡ (get_or l.initial.columns.items j d).ids;
  room : (j : ℕ) (d : Log) → j < l.k → l.more ≤ (get_or l.columns.items j d).spare;
}
