use Rattle.std.proofs.Common.{◌≡◌, ◌+◌, ◌<◌, ◌≤◌, ℕ, length, take, get_or}
use Rattle.std.specs.Prelude.{max}
use Rattle.history_store_columns.specs.Log.{Log}
use Rattle.history_store_row_order.specs.Logs.{cells_of}
use Rattle.history_store_writes.specs.Logs.{kinds_of}
use Rattle.history_store_writes.specs.Writing.{put_row}
use Rattle.history_store_writes.specs.RowRoom.{row_room}
use Rattle.history_store_writes.proofs.row_change.put_row.Given as goal

abbrev pub invariant-loop-k : goal.invariant-loop-k
invariant-loop-k l = record {
  long : length l.columns ≡ length l.initial.columns;
  cells : cells_of l.columns ≡ put_row l.id (take l.k l.row) l.stamp (cells_of l.initial.columns);
  kinds : kinds_of l.columns ≡ kinds_of l.initial.columns;
  done : (j : ℕ) (d : Log) → j < l.k → ((get_or l.columns j d).ids
      ≡ max (get_or l.initial.columns j d).ids (l.id + 1))
      × ((get_or l.initial.columns j d).spare ≤ (get_or l.columns j d).spare + row_room l.row);
  others : (j : ℕ) (d : Log) → l.k ≤ j → get_or l.columns j d ≡ get_or l.initial.columns j d;
}
