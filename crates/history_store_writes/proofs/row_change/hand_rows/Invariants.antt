use Rattle.std.proofs.Common.{◌≡◌, ◌+◌, ◌≤◌, ◌++◌, length, drop, vec_len, vec_capacity}
use Rattle.std.specs.Prelude.{All}
use Rattle.std.specs.Vec.Iter.{into_iter_items}
use Rattle.history_store_row_order.specs.Logs.{cells_of}
use Rattle.history_store_writes.specs.Logs.{kinds_of, AreRowsOf}
use Rattle.history_store_writes.specs.RowRoom.{rows_room}
use Rattle.history_store_writes.specs.Writing.{put_rows, unpaired, new_keys}
use Rattle.history_store_row_order.specs.Handing.{handed}
use Rattle.history_store_row_order.specs.Rows.{AllWidth}
use Rattle.history_store_writes.proofs.row_change.hand_rows.Given as goal

abbrev pub invariant-loop-row : goal.invariant-loop-row
invariant-loop-row l =
    let rest = into_iter_items l.row-iterator in
    let left = drop l.i l.lost in
    record {
      counted : l.i ≡ length l.yielded;
      wide : AllWidth (length l.columns) rest;
      typed : AreRowsOf (kinds_of l.columns) rest;
      kinds : kinds_of l.columns ≡ kinds_of l.initial.columns;
      more : vec_len l.initial.keys ≤ vec_len l.keys;
      ids : All (λ c. c.ids ≡ vec_len l.keys) l.columns;
      room : All (λ c. rows_room rest ≤ c.spare) l.columns;
      key_room : vec_len l.keys + length rest ≤ vec_capacity l.keys;
      keys : l.initial.keys.items ++ new_keys l.stamp (unpaired l.fn.gained.items l.lost)
          ≡ l.keys.items ++ new_keys l.stamp (unpaired rest left);
      cells : put_rows (handed l.lost (vec_len l.initial.keys) l.fn.gained.items) l.fn.gained.items
          l.stamp (cells_of l.initial.columns)
          ≡ put_rows (handed left (vec_len l.keys) rest) rest l.stamp (cells_of l.columns);
    }
