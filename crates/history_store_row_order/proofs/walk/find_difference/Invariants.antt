use Rattle.std.proofs.Common.{◌≡◌, ◌≤◌, ◌+◌, ◌-◌, ◌++◌, length, drop}
use Rattle.history_store_row_order.specs.Logs.{cells_of}
use Rattle.prima_base.specs.Order.{row_cmp}
use Rattle.relations_spec.specs.Sets.{Ascends}
use Rattle.history_store_row_order.specs.Rows.{rows_of, AllWidth}
use Rattle.history_store_row_order.specs.Handing.{lost_ids, owners, gained_rows}
use Rattle.history_store_row_order.proofs.walk.find_difference.Given as goal

abbrev pub invariant-walk : goal.invariant-walk
invariant-walk l = record {
  i_in : l.i ≤ length l.live;
  j_in : l.j ≤ length l.rows;
  found : lost_ids (cells_of l.columns) l.live l.rows ≡ l.lost.items
      ++ lost_ids (cells_of l.columns) (drop l.i l.live) (drop l.j l.rows);
  owned : owners (cells_of l.columns) l.live l.rows ≡ l.owners.items
      ++ owners (cells_of l.columns) (drop l.i l.live) (drop l.j l.rows);
  new : gained_rows (cells_of l.columns) l.live l.rows ≡ l.gained.items
      ++ gained_rows (cells_of l.columns) (drop l.i l.live) (drop l.j l.rows);
  wide : AllWidth (length l.columns) (drop l.j l.rows);
  live_rise : Ascends row_cmp (rows_of (drop l.i l.live) (cells_of l.columns));
  rows_rise : Ascends row_cmp (drop l.j l.rows);
}

abbrev pub decreases-walk : goal.decreases-walk
decreases-walk l = (length l.live - l.i) + (length l.rows - l.j)
