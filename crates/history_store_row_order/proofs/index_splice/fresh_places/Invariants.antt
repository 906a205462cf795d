use Rattle.std.proofs.Common.{◌+◌, ◌<◌, ◌^◌, length}
use Rattle.std.specs.Vec.Iter.{into_iter_items}
use Rattle.history_store_row_order.specs.Logs.{cells_of}
use Rattle.history_store_row_order.specs.Rows.{AllWidth}
use Rattle.history_store_row_order.proofs.Coming.{AreFresh}
use Rattle.history_store_row_order.proofs.index_splice.fresh_places.Given as goal

abbrev pub invariant-loop-row : goal.invariant-loop-row
invariant-loop-row l =
    let rest = into_iter_items l.row-iterator in
    record {
      fresh : AreFresh (cells_of l.columns) l.live.ids l.next l.fn.rows.items l.to.items
          l.gained.items rest;
      wide : AllWidth (length l.columns) rest;
      few : l.next + (length l.gained.items + length rest) < 2 ^ 64;
    }
