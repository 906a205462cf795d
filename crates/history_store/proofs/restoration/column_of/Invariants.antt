use Rattle.std.proofs.Common.{◌≡◌, ◌++◌, map}
use Rattle.std.specs.Vec.Iter.{into_iter_items}
use Rattle.history_store.specs.Restoring.{cell_of}
use Rattle.history_store_change_spec.specs.Restoring.{write_of, AreInTurn, ids_known, AreCellsOf}
use Rattle.history_store_change_spec.specs.Restoring.{AreValidCells}
use Rattle.history_store.proofs.restoration.column_of.Given as goal

abbrev pub invariant-loop-cell : goal.invariant-loop-cell
invariant-loop-cell l =
    let rest = map cell_of (into_iter_items l.cell-iterator) in
    record {
      kind : l.column.kind ≡ l.fn.kind;
      typed : AreCellsOf l.column.kind rest;
      valid : AreValidCells rest;
      turn : AreInTurn l.column.ids rest;
      ids : ids_known 0 (map cell_of l.fn.cells.items) ≡ ids_known l.column.ids rest;
      cells : map write_of (map cell_of l.fn.cells.items) ≡ l.column.cells ++ map write_of rest;
    }
