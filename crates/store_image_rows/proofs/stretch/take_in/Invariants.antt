use Rattle.std.proofs.Common.{◌≡◌, ◌++◌, ◌-◌, drop, length}
use Rattle.store_image_rows.specs.Cells.{cell_seen}
use Rattle.store_image_rows.specs.Stretches.{row_stretches, given, left_by}
use Rattle.store_image_rows.proofs.stretch.take_in.Given as goal

abbrev pub invariant-walk : goal.invariant-walk
invariant-walk l = record {
  done : row_stretches l.done.items ++ given (drop l.at (row_stretches l.stretches))
      (cell_seen l.cell) ≡ row_stretches l.initial.done.items
      ++ given (drop l.from (row_stretches l.initial.stretches)) (cell_seen l.cell);
  left : left_by (drop l.at (row_stretches l.stretches)) (cell_seen l.cell)
      ≡ left_by (drop l.from (row_stretches l.initial.stretches)) (cell_seen l.cell);
}

abbrev pub decreases-walk : goal.decreases-walk
decreases-walk l = length l.stretches - l.at
