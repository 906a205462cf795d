use Rattle.std.proofs.Common.{◌≡◌, ◌++◌, map, drop}
use Rattle.store_image_rows.specs.Cells.{cell_seen}
use Rattle.store_image_rows.specs.Stretches.{row_stretches, merged}
use Rattle.store_image_rows.proofs.stretch.with_column.Given as goal

abbrev pub invariant-loop-cell : goal.invariant-loop-cell
invariant-loop-cell l =
    row_stretches l.done.items ++ merged (drop l.from (row_stretches l.left.items))
    (map cell_seen (drop l.cell-index l.cells))
    ≡ merged (row_stretches l.fn.stretches.items) (map cell_seen l.cells)
