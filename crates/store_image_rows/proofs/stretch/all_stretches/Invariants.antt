use Rattle.std.proofs.Common.{◌≡◌, drop}
use Rattle.store_image_rows.specs.Cells.{cells_seen}
use Rattle.store_image_rows.specs.Stretches.{row_stretches, bare_from, all_merged}
use Rattle.store_image_rows.proofs.stretch.all_stretches.Given as goal

abbrev pub invariant-loop-column : goal.invariant-loop-column
invariant-loop-column l = all_merged (row_stretches l.stretches.items)
    (cells_seen (drop l.column-index l.cells))
    ≡ all_merged (bare_from 0 l.keys) (cells_seen l.cells)
