use Rattle.std.proofs.Common.{◌≡◌, map, take}
use Rattle.store_image_rows.specs.Cells.{cell_seen}
use Rattle.store_image_rows.specs.Showing.{stretch_at, alone, stretch_in}
use Rattle.store_image_rows.proofs.order.values_of.Given as goal

abbrev pub invariant-loop-cell : goal.invariant-loop-cell
invariant-loop-cell l = map (stretch_at alone) l.showing.items
    ≡ map stretch_in (map cell_seen (take l.cell-index l.cells))
