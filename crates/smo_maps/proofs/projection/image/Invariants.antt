use Rattle.std.proofs.Common.{◌≡◌, take, map, []}
use Rattle.smo_ops_spec.specs.OneRow.{Row}
use Rattle.smo_maps.specs.Picking.{picked_row}
use Rattle.smo_maps.proofs.projection.image.Given as goal

abbrev pub invariant-loop-row : goal.invariant-loop-row
invariant-loop-row l = l.made.items ≡ map (λ (row : Row). picked_row l.sources row [])
    (take l.row-index l.rows)
