use Rattle.std.proofs.Common.{◌≡◌, take}
use Rattle.smo_maps.specs.Picking.{picked_row}
use Rattle.smo_maps.proofs.source.picked_row.Given as goal

abbrev pub invariant-loop-source : goal.invariant-loop-source
invariant-loop-source l = l.values.items ≡ picked_row (take l.source-index l.sources) l.first
    l.second
