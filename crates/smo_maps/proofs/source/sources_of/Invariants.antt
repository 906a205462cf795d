use Rattle.std.proofs.Common.{◌≡◌, take, map}
use Rattle.smo_maps.specs.Picking.{source_of}
use Rattle.smo_maps.proofs.source.sources_of.Given as goal

abbrev pub invariant-loop-name : goal.invariant-loop-name
invariant-loop-name l = l.sources.items ≡ map (source_of l.first l.second)
    (take l.name-index l.names)
