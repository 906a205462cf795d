use Rattle.std.proofs.Common.{◌≡◌, ◌+◌, drop}
use Rattle.std.specs.Option.{option_map}
use Rattle.smo_maps.specs.Picking.{place_of}
use Rattle.smo_maps.proofs.source.place_of.Given as goal

abbrev pub invariant-loop-i : goal.invariant-loop-i
invariant-loop-i l = place_of l.columns l.name
    ≡ option_map (λ k. l.i + k) (place_of (drop l.i l.columns) l.name)
