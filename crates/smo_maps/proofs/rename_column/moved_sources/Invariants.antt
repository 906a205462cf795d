use Rattle.std.proofs.Common.{◌≡◌, take, map, [], List, ℕ}
use Rattle.std.specs.Prelude.{if◌then◌else◌}
use Rattle.smo_ops_spec.specs.OneRow.{same}
use Rattle.smo_maps.specs.Picking.{source_of}
use Rattle.smo_maps.proofs.rename_column.moved_sources.Given as goal

abbrev pub invariant-loop-name : goal.invariant-loop-name
invariant-loop-name l = l.sources.items ≡ map
    (λ (n : List ℕ). source_of l.columns [] (if same l.into n then l.column else n))
    (take l.name-index l.names)
