use Rattle.std.proofs.Common.{◌≡◌, ◌+◌, drop}
use Rattle.temporal_lang_spec.specs.Atoms.{sources_of, place_of_column}
use Rattle.temporal_lang.proofs.item.column_place.Given as goal

abbrev pub invariant-loop-i : goal.invariant-loop-i
invariant-loop-i l = l.i + place_of_column (sources_of l.schema (drop l.i l.from)) l.name
    ≡ place_of_column (sources_of l.schema l.from) l.name
