use Rattle.std.proofs.Common.{◌≡◌, ◌+◌, drop}
use Rattle.schema_catalog.specs.Tables.{Tables}
use Rattle.temporal_lang_spec.specs.Atoms.{sources_of, place_of_alias}
use Rattle.temporal_lang.proofs.item.alias_place.Given as goal

abbrev pub invariant-loop-i : goal.invariant-loop-i
invariant-loop-i l = (tables : Tables) → l.i + place_of_alias (sources_of tables (drop l.i l.from))
    l.alias ≡ place_of_alias (sources_of tables l.from) l.alias
