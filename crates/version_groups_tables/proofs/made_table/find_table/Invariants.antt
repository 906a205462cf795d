use Rattle.std.proofs.Common.{◌≡◌, drop}
use Rattle.version_groups_tables.specs.Places.{at_places}
use Rattle.version_groups_tables.specs.Stored.{stored_as}
use Rattle.version_groups_tables.proofs.made_table.find_table.Given as goal

abbrev pub invariant-loop-place : goal.invariant-loop-place
invariant-loop-place l = stored_as l.name (at_places l.tables l.places)
    ≡ stored_as l.name (at_places l.tables (drop l.place-index l.places))
