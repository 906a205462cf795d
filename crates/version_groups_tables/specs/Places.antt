-- Stored tables at places of a list: each version names those of its tables, and several versions
-- may have one.
use Rattle.std.specs.Prelude.{◌≡◌, ℕ, ◌<◌, List, [], ◌∷◌, Option, Some, None, slice_get, ⊤}
use Rattle.relations_spec.specs.Sets.{In}
use Rattle.version_groups_tables.specs.declared.made_table.MadeTable.{MadeTable}
use Rattle.version_groups_tables.specs.Stored.{stored_as}

abbrev pub with_table : Option MadeTable → List MadeTable → List MadeTable
with_table None tables = tables
with_table (Some t) tables = t ∷ tables

-- those at these places
abbrev pub at_places : List MadeTable → List ℕ → List MadeTable
at_places tables [] = []
at_places tables (p ∷ places) = with_table (slice_get tables p) (at_places tables places)

-- each place is one of so many
abbrev pub AreWithin : List ℕ → ℕ → Type 0
AreWithin [] n = ⊤
AreWithin (p ∷ places) n = (p < n) × AreWithin places n

-- the table with this name, and its place
abbrev pub IsFound : List MadeTable → List ℕ → List ℕ → ℕ → MadeTable → Type 0
IsFound tables places name p t = (slice_get tables p ≡ Some t) × (t.name ≡ name)
    × (stored_as name (at_places tables places) ≡ Some t.store) × In p places
