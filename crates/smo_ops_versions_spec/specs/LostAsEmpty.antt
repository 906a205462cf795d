-- A database with the empty relation in the place of each lost table.
use Rattle.std.specs.Prelude.{ℕ, List, [], map}
use Rattle.std.specs.FinMap.{entries, from_entries}
use Rattle.schema_catalog.specs.Databases.{DatabaseEntry, Rows, Lost, Database}

abbrev pub entry_emptied : DatabaseEntry → DatabaseEntry
entry_emptied (Rows rows) = Rows rows
entry_emptied (Lost k i) = Rows []

abbrev pub whole : Database → Database
whole db = from_entries (map (λ (e : List ℕ × DatabaseEntry). (e.0, entry_emptied e.1))
    (entries db))
