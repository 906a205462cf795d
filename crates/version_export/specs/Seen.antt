-- What an export sees of an archive: the listing of a table's rows in a version.
use Rattle.std.specs.Prelude.{◌≡◌, ℕ, List, None, Some, Result, Ok, Err, ⊤}
use Rattle.std.specs.Global.{Vec}
use Rattle.prima_base.specs.Timed.{entries_of}
use Rattle.prima_base.specs.declared.timed_row.TimedRow.{TimedRow}
use Rattle.temporal_lang_spec.specs.Losing.{first_lost}
use Rattle.version_export.specs.declared.seen.SeenFault.{SeenFault}
use Rattle.version_export.specs.declared.seen.SeenFault.TheVariants.{NoInverse, NoMemory}
use Rattle.version_export.specs.Refused.{no_inverse, table_test}
use Rattle.relations_spec.specs.Timed.{Entry}
use Rattle.schema_catalog.specs.Places.{NamedColumns}
use Rattle.schema_catalog.specs.Tables.{columns_of}
use Rattle.smo_ops_spec.specs.OneRow.{Row}
use Rattle.smo_ops_spec.specs.Past.{Past, tables_of}
use Rattle.temporal_lang_spec.specs.Answers.{listing}
use Rattle.version_export.specs.Exported.{whole_query}

-- the table with this name, as the version has it
abbrev pub table_in : Past → ℕ → List ℕ → NamedColumns
table_in past version name = (name, columns_of (tables_of past version) name)

-- each row of the table with its longest periods
abbrev pub rows_listed : Past → ℕ → NamedColumns → List (Entry Row)
rows_listed past version t = listing past (whole_query version t)

-- what is answered of a table: its listing where the query over all its columns has no loss, and
-- else that loss
abbrev pub IsListed : Past → ℕ → NamedColumns → Result (Vec TimedRow) SeenFault → Type 0
IsListed past version t (Ok rows) = (first_lost past (whole_query version t) ≡ None)
    × (entries_of rows.items ≡ rows_listed past version t)
IsListed past version t (Err (NoInverse k kind)) = table_test past version t
    ≡ Some (no_inverse k kind)
IsListed past version t (Err NoMemory) = ⊤
