-- The tables of a version as an export sees them: each with its listing.
use Rattle.std.specs.Prelude.{◌≡◌, ℕ, List, [], ◌∷◌, None, Some, Result, Ok, Err, ⊤, map, slice_get}
use Rattle.std.specs.Global.{Vec}
use Rattle.prima_base.specs.Timed.{entries_of}
use Rattle.schema_catalog.specs.Places.{NamedColumns}
use Rattle.smo_ops_spec.specs.First.{first_refusal}
use Rattle.smo_ops_spec.specs.Past.{Past}
use Rattle.temporal_lang_spec.specs.Losing.{first_lost}
use Rattle.version_export_past_spec.specs.Showing.{tables_in}
use Rattle.version_export.specs.declared.seen.SeenFault.{SeenFault}
use Rattle.version_export.specs.declared.seen.SeenFault.TheVariants.{NoInverse, NoMemory}
use Rattle.version_export.specs.declared.seen_table.SeenTable.{SeenTable}
use Rattle.version_export.specs.Exported.{whole_query}
use Rattle.version_export.specs.Refused.{no_inverse, table_test}
use Rattle.version_export.specs.Seen.{rows_listed}

-- it is this table of the version, none of whose rows is lost, with its listing
pub record Shows (past : Past) (version : ℕ) (t : NamedColumns) (s : SeenTable) : Type 0 where
  pub table : s.table.now ≡ t
  pub none : first_lost past (whole_query version t) ≡ None
  pub rows : entries_of s.rows.items ≡ rows_listed past version t

-- what is answered of the table at a place
abbrev pub IsSeenTable : Past → ℕ → ℕ → Result SeenTable SeenFault → Type 0
IsSeenTable past version place (Ok s) = (t : NamedColumns)
    × (slice_get (tables_in past version) place ≡ Some t) × Shows past version t s
IsSeenTable past version place (Err (NoInverse k kind)) = (t : NamedColumns)
    × (slice_get (tables_in past version) place ≡ Some t)
    × (table_test past version t ≡ Some (no_inverse k kind))
IsSeenTable past version place (Err NoMemory) = ⊤

abbrev pub AllShow : Past → ℕ → List NamedColumns → List SeenTable → Type 0
AllShow past version [] [] = ⊤
AllShow past version [] (s ∷ ss) = ⊥
AllShow past version (t ∷ ts) [] = ⊥
AllShow past version (t ∷ ts) (s ∷ ss) = Shows past version t s × AllShow past version ts ss

-- what is answered of all of them: the first loss counts
abbrev pub AreSeenTables : Past → ℕ → Result (Vec SeenTable) SeenFault → Type 0
AreSeenTables past version (Ok tables) = AllShow past version (tables_in past version) tables.items
AreSeenTables past version (Err (NoInverse k kind)) =
    first_refusal (map (table_test past version) (tables_in past version))
    ≡ Some (no_inverse k kind)
AreSeenTables past version (Err NoMemory) = ⊤
