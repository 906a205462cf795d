-- Tables in the order of their names, and the place of a name among them.
use Rattle.std.specs.Prelude.{◌≡◌, ℕ, ◌<◌, ◌≤◌, List, [], ◌∷◌, T, ⊤, Result, Ok, Err, length}
use Rattle.std.specs.Prelude.{slice_index_or}
use Rattle.std.specs.FinMap.{is_sorted, from_sorted}
use Rattle.std.specs.declared.cmp.Ordering.TheVariants.{Less, Equal, Greater}
use Rattle.prima_base.specs.Order.{bytes_cmp}
use Rattle.prima_base.specs.Columns.{Column, AreColumns}
use Rattle.schema_catalog.specs.Tables.{Tables}

-- a table: its name and its columns
abbrev pub NamedColumns : Type 0
NamedColumns = List ℕ × List Column

abbrev pub EachAreColumns : List NamedColumns → Type 0
EachAreColumns [] = ⊤
EachAreColumns (t ∷ tables) = AreColumns t.1 × EachAreColumns tables

-- the tables ascend by their names, and so do the columns of each
pub record AreTables (tables : List NamedColumns) : Type 0 where
  pub sorted : T (is_sorted bytes_cmp tables)
  pub columns : EachAreColumns tables

-- the tables of a schema, in the order of their names
pub record AreTablesOf (tables : List NamedColumns) (schema : Tables) : Type 0 where
  pub sorted : T (is_sorted bytes_cmp tables)
  pub is : schema ≡ from_sorted tables

-- where the table with this name stands, or else where one would go
abbrev pub IsPlace : List NamedColumns → List ℕ → Result ℕ ℕ → Type 0
IsPlace tables name (Ok i) = (i < length tables)
    × ((d : NamedColumns) → bytes_cmp (slice_index_or tables i d).0 name ≡ Equal)
IsPlace tables name (Err i) = (i ≤ length tables)
    × ((k : ℕ) (d : NamedColumns) → k < i → bytes_cmp (slice_index_or tables k d).0 name ≡ Less)
    × ((k : ℕ) (d : NamedColumns) → i ≤ k → k < length tables
    → bytes_cmp (slice_index_or tables k d).0 name ≡ Greater)
