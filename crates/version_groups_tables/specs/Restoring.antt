-- The tables of a version that are made again of what is stored over each lifeline.
use Rattle.std.specs.Prelude.{◌≡◌, ℕ, Bool, false, List, [], ◌∷◌, map, Option, Some, None, ⊤}
use Rattle.std.specs.Prelude.{if◌then◌else◌}
use Rattle.std.specs.FinMap.{get}
use Rattle.prima_base.specs.Columns.{Column}
use Rattle.schema_catalog.specs.Tables.{Tables}
use Rattle.history_store.specs.Store.{Store}
pub use Rattle.smo_ops_operators.specs.Names.{is_one_of}
use Rattle.version_groups_tables.specs.declared.made_table.MadeTable.{MadeTable}

abbrev pub stores_of : List MadeTable → List Store
stores_of tables = map (λ (t : MadeTable). t.store) tables

abbrev pub HasColumns : List ℕ → List Column → Store → Type 0
HasColumns name columns store = store.columns ≡ columns

-- the first stores have the columns of these tables, in turn
abbrev pub HaveColumns : List Store → List (List ℕ × List Column) → Type 0
HaveColumns stores [] = ⊤
HaveColumns [] (e ∷ made) = ⊥
HaveColumns (s ∷ stores) (e ∷ made) = (s.columns ≡ e.1) × HaveColumns stores made

-- a table, where it is made, before others
abbrev pub with_made : Bool → List ℕ × List Column → List (List ℕ × List Column)
    → List (List ℕ × List Column)
with_made is_made e more = if is_made then e ∷ more else more

-- a table that is made begins with a version, and has the columns of which it is made
pub record BeginsOver (version : ℕ) (made : List ℕ × List Column) (table : MadeTable) : Type 0 where
  pub name : table.name ≡ made.0
  pub first : table.first ≡ version
  pub last : table.last ≡ None
  pub columns : table.store.columns ≡ made.1

-- a table of these columns is stored
abbrev pub IsStored : List Column → Option Store → Type 0
IsStored columns None = ⊥
IsStored columns (Some store) = store.columns ≡ columns

-- each table of the next version that is not made is stored
abbrev pub OthersAre : Tables → (List ℕ → Bool) → (List ℕ → Option Store) → Type 0
OthersAre next is_made stored = (name : List ℕ) → (columns : List Column)
    → get next name ≡ Some columns → is_made name ≡ false → IsStored columns (stored name)
