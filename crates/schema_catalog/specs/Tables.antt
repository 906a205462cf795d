-- A schema: the map from its tables' names to their columns.
use Rattle.std.specs.Prelude.{◌≡◌, ℕ, List, [], map, Bool, true, false, Option, Some, refl}
use Rattle.std.specs.Prelude.{slice_get}
use Rattle.std.specs.Option.{unwrap_or}
use Rattle.std.specs.FinMap.{FinMap, get, entries, code}
use Rattle.std.specs.Coded.{Coded, code_by, coded×, coded_ℕ, coded_bool, coded_list}
use Rattle.prima_base.specs.declared.value.ColType.{ColType}
use Rattle.prima_base.specs.declared.value.ColType.TheVariants.{Int, Text}
use Rattle.prima_base.specs.Order.{bytes_cmp}
use Rattle.prima_base.specs.Columns.{Column, AreColumns}

abbrev pub Tables : Type 0
Tables = FinMap bytes_cmp (List Column)

-- the columns of a table; none where there is no such table
abbrev pub columns_of : Tables → List ℕ → List Column
columns_of tables name = unwrap_or (get tables name) []

-- the names of the tables, in order
abbrev pub table_names : Tables → List (List ℕ)
table_names tables = map (λ (e : List ℕ × List Column). e.0) (entries tables)

-- the name of the table at a place, from 0, in the order of names; none where there are no so many
abbrev pub name_at : Tables → ℕ → Option (List ℕ)
name_at tables place = slice_get (table_names tables) place

-- each table's columns stand in the order of their names, each once
abbrev pub IsSchema : Tables → Type 0
IsSchema tables = (name : List ℕ) (columns : List Column) → get tables name ≡ Some columns
    → AreColumns columns

-- how a `Tables` is stored
abbrev pub is_text : ColType → Bool
is_text Int = false
is_text Text = true

abbrev pub type_of : Bool → ColType
type_of false = Int
type_of true = Text

pub type_again : (t : ColType) → type_of (is_text t) ≡ t
type_again Int = refl
type_again Text = refl

abbrev pub tables_code : Coded Tables
tables_code = code (coded_list coded_ℕ) (coded_list
    (coded× (coded_list coded_ℕ) (code_by Bool coded_bool is_text type_of type_again)))
