-- Valid values, the columns of a table, and the relations that fit them.
use Rattle.std.specs.Prelude.{◌≡◌, ℕ, ◌^◌, ◌-◌, pos, neg_ℤ, ◌≤ℤ◌, Bool, true, false, List, [], ◌∷◌}
use Rattle.relations_spec.specs.Sets.{In, Ascends}
use Rattle.prima_base.specs.Bytes.{IsTxt}
use Rattle.prima_base.specs.Order.{row_cmp, bytes_cmp}
use Rattle.prima_base.specs.declared.value.Value.{Value}
use Rattle.prima_base.specs.declared.value.Value.TheVariants.{Int, Text}
use Rattle.prima_base.specs.declared.value.ColType.{ColType}
use Rattle.prima_base.specs.declared.value.ColType.TheVariants.{Int as IntType, Text as TextType}

-- a column: its name and its type
abbrev pub Column : Type 0
Column = List ℕ × ColType

-- an INT from -2^63 to 2^63 - 1, or a TEXT of at most 4,096 bytes and no control byte
abbrev pub IsValid : Value → Type 0
IsValid (Int n) = (neg_ℤ (pos (2 ^ 63)) ≤ℤ n) × (n ≤ℤ pos (2 ^ 63 - 1))
IsValid (Text t) = IsTxt t

-- the value is of the column's type
abbrev pub has_type : ColType → Value → Bool
has_type IntType (Int n) = true
has_type IntType (Text t) = false
has_type TextType (Int n) = false
has_type TextType (Text t) = true

-- the row has a value of its type for each column
abbrev pub IsRow : List Column → List Value → Type 0
IsRow [] [] = Unit {0}
IsRow [] (v ∷ row) = ⊥
IsRow (c ∷ columns) [] = ⊥
IsRow (c ∷ columns) (v ∷ row) = (has_type c.1 v ≡ true) × IsRow columns row

-- a relation of these columns
pub record IsRelation (columns : List Column) (rows : List (List Value)) : Type 0 where
  pub ascending : Ascends row_cmp rows
  pub fitting : (row : List Value) → In row rows → IsRow columns row

-- the columns stand in the order of their names, each once
abbrev pub names_of : List Column → List (List ℕ)
names_of [] = []
names_of (c ∷ columns) = c.0 ∷ names_of columns

abbrev pub AreColumns : List Column → Type 0
AreColumns columns = Ascends bytes_cmp (names_of columns)
