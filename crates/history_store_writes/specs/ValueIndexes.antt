-- The indexes of a table by the values of its columns.
use Rattle.std.specs.Prelude.{◌≡◌, ℕ, ◌<◌, ◌≤◌, ◌&&◌, Bool, min, nat_le, List, [], ◌∷◌, length, map}
use Rattle.std.specs.Prelude.{if◌then◌else◌, slice_index_or}
use Rattle.std.specs.Ordering.{nat_cmp}
use Rattle.relations_spec.specs.Sets.{In, Ascends, has}
use Rattle.history_store_columns.specs.Log.{Log, Write}
use Rattle.history_store_row_order.specs.Logs.{cells_of, few_of}
use Rattle.history_store_value_order.specs.ByValue.{by_value, IsWithout, IsWith}

-- an index of a column: the column's place, the ids, and for how many more there is room
pub record Indexed : Type 0 where
  pub column : ℕ
  pub ids : List ℕ
  pub room : ℕ

-- the columns that have an index
abbrev pub indexed_columns : List Indexed → List ℕ
indexed_columns others = map (λ x. x.column) others

-- this column has one
abbrev pub is_indexed : ℕ → List ℕ → Bool
is_indexed column indexed = has nat_cmp column indexed

-- after a change of so many rows that loses and gains so many: where these are not few, all indexes
-- go
abbrev pub indexed_after : ℕ → ℕ → ℕ → List ℕ → List ℕ
indexed_after rows lost gained indexed = if nat_le lost (few_of rows) && nat_le gained (few_of rows)
    then indexed else []

-- the least room of all
abbrev pub least_room : ℕ → List Indexed → ℕ
least_room room [] = room
least_room room (x ∷ others) = min x.room (least_room room others)

-- the index has the live ids but for those that are lost, in the order of the column's values
pub record IsIndexed (logs : List (List Write)) (live lost : List ℕ) (x : Indexed) : Type 0 where
  pub within : x.column < length logs
  pub rises : Ascends (by_value (slice_index_or logs x.column [])) x.ids
  pub only : (q : ℕ) → In q x.ids → In q live × (In q lost → ⊥)
  pub all : (q : ℕ) → In q live → (In q lost → ⊥) → In q x.ids

-- the ids that the index has are known to its column, and stand in the order of the column's values
pub record IsIndexPrepared (columns : List Log) (x : Indexed) : Type 0 where
  pub within : x.column < length columns
  pub known : (q : ℕ) (d : Log) → In q x.ids → q < (slice_index_or columns x.column d).ids
  pub rises : Ascends (by_value (slice_index_or (cells_of columns) x.column [])) x.ids

-- the index after its loss of the lost ids
pub record IsLosing (columns : List Log) (lost : List ℕ) (x y : Indexed) : Type 0 where
  pub column : y.column ≡ x.column
  pub without : IsWithout (slice_index_or (cells_of columns) x.column []) lost x.ids y.ids
  pub room : x.room ≤ y.room

-- the index after its gain of the new ids
pub record IsGaining (columns : List Log) (new : List ℕ) (x y : Indexed) : Type 0 where
  pub column : y.column ≡ x.column
  pub with_them : IsWith (slice_index_or (cells_of columns) x.column []) new x.ids y.ids
