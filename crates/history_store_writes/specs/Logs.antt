-- The types of several columns, and the room in them.
use Rattle.std.specs.Prelude.{◌≡◌, ℕ, ◌-◌, ◌/◌, ◌^◌, min, max, true, List, [], ◌∷◌, length}
use Rattle.std.specs.Prelude.{if◌then◌else◌, nat_le}
use Rattle.history_store_columns.specs.Log.{Log, Write}
use Rattle.prima_base.specs.declared.value.Value.{Value}
use Rattle.prima_base.specs.declared.value.ColType.{ColType}
use Rattle.prima_base.specs.Columns.{Column, has_type}
use Rattle.history_store_spec.specs.Store.{cells_in}
use Rattle.history_store_row_order.specs.Logs.{cells_of}

-- their types
abbrev pub kinds_of : List Log → List ColType
kinds_of [] = []
kinds_of (c ∷ columns) = c.kind ∷ kinds_of columns

abbrev pub types_of : List Column → List ColType
types_of [] = []
types_of (c ∷ columns) = c.1 ∷ types_of columns

-- each value is of the type at its place
abbrev pub AreOf : List ColType → List Value → Type 0
AreOf kinds [] = Unit {0}
AreOf [] (v ∷ row) = ⊥
AreOf (k ∷ kinds) (v ∷ row) = (has_type k v ≡ true) × AreOf kinds row

abbrev pub AreRowsOf : List ColType → List (List Value) → Type 0
AreRowsOf kinds [] = Unit {0}
AreRowsOf kinds (row ∷ rows) = AreOf kinds row × AreRowsOf kinds rows

-- as much room, or no more than the indexes have where that is less than room for few rows
abbrev pub with_index : ℕ → ℕ → ℕ → ℕ
with_index few room n = if nat_le few room then n else min room n

-- the least room of all
abbrev pub least_spare : ℕ → List Log → ℕ
least_spare least [] = least
least_spare least (c ∷ columns) = min c.spare (least_spare least columns)

-- how many rows more, of which each may add a cell to each column, keep the number of all cells
-- below 2 ^ 64
abbrev pub countable_rows : List (List Write) → ℕ
countable_rows columns = (2 ^ 64 - 1 - cells_in columns) / max (length columns) 1

-- how many units of room there are, of which a row takes at least one: in the indexes and among
-- the keys, in each column, and in the number of all cells. No more than few rows are put into
-- indexes
abbrev pub spare_rows : ℕ → ℕ → ℕ → List Log → ℕ
spare_rows few room n columns = min (least_spare (with_index few room n) columns)
    (countable_rows (cells_of columns))
