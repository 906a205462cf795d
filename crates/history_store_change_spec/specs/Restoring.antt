-- Entries of which a table is made again.
use Rattle.std.specs.Prelude.{◌≡◌, ℕ, ◌+◌, ◌-◌, ◌≤◌, ⊤, max, true, List, [], ◌∷◌, map}
use Rattle.relations_spec.specs.Sets.{Ascends, Same}
use Rattle.relations_spec.specs.Spans.{Span, forever}
use Rattle.prima_base.specs.Columns.{IsValid, Column, has_type}
use Rattle.prima_base.specs.Order.{row_cmp}
use Rattle.history_store_columns.specs.Log.{Write}
use Rattle.prima_base.specs.declared.value.ColType.{ColType}
use Rattle.history_store_spec.specs.Store.{Cell, Store}
use Rattle.history_store_change_spec.specs.Change.{ids_from, rows_along}

-- what is known of a table: its columns, the periods of its keys, and the entries of each column;
-- no column has an index
abbrev pub store_with : List Column → List Span → List (List Cell) → Store
store_with columns keys cells = record {
  columns = columns;
  keys = keys;
  cells = cells;
  spare = 0;
  indexed = [];
}

-- these are the ids of the rows that go on, in the order of their rows
pub record IsInOrder (keys : List Span) (cells : List (List Cell)) (ids : List ℕ) : Type 0 where
  pub same : Same ids (ids_from 0 (forever - 1) keys)
  pub rises : Ascends row_cmp (rows_along ids (forever - 1) cells)

-- the write with which an entry begins
abbrev pub write_of : Cell → Write
write_of c = record { id = c.id; value = c.value; start = c.period.start }

abbrev pub writes_of : List (List Cell) → List (List Write)
writes_of columns = map (map write_of) columns

-- the ids come in turn: each is among those that are known by then, or the next one
abbrev pub AreInTurn : ℕ → List Cell → Type 0
AreInTurn known [] = ⊤
AreInTurn known (c ∷ cells) = (c.id ≤ known) × AreInTurn (max known (c.id + 1)) cells

-- how many are known after them
abbrev pub ids_known : ℕ → List Cell → ℕ
ids_known known [] = known
ids_known known (c ∷ cells) = ids_known (max known (c.id + 1)) cells

-- the values of the cells are of this type
abbrev pub AreCellsOf : ColType → List Cell → Type 0
AreCellsOf kind [] = Unit {0}
AreCellsOf kind (c ∷ cells) = (has_type kind c.value ≡ true) × AreCellsOf kind cells

-- each value of the cells is one that a column may have
abbrev pub AreValidCells : List Cell → Type 0
AreValidCells [] = Unit {0}
AreValidCells (c ∷ cells) = IsValid c.value × AreValidCells cells

-- those of each column, of its type
abbrev pub AreEntriesOf : List ColType → List (List Cell) → Type 0
AreEntriesOf kinds [] = Unit {0}
AreEntriesOf [] (cells ∷ lists) = ⊥
AreEntriesOf (k ∷ kinds) (cells ∷ lists) = AreCellsOf k cells × AreEntriesOf kinds lists
