-- What a stored table keeps, and the relation that it stands for at each moment.
use Rattle.std.specs.Prelude.{◌≡◌, ℕ, ◌+◌, ◌<◌, ◌≤◌, ◌&&◌, ◌==◌, ◌⊎◌, true, List, [], ◌∷◌, ◌++◌}
use Rattle.std.specs.Prelude.{length, Option, Some, None, MatchBool, slice_index_or, if◌then◌else◌}
use Rattle.std.specs.Ordering.{is_eq, nat_cmp, ordering_then}
use Rattle.std.specs.declared.cmp.Ordering.{Ordering}
use Rattle.relations_spec.specs.Sets.{In, Ascends, set_of}
use Rattle.relations_spec.specs.Spans.{Span, span, forever, covers}
use Rattle.prima_base.specs.Order.{row_cmp, bytes_cmp}
use Rattle.prima_base.specs.declared.value.Value.{Value}
pub use Rattle.prima_base.specs.Columns.{Column, has_type, IsRow, IsRelation, names_of, AreColumns}

-- an entry of a column: the row with this id has this value in this period
pub record Cell : Type 0 where
  pub id : ℕ
  pub value : Value
  pub period : Span

-- the columns, the period of each key (its id is its place), the entries of each column, how many
-- rows more there is room for, and the places of the columns that have an index by their values
pub record Store : Type 0 where
  pub columns : List Column
  pub keys : List Span
  pub cells : List (List Cell)
  pub spare : ℕ
  pub indexed : List ℕ

-- how many cells several columns have in all: the lengths of their lists together
abbrev pub cells_in : {A : Type 0} → List (List A) → ℕ
cells_in [] = 0
cells_in (cells ∷ columns) = length cells + cells_in columns

-- what the values of a column's entries weigh, by the weight of each value
abbrev pub weight : (Value → ℕ) → List Cell → ℕ
weight f [] = 0
weight f (c ∷ cells) = f c.value + weight f cells

-- the values of this id that a column's entries show at the moment
abbrev pub shown_at : ℕ → ℕ → List Cell → List Value
shown_at id m [] = []
shown_at id m (c ∷ cells) = if (c.id == id && covers c.period m) then c.value ∷ shown_at id m cells
    else shown_at id m cells

-- the row of this id at the moment, column by column
abbrev pub row_at : ℕ → ℕ → List (List Cell) → List Value
row_at id m [] = []
row_at id m (cells ∷ columns) = shown_at id m cells ++ row_at id m columns

-- the rows whose keys hold at the moment, by id
abbrev pub rows_from : ℕ → ℕ → List Span → List (List Cell) → List (List Value)
rows_from id m [] columns = []
rows_from id m (k ∷ keys) columns = if covers k m
    then row_at id m columns ∷ rows_from (id + 1) m keys columns
    else rows_from (id + 1) m keys columns

-- the relation that the table stands for at the moment
unfoldable pub relation_at : Store → ℕ → List (List Value)
relation_at s m = set_of row_cmp (rows_from 0 m s.keys s.cells)

-- the entries of one id fill its key's period: one value at each of its moments, none at any other
abbrev pub Fills : Span → ℕ → List Cell → Type 0
Fills key id cells = (m : ℕ) → MatchBool (covers key m) ((v : Value)
    × (shown_at id m cells ≡ v ∷ [])) (shown_at id m cells ≡ [])

-- at least one moment, and each before the end of all
abbrev pub IsPeriod : Span → Type 0
IsPeriod p = (p.start < p.end) × (p.end ≤ forever)

-- by id, then start
abbrev pub cell_cmp : Cell → Cell → Ordering
cell_cmp a b = ordering_then (nat_cmp a.id b.id) (nat_cmp a.period.start b.period.start)

-- the entries of a column belong to the keys and fill their periods, without gap or overlap; they
-- ascend by id and start
pub record IsFilled (keys : List Span) (cells : List Cell) : Type 0 where
  pub known : (c : Cell) → In c cells → c.id < length keys
  pub lasting : (c : Cell) → In c cells → IsPeriod c.period
  pub filled : (id : ℕ) → id < length keys → Fills (slice_index_or keys id (span 0 0)) id cells
  pub ascending : Ascends cell_cmp cells

-- the key with this id has the moment
abbrev pub Holds : List Span → ℕ → ℕ → Type 0
Holds keys id m = (id < length keys) × (covers (slice_index_or keys id (span 0 0)) m ≡ true)

-- what is so of every stored table
pub record IsStore (s : Store) : Type 0 where
  pub columns : AreColumns s.columns
  pub width : length s.cells ≡ length s.columns
  pub lasting : (p : Span) → In p s.keys → IsPeriod p
  pub filled : (cells : List Cell) → In cells s.cells → IsFilled s.keys cells
  -- at each moment each id shows a row of the columns, and no two show the same
  pub fitting : (m id : ℕ) → Holds s.keys id m → IsRow s.columns (row_at id m s.cells)
  pub apart : (m i j : ℕ) → Holds s.keys i m → Holds s.keys j m
      → row_at i m s.cells ≡ row_at j m s.cells → i ≡ j

-- the column with this name, of columns and what belongs to each
abbrev pub named : {A : Type 0} → List ℕ → List Column → List A → Option A
named name [] xs = None
named name (c ∷ columns) [] = None
named name (c ∷ columns) (x ∷ xs) = if is_eq (bytes_cmp c.0 name) then Some x
    else named name columns xs

-- the entries of the column with this name
abbrev pub column_of : Store → List ℕ → Option (List Cell)
column_of s name = named name s.columns s.cells

-- both ends of the period are before the moment, or it still goes on
abbrev pub IsBefore : ℕ → Span → Type 0
IsBefore m p = (p.start < m) × ((p.end < m) ⊎ (p.end ≡ forever))

-- each stamp in the store is before the moment
pub record AllBefore (s : Store) (m : ℕ) : Type 0 where
  pub keys : (p : Span) → In p s.keys → IsBefore m p
  pub cells : (cells : List Cell) → In cells s.cells → (c : Cell) → In c cells → IsBefore m c.period
