-- What a table's keys and writes stand for.
use Rattle.std.specs.Prelude.{◌≡◌, ℕ, ◌+◌, ◌<◌, ◌≤◌, ◌⊎◌, List, [], ◌∷◌, ◌++◌, length}
use Rattle.std.specs.Prelude.{if◌then◌else◌, slice_index_or}
use Rattle.relations_spec.specs.Sets.{In, Ascends}
use Rattle.relations_spec.specs.Spans.{Span, forever, covers}
use Rattle.prima_base.specs.Order.{row_cmp}
use Rattle.prima_base.specs.declared.value.Value.{Value}
use Rattle.history_store_columns.specs.Log.{Write, value_at}
use Rattle.history_store_columns.specs.Keys.{IsOpen, no_span}
use Rattle.history_store_columns.specs.Entries.{AllCells}
use Rattle.history_store_row_order.specs.Rows.{rows_of}

-- the values of one id at the moment, column by column
abbrev pub row_then : ℕ → ℕ → List (List Write) → List Value
row_then id m [] = []
row_then id m (c ∷ columns) = value_at id m c ++ row_then id m columns

-- the rows whose keys hold the moment, by id
abbrev pub rows_then : ℕ → ℕ → List Span → List (List Write) → List (List Value)
rows_then id m [] columns = []
rows_then id m (k ∷ keys) columns = if covers k m
    then row_then id m columns ∷ rows_then (id + 1) m keys columns
    else rows_then (id + 1) m keys columns

-- no write is from later on
abbrev pub AllColumns : ℕ → List (List Write) → Type 0
AllColumns last [] = Unit {0}
AllColumns last (c ∷ columns) = AllCells last c × AllColumns last columns

-- `live` has the open ids, ascending by their rows
pub record IsStored (keys : List Span) (columns : List (List Write)) (live : List ℕ) (last : ℕ) :
    Type 0 where
  pub columns_fit : AllColumns last columns
  pub started : (id : ℕ) → id < length keys → (slice_index_or keys id no_span).start ≤ last
  pub ended : (id : ℕ) → id < length keys → ((slice_index_or keys id no_span).end ≤ last)
      ⊎ ((slice_index_or keys id no_span).end ≡ forever)
  pub are_open : (id : ℕ) → In id live → IsOpen keys id
  pub are_live : (id : ℕ) → IsOpen keys id → In id live
  pub ordered : Ascends row_cmp (rows_of live columns)
