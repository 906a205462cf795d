-- What a stamp writes.
use Rattle.std.specs.Prelude.{◌≡◌, ◌⊎◌, take, drop, length, ℕ, ◌+◌, Bool, false, List, [], ◌∷◌}
use Rattle.std.specs.Prelude.{if◌then◌else◌}
use Rattle.relations_spec.specs.Spans.{Span}
use Rattle.prima_base.specs.declared.value.Value.{Value}
use Rattle.history_store_columns.specs.Log.{Write}
use Rattle.history_store_columns.specs.Keys.{IsOpen}
use Rattle.history_store_row_order.specs.Rows.{row_now}
use Rattle.relations_spec.specs.Sets.{In}
use Rattle.history_store_value_order.specs.ByValue.{Distinct}
use Rattle.history_store_columns.specs.Puts.{is_value}
use Rattle.history_store_row_order.specs.Rows.{AllWidth}
use Rattle.history_store_row_order.specs.Handing.{handed}

-- the row is the one of this id in the two lists
abbrev pub Pairs : ℕ → List Value → List ℕ → List (List Value) → Type 0
Pairs id row [] rows = ⊥
Pairs id row (i ∷ ids) [] = ⊥
Pairs id row (i ∷ ids) (r ∷ rows) = ((i ≡ id) × (r ≡ row)) ⊎ Pairs id row ids rows

-- the id keeps its row, or is handed it
abbrev pub HasNext : List Span → List (List Write) → List ℕ → List (List Value) → ℕ → List Value
    → Type 0
HasNext keys columns lost gained id row = (IsOpen keys id
    × ((¬ (In id lost)) × (row_now id columns ≡ row)))
    ⊎ Pairs id row (handed lost (length keys) gained) gained

abbrev pub AllNext : List Span → List (List Write) → List ℕ → List (List Value) → List ℕ
    → List (List Value) → Type 0
AllNext keys columns lost gained [] [] = Unit {0}
AllNext keys columns lost gained [] (row ∷ rows) = ⊥
AllNext keys columns lost gained (id ∷ ids) [] = ⊥
AllNext keys columns lost gained (id ∷ ids) (row ∷ rows) = HasNext keys columns lost gained id row
    × AllNext keys columns lost gained ids rows

-- the lost and the gained rows, and the ids after them, fit the keys
pub record IsHandOver (keys : List Span) (width : ℕ) (lost : List ℕ) (gained : List (List Value))
    (after : List ℕ) : Type 0 where
  pub lost_open : (id : ℕ) → In id lost → IsOpen keys id
  pub distinct : Distinct lost
  pub wide : AllWidth width gained
  pub each : (id : ℕ) → In id after → (IsOpen keys id × (¬ (In id lost)))
      ⊎ In id (handed lost (length keys) gained)
  pub kept : (id : ℕ) → IsOpen keys id → (¬ (In id lost)) → In id after
  pub given : (id : ℕ) → In id (handed lost (length keys) gained) → In id after

-- the value of one column, as a list of one
abbrev pub at_column : ℕ → List Value → List Value
at_column k row = take 1 (drop k row)

abbrev pub is_same : List Value → List Value → Bool
is_same old [] = false
is_same old (v ∷ vs) = is_value v old

-- what the one value weighs, if there is one
abbrev pub weigh : (Value → ℕ) → List Value → ℕ
weigh f [] = 0
weigh f (v ∷ vs) = f v

-- what is written into a column weighs: of each pair whose values there differ the gained row's
-- value, and of each gained row without a partner its value
abbrev pub written : (Value → ℕ) → ℕ → List (List Value) → List (List Value) → ℕ
written f k lost [] = 0
written f k [] (g ∷ gained) = weigh f (at_column k g) + written f k [] gained
written f k (l ∷ lost) (g ∷ gained) = (if is_same (at_column k l) (at_column k g) then 0
    else weigh f (at_column k g)) + written f k lost gained
