-- What is gathered of a table: what each row has in some of its columns.
use Rattle.std.specs.Prelude.{◌≡◌, ◌↔◌, ℕ, true, List, map, length, Option, Some, None, []}
use Rattle.relations_spec.specs.Spans.{Span, covers}
use Rattle.relations_spec.specs.Timed.{Entry}
use Rattle.relations_spec.proofs.Held.{IsHeld}
use Rattle.prima_base.specs.declared.value.Value.{Value}
use Rattle.schema_catalog.specs.Databases.{cell}
use Rattle.join_exec_spec.specs.Fitting.{Fit}
use Rattle.history_store_spec.specs.Store.{Cell, Store, Holds, row_at, column_of}

-- the cells of these names that the row with the id has at the moment
abbrev pub named_cells : Store → List (List ℕ) → ℕ → ℕ → List Value
named_cells s names id m = map (cell s.columns (row_at id m s.cells)) names

-- the key with the id has the moment, which is one of the slice
abbrev pub HoldsIn : Span → List Span → ℕ → ℕ → Type 0
HoldsIn slice keys id m = Holds keys id m × (covers slice m ≡ true)

-- at each moment of the slice the entries are the cells of these names, for each key that holds,
-- and at no other moment there are any
pub record IsGathered (s : Store) (slice : Span) (names : List (List ℕ))
    (entries : List (Entry (List Value))) : Type 0 where
  pub fit : Fit (length names) entries
  pub has : (row : List Value) (m : ℕ) → IsHeld entries row m
      ↔ ((id : ℕ) × HoldsIn slice s.keys id m × (row ≡ named_cells s names id m))

-- the entries of the columns with these names
abbrev pub or_none : Option (List Cell) → List Cell
or_none None = []
or_none (Some cells) = cells

abbrev pub columns_in : Store → List (List ℕ) → List (List Cell)
columns_in s names = map (λ name. or_none (column_of s name)) names
