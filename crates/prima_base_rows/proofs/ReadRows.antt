-- Rows that are read by their places.
use Rattle.std.proofs.Common.{◌≡◌, ◌<◌, ◌+◌, ℕ, zero, suc, List, [], ◌∷◌, ◌++◌, map, take, length}
use Rattle.std.proofs.Common.{get_or, refl, sym, ap, ◌∙◌}
use Rattle.std.proofs.lemmas.List.{take_more, map-append}
use Rattle.relations_spec.specs.Spans.{Span}
use Rattle.relations_spec.specs.Timed.{Entry}
use Rattle.prima_base.specs.declared.timed_row.TimedRow.{TimedRow}
use Rattle.prima_base.specs.declared.value.Value.{Value}
use Rattle.prima_base.specs.declared.value.Val.{Val}
use Rattle.prima_base.specs.Order.{shown}
use Rattle.prima_base.specs.Timed.{entry_of}
use Rattle.prima_base_rows.proofs.Moves.{no_row}

-- the entry of values and a period that were read at a place
pub read_entry : (rows : List TimedRow) (i : ℕ) (values : List Val) (period : Span)
    → values ≡ (get_or rows i no_row).values.items → period ≡ (get_or rows i no_row).period
    → record { item = map shown values; period = period } ≡ entry_of (get_or rows i no_row)
read_entry rows i values period v p =
    ap (λ (vs : List Val).
    let e : Entry (List Value) = record { item = map shown vs; period = period } in e) v
    ∙ ap (λ (s : Span). let e : Entry (List Value) = record {
      item = map shown (get_or rows i no_row).values.items;
      period = s;
    } in e) p

-- a row stands at its place, also where it is what is read past the end
pub stands_there : (rows : List TimedRow) (i : ℕ)
    → get_or rows i no_row ≡ get_or rows i (get_or rows i no_row)
stands_there [] i = refl
stands_there (row ∷ rows) zero = refl
stands_there (row ∷ rows) (suc i) = stands_there rows i

-- the entry of values that were copied at a place
pub copied_entry : (rows : List TimedRow) (i : ℕ) (copies values : List Val) (period : Span)
    → map shown copies ≡ map shown values → values ≡ (get_or rows i no_row).values.items
    → period ≡ (get_or rows i no_row).period
    → record { item = map shown copies; period = period } ≡ entry_of (get_or rows i no_row)
copied_entry rows i copies values period c v p =
    ap (λ (items : List Value).
    let e : Entry (List Value) = record { item = items; period = period } in e) c
    ∙ read_entry rows i values period v p

-- one row more
pub rows_more : (rows : List TimedRow) (i : ℕ) → i < length rows
    → take (i + 1) rows ≡ take i rows ++ get_or rows i no_row ∷ []
rows_more rows i below = take_more rows i no_row below

-- a list that is made like the rows, one after the other
pub made_more : {X : Type 0} (f : TimedRow → X) (rows made new : List TimedRow) (i : ℕ)
    (row : TimedRow) → i < length rows → map f made ≡ map f (take i rows) → new ≡ made ++ row ∷ []
    → f row ≡ f (get_or rows i no_row) → map f new ≡ map f (take (i + 1) rows)
made_more f rows made new i row below before is same =
    ap (map f) is ∙ map-append f made (row ∷ [])
    ∙ (λ k. before k ++ same k ∷ [])
    ∙ sym (map-append f (take i rows) (get_or rows i no_row ∷ []))
    ∙ ap (map f) (sym (rows_more rows i below))
