-- The entries of a column weigh what its writes weigh, and are as many.
use Rattle.std.proofs.Common.{◌≡◌, ◌≢◌, Bool, true, ℕ, ◌+◌, ◌<◌, ◌≤◌, false, List, [], ◌∷◌, length}
use Rattle.std.proofs.Common.{refl, sym, ap, ◌∙◌, arith, inl, inr, add_assoc, if◌then◌else◌, ◌++◌}
use Rattle.std.proofs.Common.{◌==◌}
use Rattle.std.proofs.lemmas.Bool.Decides.{nat_tests, eqb_tells}
use Rattle.relations_spec.specs.Sets.{In}
use Rattle.relations_spec.specs.Spans.{Span}
use Rattle.prima_base.specs.declared.value.Value.{Value}
use Rattle.history_store_spec.specs.Store.{Cell, weight}
use Rattle.history_store_columns.specs.Log.{Write, newest}
use Rattle.history_store_columns.specs.Chains.{of_id}
use Rattle.history_store_columns.specs.Entries.{with_ends, entries_from}
use Rattle.history_store_columns.specs.Puts.{is_value, put}

-- what a column's writes weigh
abbrev pub weight_of : (Value → ℕ) → List Write → ℕ
weight_of f [] = 0
weight_of f (c ∷ cells) = f c.value + weight_of f cells

weight_after : (f : Value → ℕ) (cells : List Write) (c : Write)
    → weight_of f (cells ++ c ∷ []) ≡ weight_of f cells + f c.value
weight_after f [] c = omega arith
weight_after f (d ∷ cells) c = let e = weight_after f cells c in omega (arith, e)

pub put_weight : (f : Value → ℕ) (id : ℕ) (v : Value) (stamp : ℕ) (cells : List Write)
    → weight_of f (put id v stamp cells) ≡ weight_of f
    cells + (if is_value v (newest id cells) then 0 else f v)
put_weight f id v stamp cells = by_case (is_value v (newest id cells))
  where
    by_case : (b : Bool) → weight_of f (if b then cells
        else cells ++ record { id = id; value = v; start = stamp } ∷ [])
        ≡ weight_of f cells + (if b then 0 else f v)
    by_case true = omega arith
    by_case false = weight_after f cells (record { id = id; value = v; start = stamp })

weight-append : (f : Value → ℕ) (cells more : List Cell)
    → weight f (cells ++ more) ≡ weight f cells + weight f more
weight-append f [] more = omega arith
weight-append f (c ∷ cells) more = let e = weight-append f cells more in omega (arith, e)

weigh_ends : (f : Value → ℕ) (to : ℕ) (cells : List Write)
    → weight f (with_ends to cells) ≡ weight_of f cells
weigh_ends f to [] = refl
weigh_ends f to (c ∷ []) = refl
weigh_ends f to (c ∷ (d ∷ cells)) = ap (λ n. f c.value + n) (weigh_ends f to (d ∷ cells))

count_above : (low : ℕ) (keys : List Span) (c : Write) (cells : List Write) → c.id < low
    → entries_from low keys (c ∷ cells) ≡ entries_from low keys cells
count_above low [] c cells h = refl
count_above low (k ∷ keys) c cells h =
    let t : (c.id == low) ≡ false = grind (arith, nat_tests) in
    let e = count_above (low + 1) keys c cells (omega (arith, h)) in
    rw (t, e) refl

weigh_one : (f : Value → ℕ) (low : ℕ) (keys : List Span) (c : Write) (cells : List Write)
    → low ≤ c.id → c.id < low + length keys → weight f (entries_from low keys (c ∷ cells))
    ≡ f c.value + weight f (entries_from low keys cells)
weigh_one f low [] c cells l h = absurd (omega (arith, l, h))
weigh_one f low (k ∷ keys) c cells l h = elim (eqb_tells c.id low) [
  | inl q ↦
      let t = q.0 in
      let i = q.1 in
      let e = count_above (low + 1) keys c cells (omega (arith, i)) in
      rw (t, e) (
      weight-append f (with_ends k.end (c ∷ of_id low cells)) (entries_from (low + 1) keys cells)
      ∙ ap (λ n. n + weight f (entries_from (low + 1) keys cells))
      (weigh_ends f k.end (c ∷ of_id low cells)
      ∙ ap (λ n. f c.value + n) (sym (weigh_ends f k.end (of_id low cells))))
      ∙ add_assoc (f c.value) (weight f (with_ends k.end (of_id low cells)))
      (weight f (entries_from (low + 1) keys cells))
      ∙ ap (λ n. f c.value + n) (sym (weight-append f (with_ends k.end (of_id low cells))
      (entries_from (low + 1) keys cells)))
      )
  | inr q ↦
      let t = q.0 in
      let n : c.id ≢ low = q.1 in
      let again = weigh_one f (low + 1) keys c cells (omega arith) (omega (arith, h)) in
      let one = weight-append f (with_ends k.end (of_id low cells))
      (entries_from (low + 1) keys (c ∷ cells)) in
      let two = weight-append f (with_ends k.end (of_id low cells))
      (entries_from (low + 1) keys cells) in
      rw t (omega (arith, again, one, two))
]

no_entries : (low : ℕ) (keys : List Span) → entries_from low keys [] ≡ []
no_entries low [] = refl
no_entries low (k ∷ keys) = no_entries (low + 1) keys

pub entry_weight : (f : Value → ℕ) (keys : List Span) (cells : List Write)
    → ((c : Write) → In c cells → c.id < length keys)
    → weight f (entries_from 0 keys cells) ≡ weight_of f cells
entry_weight f keys [] k = ap (weight f) (no_entries 0 keys)
entry_weight f keys (c ∷ cells) k =
    let h : c.id < length keys = k c (inl refl) in
    weigh_one f 0 keys c cells (omega arith) (omega (arith, h))
    ∙ ap (λ n. f c.value + n) (entry_weight f keys cells (λ d i. k d (inr i)))

-- there are as many entries as they weigh where each value weighs one
pub one_each : (cells : List Cell) → length cells ≡ weight (λ v. 1) cells
one_each [] = refl
one_each (c ∷ cells) = let e = one_each cells in omega (arith, e)

pub one_write : (cells : List Write) → weight_of (λ v. 1) cells ≡ length cells
one_write [] = refl
one_write (c ∷ cells) = let e = one_write cells in omega (arith, e)
