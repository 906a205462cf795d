-- Rows in order, and the values of one row at a moment.
use Rattle.std.specs.Prelude.{◌≡◌, ℕ, zero, suc, ◌+◌, ◌<◌, ◌&&◌, ◌==◌, Bool, true, false, List, []}
use Rattle.std.specs.Prelude.{◌∷◌, ◌++◌, length, slice_index_or, if◌then◌else◌}
use Rattle.std.proofs.Common.{refl, sym, ap, subst, ◌∙◌, inl, inr, append_assoc, arith}
use Rattle.std.specs.List.Sorted.{IsPermutation}
use Rattle.std.proofs.lemmas.List.Sorted.{All-permutation, IsPermutation-sym}
use Rattle.std.specs.declared.cmp.Ordering.{Ordering}
use Rattle.std.specs.declared.cmp.Ordering.TheVariants.{Less}
use Rattle.relations_spec.specs.Sets.{In, Same, Ascends, IsExact}
use Rattle.relations_spec.specs.Spans.{covers}
use Rattle.relations_spec.proofs.SetLaws.{before_in, below_each}
use Rattle.prima_base.specs.declared.value.Value.{Value}
use Rattle.history_store.specs.Store.{Cell, shown_at, row_at}
use Rattle.cases_store_tables.proofs.TestedLaws.{in_all}

-- each before the next
pub adjacent_ascend : {X : Type 0} (cmp : X → X → Ordering) (o : IsExact cmp) (xs : List X)
    → ((k : ℕ) (d : X) → k + 1 < length xs → cmp (slice_index_or xs k d)
    (slice_index_or xs (k + 1) d) ≡ Less) → Ascends cmp xs
adjacent_ascend cmp o [] h = tt
adjacent_ascend cmp o (x ∷ []) h = (tt, tt)
adjacent_ascend cmp o (x ∷ (y ∷ ys)) h =
    let rest : Ascends cmp (y ∷ ys) = adjacent_ascend cmp o (y ∷ ys) (λ k d l.
    let e : suc k + 1 ≡ suc (k + 1) = omega arith in
    subst (λ n. cmp (slice_index_or (x ∷ (y ∷ ys)) (suc k) d) (slice_index_or (x ∷ (y ∷ ys)) n d)
    ≡ Less) e (h (suc k) d (omega (arith, l)))) in
    let first : cmp x y ≡ Less = h 0 x (omega arith) in (
      (first, below_each cmp x ys (λ z i. o.trans x y z first (before_in cmp y z ys rest.0 i))),
      rest,
    )

-- what stands at a place is in the list
pub in_get : {X : Type 0} (xs : List X) (k : ℕ) (d : X) → k < length xs
    → In (slice_index_or xs k d) xs
in_get [] k d l = absurd (omega (arith, l))
in_get (x ∷ xs) zero d l = inl refl
in_get (x ∷ xs) (suc k) d l = inr (in_get xs k d (omega (arith, l)))

-- ids that are moved about
pub same_sorted : (ids sorted : List ℕ) → IsPermutation ids sorted → Same ids sorted
same_sorted ids sorted p = record {
  there = λ q i. in_all (λ x. In x sorted) q ids
      (All-permutation (λ x. In x sorted) sorted ids (IsPermutation-sym ids sorted p)
      (λ k d h. in_get sorted k d h)) i;
  back = λ q i. in_all (λ x. In x ids) q sorted
      (All-permutation (λ x. In x ids) ids sorted p (λ k d h. in_get ids k d h)) i;
}

-- what the first cell shows, and the others
pub shown_first : (id m : ℕ) (c : Cell) (rest : List Cell)
    → shown_at id m (c ∷ rest) ≡ shown_at id m (c ∷ []) ++ shown_at id m rest
shown_first id m c rest = step (c.id == id && covers c.period m)
  where
    step : (b : Bool) → (if b then c.value ∷ shown_at id m rest else shown_at id m rest)
        ≡ (if b then c.value ∷ [] else []) ++ shown_at id m rest
    step true = refl
    step false = refl

pub values_more : (id m : ℕ) (whole values more : List Value) (c : Cell) (rest all : List Cell)
    → whole ≡ values ++ shown_at id m all → all ≡ c ∷ rest → more ≡ values ++ shown_at id m (c ∷ [])
    → whole ≡ more ++ shown_at id m rest
values_more id m whole values more c rest all w a n =
    w ∙ ap (λ (l : List Cell). values ++ shown_at id m l) a
    ∙ ap (λ (l : List Value). values ++ l) (shown_first id m c rest)
    ∙ sym (append_assoc values (shown_at id m (c ∷ [])) (shown_at id m rest))
    ∙ ap (λ (l : List Value). l ++ shown_at id m rest) (sym n)

-- what it has in the first column, and in the others
pub row_more : (id m : ℕ) (whole values more : List Value) (cells : List Cell)
    (rest all : List (List Cell))
    → whole ≡ values ++ row_at id m all → all ≡ cells ∷ rest → more ≡ values ++ shown_at id m cells
    → whole ≡ more ++ row_at id m rest
row_more id m whole values more cells rest all w a n =
    w ∙ ap (λ (l : List (List Cell)). values ++ row_at id m l) a
    ∙ sym (append_assoc values (shown_at id m cells) (row_at id m rest))
    ∙ ap (λ (l : List Value). l ++ row_at id m rest) (sym n)
