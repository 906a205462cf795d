-- What tests of rows and of a table show.
use Rattle.std.specs.Prelude.{◌≡◌, ℕ, ◌<◌, ◌≤◌, ◌⊎◌, Bool, List, [], ◌∷◌, All}
use Rattle.std.proofs.Common.{sym, subst, inl, inr, arith}
use Rattle.std.specs.List.{AllByRecursion, dedup}
use Rattle.std.specs.List.Sorted.{IsStrictlySortedBy, IsSorted}
use Rattle.std.specs.Cmp.{IsTotalOrder}
use Rattle.std.specs.Ordering.{eq_by_cmp}
use Rattle.std.specs.declared.cmp.Ordering.{Ordering}
use Rattle.std.specs.declared.cmp.Ordering.TheVariants.{Less}
use Rattle.std.proofs.lemmas.List.Elements.{All-head, All-tail}
use Rattle.std.proofs.lemmas.List.Kept.{IsStrictlySortedBy-dedup}
use Rattle.relations_spec.specs.Sets.{In, BeforeAll, Ascends}
use Rattle.relations_spec.specs.Spans.{Span, forever}
use Rattle.history_store.specs.Store.{Store, Cell, IsBefore, AllBefore}

-- what holds of each element holds of a member
pub in_all : {X : Type 0} (P : X → Type 0) (x : X) (xs : List X) → All P xs → In x xs → P x
in_all P x [] h m = absurd m
in_all P x (y ∷ xs) h (inl e) = subst P e (All-head P y xs h)
in_all P x (y ∷ xs) h (inr m) = in_all P x xs (All-tail P y xs h) m

before_of : {X : Type 0} (cmp : X → X → Ordering) (x : X) (xs : List X)
    → AllByRecursion (λ y. cmp x y ≡ Less) xs → BeforeAll cmp x xs
before_of cmp x [] h = tt
before_of cmp x (y ∷ xs) h = (h.0, before_of cmp x xs h.1)

ascends_of : {X : Type 0} (cmp : X → X → Ordering) (xs : List X) → IsStrictlySortedBy cmp xs
    → Ascends cmp xs
unfolding IsStrictlySortedBy
ascends_of cmp [] h = tt
ascends_of cmp (x ∷ xs) h = (before_of cmp x xs h.0, ascends_of cmp xs h.1)

-- sorted, and with each kept once
pub sorted_ascends : {X : Type 0} (cmp : X → X → Ordering) (o : IsTotalOrder cmp) (eq : X → X
    → Bool) → ((x y : X) → eq x y ≡ eq_by_cmp cmp x y) → (ys zs : List X) → IsSorted cmp ys
    → zs ≡ dedup eq ys → Ascends cmp zs
sorted_ascends cmp o eq ties ys zs s d = subst (Ascends cmp) (sym d)
    (ascends_of cmp (dedup eq ys) (IsStrictlySortedBy-dedup o ties ys s))

before_later : (m n : ℕ) (p : Span) → m ≤ n → IsBefore m p → IsBefore n p
before_later m n p l h = (let s = h.0 in omega (arith, l, s), step h.1)
  where
    step : (p.end < m) ⊎ (p.end ≡ forever) → (p.end < n) ⊎ (p.end ≡ forever)
    step (inl e) = inl (omega (arith, l, e))
    step (inr e) = inr e

-- what is before a moment is before each later one
pub all_later : (s : Store) (m n : ℕ) → m ≤ n → AllBefore s m → AllBefore s n
all_later s m n l h = record {
  keys = λ p i. before_later m n p l (h.keys p i);
  cells =
      λ cells i c j. before_later m n c.period l (h.cells cells i c j);
}

pub still_before : (s : Store) (m : ℕ) → AllBefore s m → (n : ℕ) → m < n → AllBefore s n
still_before s m h n l = all_later s m n (omega (arith, l)) h

-- it depends on keys and cells alone
pub same_before : (s t : Store) (m : ℕ) → t.keys ≡ s.keys → t.cells ≡ s.cells → AllBefore s m
    → AllBefore t m
same_before s t m k e h = record {
  keys = λ p i. h.keys p (subst (λ (keys : List Span). In p keys) k i);
  cells = λ cells i. h.cells cells (subst (λ (columns : List (List Cell)). In cells columns) e i);
}
