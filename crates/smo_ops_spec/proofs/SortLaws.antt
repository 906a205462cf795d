-- What a sort and a `dedup` leave is the relation of the rows.
use Rattle.std.specs.Prelude.{◌≡◌, ℕ, zero, suc, ◌<◌, List, [], ◌∷◌, Bool, length, slice_index_or}
use Rattle.std.proofs.Common.{sym, ◌∙◌, inl, inr, arith}
use Rattle.std.specs.List.{Contains, AllByRecursion, dedup}
use Rattle.std.specs.List.Sorted.{IsPermutation, IsStrictlySortedBy, IsSorted}
use Rattle.std.specs.Cmp.{IsTotalOrder, IsEquivalence, Equal-is}
use Rattle.std.specs.Ordering.{eq_by_cmp}
use Rattle.std.specs.declared.cmp.Ordering.{Ordering}
use Rattle.std.specs.declared.cmp.Ordering.TheVariants.{Less}
use Rattle.std.proofs.lemmas.List.Sorted.{Contains-permutation, IsPermutation-sym}
use Rattle.std.proofs.lemmas.List.Kept.{Contains-dedup, Contains-from_dedup}
use Rattle.std.proofs.lemmas.List.Kept.{IsStrictlySortedBy-dedup}
use Rattle.relations_spec.specs.Sets.{In, BeforeAll, Ascends, set_of, IsExact}
use Rattle.relations_spec.proofs.SetLaws.{one_list, set_ascends, in_set, from_set}

contains_in : {X : Type 0} (x : X) (xs : List X) (k : ℕ) → k < length xs → slice_index_or xs k x ≡ x
    → In x xs
contains_in x [] k l e = absurd (omega arith)
contains_in x (y ∷ xs) zero l e = inl e
contains_in x (y ∷ xs) (suc k) l e = inr (contains_in x xs k (omega arith) e)

in_of : {X : Type 0} (x : X) (xs : List X) → Contains xs x → In x xs
in_of x xs h = contains_in x xs h.0 h.1 h.2

contains_of : {X : Type 0} (x : X) (xs : List X) → In x xs → Contains xs x
contains_of x [] m = absurd m
contains_of x (y ∷ xs) (inl e) = (0, omega arith, e)
contains_of x (y ∷ xs) (inr m) = let h = contains_of x xs m in let l : suc h.0 < length (y ∷ xs) =
    (let k = h.1 in omega arith) in (suc h.0, l, h.2)

before_of : {X : Type 0} (cmp : X → X → Ordering) (x : X) (xs : List X)
    → AllByRecursion (λ y. cmp x y ≡ Less) xs → BeforeAll cmp x xs
before_of cmp x [] h = tt
before_of cmp x (y ∷ xs) h = (h.0, before_of cmp x xs h.1)

ascends_of : {X : Type 0} (cmp : X → X → Ordering) (xs : List X) → IsStrictlySortedBy cmp xs
    → Ascends cmp xs
unfolding IsStrictlySortedBy
ascends_of cmp [] h = tt
ascends_of cmp (x ∷ xs) h = (before_of cmp x xs h.0, ascends_of cmp xs h.1)

-- the members before, sorted, and with each kept once
pub sorted_set : {X : Type 0} (cmp : X → X → Ordering) (o : IsTotalOrder cmp) (exact : IsExact cmp)
    (eq : X → X → Bool) → IsEquivalence eq → ((x y : X) → eq x y ≡ eq_by_cmp cmp x y)
    → (xs ys zs : List X) → IsPermutation xs ys → IsSorted cmp ys → zs ≡ dedup eq ys
    → zs ≡ set_of cmp xs
sorted_set {X} cmp o exact eq equiv ties xs ys zs p s d =
    let kept : dedup eq ys ≡ set_of cmp xs = one_list cmp exact (dedup eq ys) (set_of cmp xs)
    (ascends_of cmp (dedup eq ys) (IsStrictlySortedBy-dedup o ties ys s))
    (set_ascends cmp exact xs) (record {
      there = λ z m. in_set cmp exact z xs (in_of z xs
          (Contains-permutation ys xs z (IsPermutation-sym xs ys p)
          (Contains-from_dedup eq ys z (contains_of z (dedup eq ys) m))));
      back = λ z m. in_of z (dedup eq ys) (Contains-dedup equiv
          (λ x y e. exact.same x y ((Equal-is (cmp x y)).0 (sym (ties x y) ∙ e))) ys z
          (Contains-permutation xs ys z p (contains_of z xs (from_set cmp exact z xs m))));
    }) in
    d ∙ kept
