-- Ids that were sorted with their values are in the order of a column.
use Rattle.std.proofs.Common.{◌≡◌, ◌==◌, ℕ, suc, ◌+◌, true, false, List, [], ◌∷◌, All, map, get_or}
use Rattle.std.proofs.Common.{refl, sym, ap, ◌∙◌, subst, arith, inl, inr}
use Rattle.std.specs.List.{AllByRecursion, IsDistinct}
use Rattle.std.specs.List.Sorted.{IsPermutation, IsSorted}
use Rattle.std.specs.Ordering.{nat_cmp, is_lt, ordering_then}
use Rattle.std.specs.declared.cmp.Ordering.{Ordering}
use Rattle.std.specs.declared.cmp.Ordering.TheVariants.{Less, Equal, Greater}
use Rattle.std.proofs.lemmas.Bool.Decides.{eqb_tells}
use Rattle.std.proofs.lemmas.List.Sorted.{All-permutation, IsPermutation-map, IsPermutation-sym}
use Rattle.std.proofs.lemmas.Map.Keys.{IsDistinct-IsPermutation}
use Rattle.relations_spec.specs.Sets.{In, Ascends, IsExact, Same}
use Rattle.relations_spec.proofs.SetLaws.{below_each, before_in}
use Rattle.prima_base.specs.Order.{value_cmp}
use Rattle.prima_base.specs.declared.value.Value.{Value}
use Rattle.history_store_columns.specs.Log.{Write, newest}
use Rattle.history_store_value_order.specs.ByValue.{Distinct, by_value}
use Rattle.history_store_value_order.proofs.Places.{in_get, all_in}
use Rattle.history_store_value_order.proofs.Marks.{value_exact}

then_equal : (o : Ordering) → ordering_then o Equal ≡ o
then_equal Less = refl
then_equal Equal = refl
then_equal Greater = refl

-- ---- ids that differ

differ : (x : ℕ) (ids : List ℕ) → (In x ids → ⊥) → AllByRecursion (λ y. (x == y) ≡ false) ids
differ x [] n = tt
differ x (y ∷ ids) n = (
  elim (eqb_tells x y) [ inl e ↦ absurd (n (inl (sym e.1))) | inr m ↦ m.0 ],
  differ x ids (λ i. n (inr i)),
)

are_distinct : (ids : List ℕ) → Distinct ids → IsDistinct (λ x y. x == y) ids
unfolding IsDistinct
are_distinct [] d = tt
are_distinct (x ∷ ids) d = (differ x ids d.0, are_distinct ids d.1)

flips : (x y : ℕ) → (x == y) ≡ (y == x)
flips x y = elim (eqb_tells x y) [
  | inl e ↦ elim (eqb_tells y x) [ inl f ↦ e.0 ∙ sym f.0 | inr f ↦ absurd (f.1 (sym e.1)) ]
  | inr e ↦ elim (eqb_tells y x) [ inl f ↦ absurd (e.1 (sym f.1)) | inr f ↦ e.0 ∙ sym f.0 ]
]

-- ---- ids that are moved about

all_there : (ids : List ℕ) → All (λ x. In x ids) ids
all_there ids k d h = in_get ids k d h

pub same_ids : (live ids : List ℕ) → IsPermutation live ids → Same ids live
same_ids live ids p = record {
  there = λ q i. all_in (λ x. In x live) ids (All-permutation (λ x. In x live) live ids p
      (all_there live)) q i;
  back = λ q i. all_in (λ x. In x ids) live (All-permutation (λ x. In x ids) ids live
      (IsPermutation-sym live ids p) (all_there ids)) q i;
}

-- ---- the order

module _ {M : Type 0} (id : M → ℕ) (C : M → M → Ordering) (R : ℕ → ℕ → Ordering) (o : IsExact R)
    (Is : M → Type 0) (compares : (x y : M) → Is x → Is y → C x y ≡ R (id x) (id y)) where
  first : (x y : M) → Is x → Is y → (id x == id y) ≡ false → is_lt (C y x) ≡ false
      → R (id x) (id y) ≡ Less
  first x y e f n s = by_case (R (id x) (id y)) refl
    where
      by_case : (r : Ordering) → R (id x) (id y) ≡ r → R (id x) (id y) ≡ Less
      by_case Less k = k
      by_case Equal k = elim (eqb_tells (id x) (id y)) [
        | inl q ↦ (let t = q.0 in absurd (cc))
        | inr q ↦ absurd (q.1 (o.same (id x) (id y) k))
      ]
      by_case Greater k = (let t : is_lt (C y x) ≡ true =
          ap is_lt (compares y x f e ∙ o.turn (id x) (id y) k) in absurd (cc))

  ascends : (xs : List M) → ((m : M) → In m xs → Is m) → IsDistinct (λ x y. x == y) (map id xs)
      → IsSorted C xs → Ascends R (map id xs)
  unfolding IsDistinct
  ascends [] a d s = tt
  ascends (x ∷ []) a d s = (tt, tt)
  ascends (x ∷ (y ∷ xs)) a d s =
      let rest = ascends (y ∷ xs) (λ m i. a m (inr i)) d.1
      (λ k e l h. (let n : suc k + 1 ≡ suc (k + 1) = omega arith in
      subst (λ j. is_lt (C (get_or (x ∷ (y ∷ xs)) j e) (get_or (y ∷ xs) k e)) ≡ false) n
      (s (suc k) e (omega arith) (omega (arith, h))))) in
      let f = first x y (a x (inl refl)) (a y (inr (inl refl))) d.0.0
      (s 0 x (omega arith) (omega arith)) in (
        (
          f,
          below_each R (id x) (map id xs) (λ z i.
              o.trans (id x) (id y) z f (before_in R (id y) z (map id xs) rest.0 i)),
        ),
        rest,
      )

  module _ (live : List ℕ) (marks sorted : List M) (d : Distinct live) (ids : map id marks ≡ live)
      (values : All Is marks) (p : IsPermutation marks sorted) (s : IsSorted C sorted) where
    moved : IsPermutation live (map id sorted)
    moved = subst (λ xs. IsPermutation xs (map id sorted)) ids (IsPermutation-map id marks sorted p)

    marks_rise : Ascends R (map id sorted)
    marks_rise = ascends sorted (all_in Is sorted (All-permutation Is marks sorted p values))
        (IsDistinct-IsPermutation (λ x y. x == y) flips live (map id sorted) moved
        (are_distinct live d)) s

    marks_same : Same (map id sorted) live
    marks_same = same_ids live (map id sorted) moved

-- by the values of one column
module _ {M : Type 0} (value : M → Value) (id : M → ℕ) (C : M → M → Ordering) (c : (x y : M)
    → C x y ≡ ordering_then (value_cmp (value x) (value y)) (nat_cmp (id x) (id y)))
    (cells : List Write) where
  abbrev IsValue : M → Type 0
  IsValue m = newest (id m) cells ≡ value m ∷ []

  value_compares : (x y : M) → IsValue x → IsValue y → C x y ≡ by_value cells (id x) (id y)
  value_compares x y e f = c x y ∙ rw (e, f) (ap (λ r. ordering_then r (nat_cmp (id x) (id y)))
      (sym (then_equal (value_cmp (value x) (value y)))))

  module _ (live : List ℕ) (marks sorted : List M) (d : Distinct live) (ids : map id marks ≡ live)
      (values : All IsValue marks) (p : IsPermutation marks sorted) (s : IsSorted C sorted) where
    pub sorted_rises : Ascends (by_value cells) (map id sorted)
    sorted_rises = marks_rise id C (by_value cells) (value_exact cells) IsValue value_compares live
        marks sorted d ids values p s

    pub sorted_same : Same (map id sorted) live
    sorted_same = marks_same id C (by_value cells) (value_exact cells) IsValue value_compares live
        marks sorted d ids values p s
