-- The first refusal of joined tests, and of the tests of a list's members from a place on.
use Rattle.std.proofs.Common.{◌≡◌, ◌<◌, ℕ, suc, Bool, true, false, ◌+◌, List, [], ◌∷◌, ◌++◌, length}
use Rattle.std.proofs.Common.{map, drop, get_or, refl, sym, ap, ◌∙◌, drop-cons, add-one}
use Rattle.std.specs.Prelude.{Option, Some, None}
use Rattle.std.specs.List.{flat_map}
use Rattle.std.specs.Option.{option_map}
use Rattle.smo_ops_spec.specs.First.{unless, first_refusal}

pub first_after : {R : Type 0} (a b : List (Option R)) → first_refusal a ≡ None
    → first_refusal (a ++ b) ≡ first_refusal b
first_after [] b e = refl
first_after (None ∷ a) b e = first_after a b e
first_after (Some r ∷ a) b e = absurd (cc)

pub first_before : {R : Type 0} (a b : List (Option R)) (r : R) → first_refusal a ≡ Some r
    → first_refusal (a ++ b) ≡ Some r
first_before [] b r e = absurd (cc)
first_before (None ∷ a) b r e = first_before a b r e
first_before (Some q ∷ a) b r e = e

pub drop_at : {A : Type 0} (xs : List A) (i : ℕ) (x : A) → i < length xs → x ≡ get_or xs i x
    → drop i xs ≡ x ∷ drop (i + 1) xs
drop_at xs i x l e = drop-cons xs i x l ∙ ap (λ y. y ∷ drop (suc i) xs) (sym e)
    ∙ ap (λ j. x ∷ drop j xs) (sym (add-one i))

module _ {A B R : Type 0} (f : B → List (Option R)) (g : A → B) (xs : List A) (i : ℕ) (x : A)
    (below : i < length xs) (is : x ≡ get_or xs i x) where
  tests_at : flat_map f (map g (drop i xs)) ≡ f (g x) ++ flat_map f (map g (drop (i + 1) xs))
  tests_at = ap (λ ys. flat_map f (map g ys)) (drop_at xs i x below is)

  pub tests_more : first_refusal (f (g x)) ≡ None
      → first_refusal (flat_map f (map g (drop i xs)))
      ≡ first_refusal (flat_map f (map g (drop (i + 1) xs)))
  tests_more e = ap first_refusal tests_at ∙ first_after (f (g x))
      (flat_map f (map g (drop (i + 1) xs))) e

  pub tests_stop : (r : R) → first_refusal (f (g x)) ≡ Some r
      → first_refusal (flat_map f (map g (drop i xs))) ≡ Some r
  tests_stop r e = ap first_refusal tests_at ∙ first_before (f (g x))
      (flat_map f (map g (drop (i + 1) xs))) r e

-- where no test refuses, none of its parts does
pub none_of_both : {R : Type 0} (a b : List (Option R)) → first_refusal (a ++ b) ≡ None
    → (first_refusal a ≡ None) × (first_refusal b ≡ None)
none_of_both [] b e = (refl, e)
none_of_both (None ∷ a) b e = none_of_both a b e
none_of_both (Some r ∷ a) b e = absurd (cc)

pub none_of_first : {R : Type 0} (x : Option R) (xs : List (Option R))
    → first_refusal (x ∷ xs) ≡ None → (x ≡ None) × (first_refusal xs ≡ None)
none_of_first None xs e = (refl, e)
none_of_first (Some r) xs e = absurd (cc)

pub met : {R : Type 0} (b : Bool) (r : R) → unless b r ≡ None → b ≡ true
met true r e = refl
met false r e = absurd (cc)

pub none_mapped : {A B : Type 0} (f : A → B) (o : Option A) → option_map f o ≡ None → o ≡ None
none_mapped f None e = refl
none_mapped f (Some x) e = absurd (cc)

pub first_at : {R : Type 0} (x : Option R) (xs : List (Option R)) (r : R) → x ≡ Some r
    → first_refusal (x ∷ xs) ≡ Some r
first_at None xs r e = absurd (cc)
first_at (Some q) xs r e = e

pub first_later : {R : Type 0} (x : Option R) (xs : List (Option R)) → x ≡ None
    → first_refusal (x ∷ xs) ≡ first_refusal xs
first_later None xs e = refl
first_later (Some q) xs e = absurd (cc)

pub first_alone : {R : Type 0} (x : Option R) → first_refusal (x ∷ []) ≡ x
first_alone None = refl
first_alone (Some q) = refl
