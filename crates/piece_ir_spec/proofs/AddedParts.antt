-- A condition with further parts is true where it is and all of these are, and has a type where
-- each of them has.
use Rattle.std.specs.Prelude.{◌≡◌, List, [], ◌∷◌, ◌++◌, Bool, true, false, ◌&&◌}
use Rattle.std.proofs.Common.{refl, ap, sym, subst, ◌∙◌, inl, inr}
use Rattle.std.specs.List.{list_all}
use Rattle.relations_spec.specs.Sets.{In}
use Rattle.relations_spec.proofs.SetLaws.{in_left, in_right, in_append}
use Rattle.cond_expr.specs.Trees.{Test, never, always, compared, all_of, some_of, fails, Tests}
use Rattle.cond_expr.specs.Trees.{no_tests, a_test}
use Rattle.cond_expr.specs.Seen.{tests_of}
use Rattle.cond_expr.specs.Values.{Cells, truth, all_true}
use Rattle.cond_expr.specs.Kinds.{Kinds, is_typed, all_typed}
use Rattle.cond_expr.specs.Parts.{parts_but_true as parts, all_parts_but_true as all_parts}
use Rattle.plain_answers_spec.proofs.PartLaws.{part_true, parts_true}
use Rattle.piece_ir_spec.specs.Unfolding.{with_parts}

pub both_true : (a b : Bool) → (a && b) ≡ true → (a ≡ true) × (b ≡ true)
both_true true b e = (refl, e)
both_true false b e = absurd (cc)

pub and_true : (a b : Bool) → a ≡ true → b ≡ true → (a && b) ≡ true
and_true true b e f = f
and_true false b e f = absurd (cc)

-- all of a list
pub all_in : {X : Type 0} (p : X → Bool) (xs : List X) → list_all p xs ≡ true → (x : X) → In x xs
    → p x ≡ true
all_in p [] e x m = absurd m
all_in p (y ∷ xs) e x (inl i) = ap p (sym i) ∙ (both_true (p y) (list_all p xs) e).0
all_in p (y ∷ xs) e x (inr m) = all_in p xs (both_true (p y) (list_all p xs) e).1 x m

pub all_from : {X : Type 0} (p : X → Bool) (xs : List X) → ((x : X) → In x xs → p x ≡ true)
    → list_all p xs ≡ true
all_from p [] h = refl
all_from p (y ∷ xs) h = and_true (p y) (list_all p xs) (h y (inl refl))
    (all_from p xs (λ x m. h x (inr m)))

all_of_tests : (at : Cells) (cs : List Test) → all_true at (tests_of cs) ≡ list_all (truth at) cs
all_of_tests at [] = refl
all_of_tests at (c ∷ cs) = ap (λ b. truth at c && b) (all_of_tests at cs)

all_typed_tests : (of : Kinds) (cs : List Test)
    → all_typed of (tests_of cs) ≡ list_all (is_typed of) cs
all_typed_tests of [] = refl
all_typed_tests of (c ∷ cs) = ap (λ b. is_typed of c && b) (all_typed_tests of cs)

module _ (at : Cells) where
  pub with_true : (c : Test) (ds : List Test) → truth at c ≡ true → list_all (truth at) ds ≡ true
      → truth at (with_parts c ds) ≡ true
  with_true c [] e f = e
  with_true c (d ∷ ds) e f =
      all_of_tests at (parts c ++ d ∷ ds)
      ∙ all_from (truth at) (parts c ++ d ∷ ds)
      (λ t m. elim (in_append t (parts c) (d ∷ ds) m) [
        | inl i ↦ part_true at c t e i
        | inr i ↦ all_in (truth at) (d ∷ ds) f t i
      ])

  pub true_with : (c : Test) (ds : List Test) → truth at (with_parts c ds) ≡ true
      → (truth at c ≡ true) × (list_all (truth at) ds ≡ true)
  true_with c [] e = (e, refl)
  true_with c (d ∷ ds) e =
      let f : list_all (truth at) (parts c ++ d ∷ ds) ≡ true =
      sym (all_of_tests at (parts c ++ d ∷ ds)) ∙ e in (
        parts_true at c (λ t m. all_in (truth at) (parts c ++ d ∷ ds) f t
            (in_left t (parts c) (d ∷ ds) m)),
        all_from (truth at) (d ∷ ds) (λ t m. all_in (truth at) (parts c ++ d ∷ ds) f t
            (in_right t (parts c) (d ∷ ds) m)),
      )

module _ (of : Kinds) where
  mutual
    part_typed : (c t : Test) → is_typed of c ≡ true → In t (parts c) → is_typed of t ≡ true
    part_typed never t e (inl m) = ap (is_typed of) (sym m)
    part_typed never t e (inr m) = absurd m
    part_typed always t e m = absurd m
    part_typed (compared o a b) t e (inl m) = subst (λ (x : Test). is_typed of x ≡ true) m e
    part_typed (compared o a b) t e (inr m) = absurd m
    part_typed (all_of cs) t e m = each_typed cs t e m
    part_typed (some_of cs) t e (inl m) = subst (λ (x : Test). is_typed of x ≡ true) m e
    part_typed (some_of cs) t e (inr m) = absurd m
    part_typed (fails c) t e (inl m) = subst (λ (x : Test). is_typed of x ≡ true) m e
    part_typed (fails c) t e (inr m) = absurd m

    each_typed : (cs : Tests) (t : Test) → all_typed of cs ≡ true → In t (all_parts cs)
        → is_typed of t ≡ true
    each_typed no_tests t e m = absurd m
    each_typed (a_test c cs) t e m =
        let b = both_true (is_typed of c) (all_typed of cs) e in
        elim (in_append t (parts c) (all_parts cs) m) [
          | inl i ↦ part_typed c t b.0 i
          | inr i ↦ each_typed cs t b.1 i
        ]

  pub with_typed : (c : Test) (ds : List Test) → is_typed of c ≡ true
      → ((t : Test) → In t ds → is_typed of t ≡ true) → is_typed of (with_parts c ds) ≡ true
  with_typed c [] e f = e
  with_typed c (d ∷ ds) e f =
      all_typed_tests of (parts c ++ d ∷ ds)
      ∙ all_from (is_typed of) (parts c ++ d ∷ ds)
      (λ t m. elim (in_append t (parts c) (d ∷ ds) m) [
        | inl i ↦ part_typed c t e i
        | inr i ↦ f t i
      ])
