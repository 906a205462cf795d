-- Conditions without a node that has no type, and the parts of a condition.
use Rattle.std.proofs.Common.{◌≡◌, ◌+◌, ℕ, Bool, true, false, List, [], ◌∷◌, ◌++◌, refl, ap, subst}
use Rattle.std.proofs.Common.{◌∙◌, inl, inr}
use Rattle.std.specs.Prelude.{◌&&◌, not, None}
use Rattle.std.specs.List.{list_all}
use Rattle.std.proofs.lemmas.List.Folds.{list_all-append}
use Rattle.relations_spec.specs.Sets.{In}
use Rattle.relations_spec.proofs.SetLaws.{in_append}
use Rattle.std.specs.declared.cmp.Ordering.{Ordering}
use Rattle.std.specs.declared.cmp.Ordering.TheVariants.{Less, Equal, Greater}
use Rattle.std.specs.Ordering.{is_eq, is_lt}
use Rattle.prima_base.specs.Order.{value_cmp}
use Rattle.cond_expr.specs.declared.expr.CmpOp.{CmpOp}
use Rattle.cond_expr.specs.declared.expr.CmpOp.TheVariants.{Eq, Ne, Lt, Le, Gt, Ge}
use Rattle.cond_expr.specs.Trees.{Test, never, always, compared, all_of, some_of, fails, Tests}
use Rattle.cond_expr.specs.Trees.{no_tests, a_test}
use Rattle.cond_expr.specs.Values.{Cells, agrees, value, truth, all_true}
use Rattle.cond_expr.specs.Kinds.{Kinds, is_typed, all_typed}
use Rattle.cond_expr.specs.Sizes.{nodes_of, test_nodes}
use Rattle.cond_expr.specs.Faults.{untyped, test_untyped, tests_untyped, if_so, first_of}
use Rattle.cond_expr.specs.Parts.{parts_but_true as parts, all_parts_but_true as all_parts}
use Rattle.piece_ir_spec.proofs.AddedParts.{both_true, and_true}
use Rattle.piece_ir_spec.specs.OperatorViews.{opposite, unmet}

none_both : (xs ys : List ℕ) → first_of (xs ++ ys) ≡ None → (first_of xs ≡ None)
    × (first_of ys ≡ None)
none_both [] ys e = (refl, e)
none_both (x ∷ xs) ys e = absurd (cc)

none_so : (b : Bool) (at : ℕ) → first_of (if_so (not b) at) ≡ None → b ≡ true
none_so true at e = refl
none_so false at e = absurd (cc)

-- a condition none of whose nodes is without a type has one
mutual
  pub typed_test : (of : Kinds) (at : ℕ) (c : Test) → first_of (test_untyped of at c) ≡ None
      → is_typed of c ≡ true
  typed_test of at never e = refl
  typed_test of at always e = refl
  typed_test of at (compared o a b) e =
      none_so (is_typed of (compared o a b)) at
      (none_both (untyped of (at + 1 + nodes_of a) b)
      (if_so (not (is_typed of (compared o a b))) at)
      (none_both (untyped of (at + 1) a) (untyped of (at + 1 + nodes_of a) b
      ++ if_so (not (is_typed of (compared o a b))) at) e).1).1
  typed_test of at (all_of cs) e = typed_tests of (at + 1) cs e
  typed_test of at (some_of cs) e = typed_tests of (at + 1) cs e
  typed_test of at (fails c) e = typed_test of (at + 1) c e

  typed_tests : (of : Kinds) (at : ℕ) (cs : Tests) → first_of (tests_untyped of at cs) ≡ None
      → all_typed of cs ≡ true
  typed_tests of at no_tests e = refl
  typed_tests of at (a_test c cs) e =
      let h = none_both (test_untyped of at c) (tests_untyped of (at + test_nodes c) cs) e in
      and_true (is_typed of c) (all_typed of cs) (typed_test of at c h.0)
      (typed_tests of (at + test_nodes c) cs h.1)

-- each part of a condition that has a type has one
mutual
  pub part_typed : (of : Kinds) (c t : Test) → is_typed of c ≡ true → In t (parts c)
      → is_typed of t ≡ true
  part_typed of never t e (inl m) = subst (λ (x : Test). is_typed of x ≡ true) m e
  part_typed of never t e (inr m) = absurd m
  part_typed of always t e m = absurd m
  part_typed of (compared o a b) t e (inl m) = subst (λ (x : Test). is_typed of x ≡ true) m e
  part_typed of (compared o a b) t e (inr m) = absurd m
  part_typed of (all_of cs) t e m = parts_typed of cs t e m
  part_typed of (some_of cs) t e (inl m) = subst (λ (x : Test). is_typed of x ≡ true) m e
  part_typed of (some_of cs) t e (inr m) = absurd m
  part_typed of (fails c) t e (inl m) = subst (λ (x : Test). is_typed of x ≡ true) m e
  part_typed of (fails c) t e (inr m) = absurd m

  parts_typed : (of : Kinds) (cs : Tests) (t : Test) → all_typed of cs ≡ true → In t (all_parts cs)
      → is_typed of t ≡ true
  parts_typed of no_tests t e m = absurd m
  parts_typed of (a_test c cs) t e m =
      let h = both_true (is_typed of c) (all_typed of cs) e in
      elim (in_append t (parts c) (all_parts cs) m) [
        | inl i ↦ part_typed of c t h.0 i
        | inr i ↦ parts_typed of cs t h.1 i
      ]

pub and_all : (b : Bool) → (b && true) ≡ b
and_all true = refl
and_all false = refl

-- all parts hold just where the condition does
mutual
  pub parts_hold : (at : Cells) (c : Test) → list_all (truth at) (parts c) ≡ truth at c
  parts_hold at never = refl
  parts_hold at always = refl
  parts_hold at (compared o a b) = and_all (truth at (compared o a b))
  parts_hold at (all_of cs) = all_parts_hold at cs
  parts_hold at (some_of cs) = and_all (truth at (some_of cs))
  parts_hold at (fails c) = and_all (truth at (fails c))

  all_parts_hold : (at : Cells) (cs : Tests) → list_all (truth at) (all_parts cs) ≡ all_true at cs
  all_parts_hold at no_tests = refl
  all_parts_hold at (a_test c cs) =
      list_all-append (truth at) (parts c) (all_parts cs)
      ∙ ap (λ (b : Bool). b && list_all (truth at) (all_parts cs)) (parts_hold at c)
      ∙ ap (λ (b : Bool). truth at c && b) (all_parts_hold at cs)

-- ---- a condition that is not met

both_ways : (b : Bool) → b ≡ not (not b)
both_ways true = refl
both_ways false = refl

opposite_fails : (o : CmpOp) (r : Ordering) → agrees (opposite o) r ≡ not (agrees o r)
opposite_fails Eq r = refl
opposite_fails Ne r = both_ways (is_eq r)
opposite_fails Lt r = refl
opposite_fails Le Less = refl
opposite_fails Le Equal = refl
opposite_fails Le Greater = refl
opposite_fails Gt Less = refl
opposite_fails Gt Equal = refl
opposite_fails Gt Greater = refl
opposite_fails Ge r = both_ways (is_lt r)

pub unmet_fails : (at : Cells) (c : Test) → truth at (unmet c) ≡ not (truth at c)
unmet_fails at never = refl
unmet_fails at always = refl
unmet_fails at (compared o a b) = opposite_fails o (value_cmp (value at a) (value at b))
unmet_fails at (all_of cs) = refl
unmet_fails at (some_of cs) = refl
unmet_fails at (fails c) = refl

pub unmet_typed : (of : Kinds) (c : Test) → is_typed of c ≡ true → is_typed of (unmet c) ≡ true
unmet_typed of never e = e
unmet_typed of always e = e
unmet_typed of (compared o a b) e = e
unmet_typed of (all_of cs) e = e
unmet_typed of (some_of cs) e = e
unmet_typed of (fails c) e = e
