-- The place of an ill-typed node lies in its tree.
use Rattle.std.proofs.Common.{◌≡◌, ◌<◌, ◌+◌, ℕ, Bool, true, false, List, [], ◌∷◌, ◌++◌, arith, inl}
use Rattle.std.proofs.Common.{inr}
use Rattle.std.specs.Prelude.{not, is_none, Some}
use Rattle.relations_spec.specs.Sets.{In}
use Rattle.relations_spec.proofs.SetLaws.{in_append}
use Rattle.cond_expr.specs.Trees.{Tree, column, constant, length_of, joined, choose, Trees}
use Rattle.cond_expr.specs.Trees.{no_trees, a_tree, Test, never, always, compared, all_of, some_of}
use Rattle.cond_expr.specs.Trees.{fails, Tests, no_tests, a_test}
use Rattle.cond_expr.specs.Sizes.{nodes_of, trees_nodes, test_nodes, tests_nodes}
use Rattle.cond_expr.specs.Kinds.{Kinds, kind_of, is_typed}
use Rattle.cond_expr.specs.Faults.{if_so, untyped, trees_untyped, test_untyped, tests_untyped}
use Rattle.cond_expr.specs.Faults.{first_of}

at_it : (b : Bool) (at p : ℕ) → In p (if_so b at) → at ≡ p
at_it true at p (inl e) = e
at_it true at p (inr m) = absurd m
at_it false at p m = absurd m

in_two : (xs ys : List ℕ) (p n : ℕ) → (In p xs → p < n) → (In p ys → p < n) → In p (xs ++ ys)
    → p < n
in_two xs ys p n f g m = elim (in_append p xs ys m) [ inl k ↦ f k | inr k ↦ g k ]

mutual
  pub in_tree : (of : Kinds) (at : ℕ) (t : Tree) (p : ℕ) → In p (untyped of at t)
      → p < at + nodes_of t
  in_tree of at (column w n) p m = (let e = at_it (is_none (of w n)) at p m in omega arith)
  in_tree of at (constant v) p m = absurd m
  in_tree of at (length_of t) p m =
      in_two (untyped of (at + 1) t) (if_so (is_none (kind_of of (length_of t))) at) p
      (at + nodes_of (length_of t))
      (λ k. let h = in_tree of (at + 1) t p k in omega arith)
      (λ k. let e = at_it (is_none (kind_of of (length_of t))) at p k in omega arith) m
  in_tree of at (joined ts) p m =
      in_two (trees_untyped of (at + 1) ts) (if_so (is_none (kind_of of (joined ts))) at) p
      (at + nodes_of (joined ts))
      (λ k. let h = in_trees of (at + 1) ts p k in omega arith)
      (λ k. let e = at_it (is_none (kind_of of (joined ts))) at p k in omega arith) m
  in_tree of at (choose c a b) p m =
      in_two (test_untyped of (at + 1) c)
      (untyped of (at + 1 + test_nodes c) a ++ (untyped of (at + 1 + test_nodes c + nodes_of a) b
      ++ if_so (is_none (kind_of of (choose c a b))) at)) p (at + nodes_of (choose c a b))
      (λ k. let h = in_test of (at + 1) c p k in omega arith)
      (in_two (untyped of (at + 1 + test_nodes c) a)
      (untyped of (at + 1 + test_nodes c + nodes_of a) b
      ++ if_so (is_none (kind_of of (choose c a b))) at) p (at + nodes_of (choose c a b))
      (λ k. let h = in_tree of (at + 1 + test_nodes c) a p k in omega arith)
      (in_two (untyped of (at + 1 + test_nodes c + nodes_of a) b)
      (if_so (is_none (kind_of of (choose c a b))) at) p (at + nodes_of (choose c a b))
      (λ k. let h = in_tree of (at + 1 + test_nodes c + nodes_of a) b p k in omega arith)
      (λ k. let e = at_it (is_none (kind_of of (choose c a b))) at p k in omega arith))) m

  pub in_trees : (of : Kinds) (at : ℕ) (ts : Trees) (p : ℕ) → In p (trees_untyped of at ts)
      → p < at + trees_nodes ts
  in_trees of at no_trees p m = absurd m
  in_trees of at (a_tree t ts) p m =
      in_two (untyped of at t) (trees_untyped of (at + nodes_of t) ts) p
      (at + trees_nodes (a_tree t ts))
      (λ k. let h = in_tree of at t p k in omega arith)
      (λ k. let h = in_trees of (at + nodes_of t) ts p k in omega arith) m

  pub in_test : (of : Kinds) (at : ℕ) (c : Test) (p : ℕ) → In p (test_untyped of at c)
      → p < at + test_nodes c
  in_test of at never p m = absurd m
  in_test of at always p m = absurd m
  in_test of at (compared o a b) p m =
      in_two (untyped of (at + 1) a) (untyped of (at + 1 + nodes_of a) b
      ++ if_so (not (is_typed of (compared o a b))) at) p (at + test_nodes (compared o a b))
      (λ k. let h = in_tree of (at + 1) a p k in omega arith)
      (in_two (untyped of (at + 1 + nodes_of a) b) (if_so (not (is_typed of (compared o a b))) at) p
      (at + test_nodes (compared o a b))
      (λ k. let h = in_tree of (at + 1 + nodes_of a) b p k in omega arith)
      (λ k. let e = at_it (not (is_typed of (compared o a b))) at p k in omega arith)) m
  in_test of at (all_of cs) p m = (let h = in_tests of (at + 1) cs p m in omega arith)
  in_test of at (some_of cs) p m = (let h = in_tests of (at + 1) cs p m in omega arith)
  in_test of at (fails c) p m = (let h = in_test of (at + 1) c p m in omega arith)

  pub in_tests : (of : Kinds) (at : ℕ) (cs : Tests) (p : ℕ) → In p (tests_untyped of at cs)
      → p < at + tests_nodes cs
  in_tests of at no_tests p m = absurd m
  in_tests of at (a_test c cs) p m =
      in_two (test_untyped of at c) (tests_untyped of (at + test_nodes c) cs) p
      (at + tests_nodes (a_test c cs))
      (λ k. let h = in_test of at c p k in omega arith)
      (λ k. let h = in_tests of (at + test_nodes c) cs p k in omega arith) m

first_in : (xs : List ℕ) (p : ℕ) → first_of xs ≡ Some p → In p xs
first_in [] p e = absurd (cc)
first_in (x ∷ xs) p e = inl (cc)

pub place_in_tree : (of : Kinds) (t : Tree) (p : ℕ) → first_of (untyped of 0 t) ≡ Some p
    → p < nodes_of t
place_in_tree of t p e = (let h = in_tree of 0 t p (first_in (untyped of 0 t) p e) in omega arith)

pub place_in_test : (of : Kinds) (c : Test) (p : ℕ) → first_of (test_untyped of 0 c) ≡ Some p
    → p < test_nodes c
place_in_test of c p e = (let h = in_test of 0 c p (first_in (test_untyped of 0 c) p e) in
    omega arith)
