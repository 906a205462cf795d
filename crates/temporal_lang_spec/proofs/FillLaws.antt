-- Trees whose references are made ones to atoms: they have as many nodes as before, and where each
-- reference was accepted each of theirs is to a column.
use Rattle.std.specs.Prelude.{◌≡◌, ℕ, ◌+◌, List, [], ◌∷◌, ◌++◌, map, None}
use Rattle.std.specs.Option.{option_or}
use Rattle.std.proofs.Common.{refl, sym, ap, ◌∙◌, arith}
use Rattle.cond_expr.specs.declared.expr.Whose.{Whose}
use Rattle.cond_expr.specs.declared.expr.ColRef.{ColRef}
use Rattle.cond_expr.specs.Trees.{Tree, column, constant, length_of, joined, choose, Trees}
use Rattle.cond_expr.specs.Trees.{no_trees, a_tree, Test, never, always, compared, all_of, some_of}
use Rattle.cond_expr.specs.Trees.{fails, Tests, no_tests, a_test, Filling, fill, fill_trees}
use Rattle.cond_expr.specs.Trees.{fill_test, fill_tests}
use Rattle.cond_expr.specs.Sizes.{nodes_of, trees_nodes, test_nodes, tests_nodes}
use Rattle.cond_expr.specs.Kinds.{Kinds}
use Rattle.cond_expr.specs.Faults.{references, trees_references, test_references, tests_references}
use Rattle.cond_expr.specs.Faults.{first_unknown}
use Rattle.cond_expr.proofs.FaultLaws.{unknown_append}
use Rattle.smo_ops_spec.specs.First.{first_refusal}
use Rattle.smo_ops_spec.specs.Checks.{Fault}
use Rattle.smo_ops_spec.proofs.Firsts.{none_of_both, none_of_first}

-- ---- nodes

module _ (by : Filling) (one : (w : Whose) (n : List ℕ) → nodes_of (by w n) ≡ 1) where
  mutual
    pub nodes_filled : (t : Tree) → nodes_of (fill by t) ≡ nodes_of t
    nodes_filled (column w n) = one w n
    nodes_filled (constant v) = refl
    nodes_filled (length_of t) = ap (λ k. k + 1) (nodes_filled t)
    nodes_filled (joined ts) = ap (λ k. k + 1) (trees_nodes_filled ts)
    nodes_filled (choose c a b) = (let p = test_nodes_filled c in let q = nodes_filled a in let r =
        nodes_filled b in omega (arith, p, q, r))

    trees_nodes_filled : (ts : Trees) → trees_nodes (fill_trees by ts) ≡ trees_nodes ts
    trees_nodes_filled no_trees = refl
    trees_nodes_filled (a_tree t ts) = (let p = nodes_filled t in let q = trees_nodes_filled ts in
        omega (arith, p, q))

    pub test_nodes_filled : (c : Test) → test_nodes (fill_test by c) ≡ test_nodes c
    test_nodes_filled never = refl
    test_nodes_filled always = refl
    test_nodes_filled (compared o a b) = (let p = nodes_filled a in let q = nodes_filled b in
        omega (arith, p, q))
    test_nodes_filled (all_of cs) = ap (λ k. k + 1) (tests_nodes_filled cs)
    test_nodes_filled (some_of cs) = ap (λ k. k + 1) (tests_nodes_filled cs)
    test_nodes_filled (fails c) = ap (λ k. k + 1) (test_nodes_filled c)

    tests_nodes_filled : (cs : Tests) → tests_nodes (fill_tests by cs) ≡ tests_nodes cs
    tests_nodes_filled no_tests = refl
    tests_nodes_filled (a_test c cs) = (let p = test_nodes_filled c in let q =
        tests_nodes_filled cs in omega (arith, p, q))

-- ---- references

pub map_both : {X Y : Type 0} (f : X → Y) (xs ys : List X) → map f (xs ++ ys) ≡ map f xs ++ map f ys
map_both f [] ys = refl
map_both f (x ∷ xs) ys = ap (λ zs. f x ∷ zs) (map_both f xs ys)

module _ (by : Filling) (of : Kinds) (test : ColRef → Fault)
    (known : (r : ColRef) → test r ≡ None → first_unknown of (references (by r.whose r.name))
    ≡ None) where
  abbrev pub Overflows : List ColRef → Type 0
  Overflows rs = first_refusal (map test rs) ≡ None

  pub both : (xs ys : List ColRef) → Overflows (xs ++ ys) → Overflows xs × Overflows ys
  both xs ys h = none_of_both (map test xs) (map test ys)
      (ap first_refusal (sym (map_both test xs ys)) ∙ h)

  pub together : (xs ys : List ColRef) → first_unknown of xs ≡ None → first_unknown of ys ≡ None
      → first_unknown of (xs ++ ys) ≡ None
  together xs ys p q = unknown_append of xs ys ∙ ap (λ o. option_or o (first_unknown of ys)) p ∙ q

  mutual
    pub known_filled : (t : Tree) → Overflows (references t)
        → first_unknown of (references (fill by t)) ≡ None
    known_filled (column w n) h = known (record { whose = w; name = n })
        (none_of_first (test (record { whose = w; name = n })) [] h).0
    known_filled (constant v) h = refl
    known_filled (length_of t) h = known_filled t h
    known_filled (joined ts) h = known_trees ts h
    known_filled (choose c a b) h =
        let p = both (test_references c) (references a ++ references b) h in
        let q = both (references a) (references b) p.1 in
        together (test_references (fill_test by c))
        (references (fill by a) ++ references (fill by b)) (known_test c p.0)
        (together (references (fill by a)) (references (fill by b)) (known_filled a q.0)
        (known_filled b q.1))

    known_trees : (ts : Trees) → Overflows (trees_references ts)
        → first_unknown of (trees_references (fill_trees by ts)) ≡ None
    known_trees no_trees h = refl
    known_trees (a_tree t ts) h =
        let p = both (references t) (trees_references ts) h in
        together (references (fill by t)) (trees_references (fill_trees by ts)) (known_filled t p.0)
        (known_trees ts p.1)

    pub known_test : (c : Test) → Overflows (test_references c)
        → first_unknown of (test_references (fill_test by c)) ≡ None
    known_test never h = refl
    known_test always h = refl
    known_test (compared o a b) h =
        let p = both (references a) (references b) h in
        together (references (fill by a)) (references (fill by b)) (known_filled a p.0)
        (known_filled b p.1)
    known_test (all_of cs) h = known_tests cs h
    known_test (some_of cs) h = known_tests cs h
    known_test (fails c) h = known_test c h

    known_tests : (cs : Tests) → Overflows (tests_references cs)
        → first_unknown of (tests_references (fill_tests by cs)) ≡ None
    known_tests no_tests h = refl
    known_tests (a_test c cs) h =
        let p = both (test_references c) (tests_references cs) h in
        together (test_references (fill_test by c)) (tests_references (fill_tests by cs))
        (known_test c p.0) (known_tests cs p.1)
