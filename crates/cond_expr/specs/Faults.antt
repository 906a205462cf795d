-- The first fault of a tree over some columns: its references in written order, and its nodes that
-- have no type, parts before their node, by their numbers in pre-order.
use Rattle.std.specs.Prelude.{ℕ, ◌+◌, List, [], ◌∷◌, ◌++◌, Bool, true, false, not, Option}
use Rattle.std.specs.Prelude.{Some, None, is_none, cond}
use Rattle.cond_expr.specs.declared.expr.ColRef.{ColRef}
use Rattle.cond_expr.specs.Trees.{Tree, column, constant, length_of, joined, choose, Trees}
use Rattle.cond_expr.specs.Trees.{no_trees, a_tree, Test, never, always, compared, all_of, some_of}
use Rattle.cond_expr.specs.Trees.{fails, Tests, no_tests, a_test}
use Rattle.cond_expr.specs.Sizes.{nodes_of, test_nodes}
use Rattle.cond_expr.specs.Kinds.{Kinds, kind_of, is_typed}

-- the references, in written order
abbrev mutual
  pub references : Tree → List ColRef
  references (column w n) = record { whose = w; name = n } ∷ []
  references (constant v) = []
  references (length_of t) = references t
  references (joined ts) = trees_references ts
  references (choose c a b) = test_references c ++ (references a ++ references b)

  pub trees_references : Trees → List ColRef
  trees_references no_trees = []
  trees_references (a_tree t ts) = references t ++ trees_references ts

  pub test_references : Test → List ColRef
  test_references never = []
  test_references always = []
  test_references (compared o a b) = references a ++ references b
  test_references (all_of cs) = tests_references cs
  test_references (some_of cs) = tests_references cs
  test_references (fails c) = test_references c

  pub tests_references : Tests → List ColRef
  tests_references no_tests = []
  tests_references (a_test c cs) = test_references c ++ tests_references cs

-- the name of the first of these references that names nothing
abbrev pub first_unknown : Kinds → List ColRef → Option (List ℕ)
first_unknown of [] = None
first_unknown of (r ∷ rs) = cond (is_none (of r.whose r.name)) (Some r.name) (first_unknown of rs)

-- the node itself, where it is one of those that are sought
abbrev pub if_so : Bool → ℕ → List ℕ
if_so true at = at ∷ []
if_so false at = []

-- The nodes that have no type, parts before their node and left before right; the first node has
-- the number `at`, and the others follow in pre-order. AND, OR and NOT take every condition, so
-- they are none of them.
abbrev mutual
  pub untyped : Kinds → ℕ → Tree → List ℕ
  untyped of at (column w n) = if_so (is_none (of w n)) at
  untyped of at (constant v) = []
  untyped of at (length_of t) = untyped of (at + 1) t
      ++ if_so (is_none (kind_of of (length_of t))) at
  untyped of at (joined ts) = trees_untyped of (at + 1) ts
      ++ if_so (is_none (kind_of of (joined ts))) at
  untyped of at (choose c a b) = test_untyped of (at + 1) c ++ (untyped of (at + 1 + test_nodes c) a
      ++ (untyped of (at + 1 + test_nodes c + nodes_of a) b
      ++ if_so (is_none (kind_of of (choose c a b))) at))

  pub trees_untyped : Kinds → ℕ → Trees → List ℕ
  trees_untyped of at no_trees = []
  trees_untyped of at (a_tree t ts) = untyped of at t ++ trees_untyped of (at + nodes_of t) ts

  pub test_untyped : Kinds → ℕ → Test → List ℕ
  test_untyped of at never = []
  test_untyped of at always = []
  test_untyped of at (compared o a b) = untyped of (at + 1) a
      ++ (untyped of (at + 1 + nodes_of a) b ++ if_so (not (is_typed of (compared o a b))) at)
  test_untyped of at (all_of cs) = tests_untyped of (at + 1) cs
  test_untyped of at (some_of cs) = tests_untyped of (at + 1) cs
  test_untyped of at (fails c) = test_untyped of (at + 1) c

  pub tests_untyped : Kinds → ℕ → Tests → List ℕ
  tests_untyped of at no_tests = []
  tests_untyped of at (a_test c cs) = test_untyped of at c
      ++ tests_untyped of (at + test_nodes c) cs

abbrev pub first_of : List ℕ → Option ℕ
first_of [] = None
first_of (x ∷ xs) = Some x
