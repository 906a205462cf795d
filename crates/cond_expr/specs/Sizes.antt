-- How large a tree is.
use Rattle.std.specs.Prelude.{ℕ, ◌+◌, max}
use Rattle.cond_expr.specs.Trees.{Tree, column, constant, length_of, joined, choose, Trees}
use Rattle.cond_expr.specs.Trees.{no_trees, a_tree, Test, never, always, compared, all_of, some_of}
use Rattle.cond_expr.specs.Trees.{fails, Tests, no_tests, a_test}

-- the expressions and conditions in the tree, itself included
abbrev mutual
  pub nodes_of : Tree → ℕ
  nodes_of (column w n) = 1
  nodes_of (constant v) = 1
  nodes_of (length_of t) = nodes_of t + 1
  nodes_of (joined ts) = trees_nodes ts + 1
  nodes_of (choose c a b) = test_nodes c + nodes_of a + nodes_of b + 1

  pub trees_nodes : Trees → ℕ
  trees_nodes no_trees = 0
  trees_nodes (a_tree t ts) = nodes_of t + trees_nodes ts

  pub test_nodes : Test → ℕ
  test_nodes never = 1
  test_nodes always = 1
  test_nodes (compared o a b) = nodes_of a + nodes_of b + 1
  test_nodes (all_of cs) = tests_nodes cs + 1
  test_nodes (some_of cs) = tests_nodes cs + 1
  test_nodes (fails c) = test_nodes c + 1

  pub tests_nodes : Tests → ℕ
  tests_nodes no_tests = 0
  tests_nodes (a_test c cs) = test_nodes c + tests_nodes cs

-- the longest path, counted in nodes
abbrev mutual
  pub depth_of : Tree → ℕ
  depth_of (column w n) = 1
  depth_of (constant v) = 1
  depth_of (length_of t) = depth_of t + 1
  depth_of (joined ts) = trees_depth ts + 1
  depth_of (choose c a b) = max (test_depth c) (max (depth_of a) (depth_of b)) + 1

  pub trees_depth : Trees → ℕ
  trees_depth no_trees = 0
  trees_depth (a_tree t ts) = max (depth_of t) (trees_depth ts)

  pub test_depth : Test → ℕ
  test_depth never = 1
  test_depth always = 1
  test_depth (compared o a b) = max (depth_of a) (depth_of b) + 1
  test_depth (all_of cs) = tests_depth cs + 1
  test_depth (some_of cs) = tests_depth cs + 1
  test_depth (fails c) = test_depth c + 1

  pub tests_depth : Tests → ℕ
  tests_depth no_tests = 0
  tests_depth (a_test c cs) = max (test_depth c) (tests_depth cs)

abbrev pub count_of : Trees → ℕ
count_of no_trees = 0
count_of (a_tree t ts) = count_of ts + 1

-- the longest list of joined parts
abbrev mutual
  pub longest_of : Tree → ℕ
  longest_of (column w n) = 0
  longest_of (constant v) = 0
  longest_of (length_of t) = longest_of t
  longest_of (joined ts) = max (count_of ts) (trees_longest ts)
  longest_of (choose c a b) = max (test_longest c) (max (longest_of a) (longest_of b))

  pub trees_longest : Trees → ℕ
  trees_longest no_trees = 0
  trees_longest (a_tree t ts) = max (longest_of t) (trees_longest ts)

  pub test_longest : Test → ℕ
  test_longest never = 0
  test_longest always = 0
  test_longest (compared o a b) = max (longest_of a) (longest_of b)
  test_longest (all_of cs) = tests_longest cs
  test_longest (some_of cs) = tests_longest cs
  test_longest (fails c) = test_longest c

  pub tests_longest : Tests → ℕ
  tests_longest no_tests = 0
  tests_longest (a_test c cs) = max (test_longest c) (tests_longest cs)
