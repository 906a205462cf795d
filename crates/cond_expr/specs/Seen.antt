-- The tree that an expression or a condition of the code stands for.
use Rattle.std.specs.Prelude.{List, [], ◌∷◌}
use Rattle.cond_expr.specs.declared.expr.Expr.{Expr, fold-Expr}
use Rattle.cond_expr.specs.declared.expr.Cond.{Cond, fold-Cond}
use Rattle.cond_expr.specs.declared.expr.Cond.TheOpen.{Expr-F, Cond-F}
use Rattle.cond_expr.specs.Trees.{Tree, column, constant, length_of, joined, choose, Trees}
use Rattle.cond_expr.specs.Trees.{no_trees, a_tree, Test, never, always, compared, all_of, some_of}
use Rattle.cond_expr.specs.Trees.{fails, Tests, no_tests, a_test}

abbrev pub trees_of : List Tree → Trees
trees_of [] = no_trees
trees_of (t ∷ ts) = a_tree t (trees_of ts)

abbrev pub tests_of : List Test → Tests
tests_of [] = no_tests
tests_of (c ∷ cs) = a_test c (tests_of cs)

abbrev pub tree_step : Expr-F Test Tree → Tree
tree_step (Expr-F.Col r) = column r.whose r.name
tree_step (Expr-F.Const v) = constant v
tree_step (Expr-F.Length e) = length_of e.value
tree_step (Expr-F.Concat es) = joined (trees_of es.items)
tree_step (Expr-F.Case c a b) = choose c.value a.value b.value

abbrev pub test_step : Cond-F Test Tree → Test
test_step Cond-F.False = never
test_step Cond-F.True = always
test_step (Cond-F.Cmp o a b) = compared o a.value b.value
test_step (Cond-F.And cs) = all_of (tests_of cs.items)
test_step (Cond-F.Or cs) = some_of (tests_of cs.items)
test_step (Cond-F.Not c) = fails c.value

abbrev pub tree : Expr → Tree
tree = fold-Expr Test Tree test_step tree_step

abbrev pub test : Cond → Test
test = fold-Cond Test Tree test_step tree_step
