-- What the lists of an expression stand for, and what a filling makes of them.
use Rattle.std.specs.Prelude.{◌≡◌, List, [], ◌∷◌, map, length}
use Rattle.std.proofs.Common.{refl, ap, rules, add-one}
use Rattle.std.specs.declared.vec.Vec.{Vec}
use Rattle.std.specs.declared.alloc.Global.{Global}
use Rattle.std.specs.declared.boxed.Box.{Box}
use Rattle.cond_expr.specs.declared.expr.CmpOp.{CmpOp}
use Rattle.cond_expr.specs.declared.expr.Expr.{Expr}
use Rattle.cond_expr.specs.declared.expr.Cond.{Cond, the_lemmas}
use Rattle.cond_expr.specs.declared.expr.Cond.TheViews.{Concat, Case, Cmp, And, Or}
use Rattle.cond_expr.specs.Trees.{choose, compared, Tree, joined, a_tree, Test, all_of, some_of}
use Rattle.cond_expr.specs.Trees.{a_test, Filling, fill, fill_trees, fill_test, fill_tests}
use Rattle.cond_expr.specs.Seen.{tree, test, trees_of, tests_of}
use Rattle.cond_expr.specs.Sizes.{count_of}

pub trees_filled : (s : Filling) (ts : List Tree)
    → fill_trees s (trees_of ts) ≡ trees_of (map (fill s) ts)
trees_filled s [] = refl
trees_filled s (t ∷ ts) = ap (a_tree (fill s t)) (trees_filled s ts)

pub tests_filled : (s : Filling) (cs : List Test)
    → fill_tests s (tests_of cs) ≡ tests_of (map (fill_test s) cs)
tests_filled s [] = refl
tests_filled s (c ∷ cs) = ap (a_test (fill_test s c)) (tests_filled s cs)

pub tree_of_concat : (v : Vec Expr Global) → tree (Concat v) ≡ joined (trees_of (map tree v.items))
tree_of_concat v = search (rules, the_lemmas)

pub test_of_and : (v : Vec Cond Global) → test (And v) ≡ all_of (tests_of (map test v.items))
test_of_and v = search (rules, the_lemmas)

pub test_of_or : (v : Vec Cond Global) → test (Or v) ≡ some_of (tests_of (map test v.items))
test_of_or v = search (rules, the_lemmas)

pub tree_of_case : (p : Box Cond Global) (q r : Box Expr Global)
    → tree (Case p q r) ≡ choose (test p.value) (tree q.value) (tree r.value)
tree_of_case p q r = search (rules, the_lemmas)

pub test_of_cmp : (o : CmpOp) (q r : Box Expr Global)
    → test (Cmp o q r) ≡ compared o (tree q.value) (tree r.value)
test_of_cmp o q r = search (rules, the_lemmas)

pub count_is_length : (es : List Expr) → count_of (trees_of (map tree es)) ≡ length es
count_is_length [] = refl
count_is_length (e ∷ es) = rw (count_is_length es, add-one) refl
