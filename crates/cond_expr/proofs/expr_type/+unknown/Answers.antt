use Rattle.std.proofs.Common.{List, ℕ, ◌+◌, ◌++◌, map, drop, Option, sym, ap, ◌∙◌}
use Rattle.std.specs.Option.{option_or}
use Rattle.cond_expr.specs.declared.expr.Expr.{Expr}
use Rattle.cond_expr.specs.declared.expr.Cond.{Cond}
use Rattle.cond_expr.specs.Seen.{tree, test, trees_of, tests_of}
use Rattle.cond_expr.specs.Kinds.{kinds_of}
use Rattle.cond_expr.specs.Faults.{references, trees_references, test_references, tests_references}
use Rattle.cond_expr.specs.Faults.{first_unknown}
use Rattle.cond_expr.specs.Trees.{Tree, Test}
use Rattle.cond_expr.proofs.SeenLaws.{tree_of_case, test_of_cmp}
use Rattle.cond_expr.proofs.FaultLaws.{unknown_append}
use Rattle.cond_expr.proofs.ListedLaws.{unknown_in_list, unknown_in_conds}
use Rattle.cond_expr.proofs.expr_type.+unknown.Goals as goal

pub first_unknown_of_cond-returns-in-Some : goal.first_unknown_of_cond-returns-in-Some
first_unknown_of_cond-returns-in-Some t c =
    let of = kinds_of c.args.columns.now in
    let l = c.in-Cmp.left.value in
    let r = c.in-Cmp.right.value in
    ap (λ (d : Cond). first_unknown of (test_references (test d))) c.in-Cmp.is
    ∙ ap (λ (d : Test). first_unknown of (test_references d))
    (test_of_cmp c.in-Cmp.field-0 c.in-Cmp.left c.in-Cmp.right)
    ∙ unknown_append of (references (tree l)) (references (tree r))
    ∙ ap (λ (o : Option (List ℕ)). option_or o (first_unknown of (references (tree r))))
    (sym (ap (λ (e : Expr). first_unknown of (references (tree e))) c.deref.ensures)
    ∙ c.in-Some.ensures)

pub first_unknown_of_cond-returns-in_default : goal.first_unknown_of_cond-returns-in_default
first_unknown_of_cond-returns-in_default t c =
    let of = kinds_of c.args.columns.now in
    let l = c.in-Cmp.left.value in
    let r = c.in-Cmp.right.value in
    let same = ap (λ (d : Cond). first_unknown of (test_references (test d))) c.in-Cmp.is
    ∙ ap (λ (d : Test). first_unknown of (test_references d))
    (test_of_cmp c.in-Cmp.field-0 c.in-Cmp.left c.in-Cmp.right)
    ∙ unknown_append of (references (tree l)) (references (tree r))
    ∙ ap (λ (o : Option (List ℕ)). option_or o (first_unknown of (references (tree r))))
    (sym (ap (λ (e : Expr). first_unknown of (references (tree e))) c.deref.ensures)
    ∙ c.in_default.ensures)
    ∙ sym (ap (λ (e : Expr). first_unknown of (references (tree e))) c.deref-in-Cmp.ensures) in
    rw same c.first_unknown-in-Cmp.ensures

pub first_unknown-returns-in-Some-first_unknown_of_cond :
    goal.first_unknown-returns-in-Some-first_unknown_of_cond
first_unknown-returns-in-Some-first_unknown_of_cond t c =
    let of = kinds_of c.args.columns.now in
    let rest = references (tree c.in-Case.first.value)
    ++ references (tree c.in-Case.second.value) in
    ap (λ (d : Expr). first_unknown of (references (tree d))) c.in-Case.is
    ∙ ap (λ (d : Tree). first_unknown of (references d))
    (tree_of_case c.in-Case.cond c.in-Case.first c.in-Case.second)
    ∙ unknown_append of (test_references (test c.in-Case.cond.value)) rest
    ∙ ap (λ (o : Option (List ℕ)). option_or o (first_unknown of rest))
    (sym (ap (λ (d : Cond). first_unknown of (test_references (test d))) c.deref-in-Case.ensures)
    ∙ c.in-Some-first_unknown_of_cond.ensures)

pub first_unknown-returns-in-Some-first_unknown : goal.first_unknown-returns-in-Some-first_unknown
first_unknown-returns-in-Some-first_unknown t c =
    let of = kinds_of c.args.columns.now in
    let a = references (tree c.in-Case.first.value) in
    let b = references (tree c.in-Case.second.value) in
    ap (λ (d : Expr). first_unknown of (references (tree d))) c.in-Case.is
    ∙ ap (λ (d : Tree). first_unknown of (references d))
    (tree_of_case c.in-Case.cond c.in-Case.first c.in-Case.second)
    ∙ unknown_append of (test_references (test c.in-Case.cond.value)) (a ++ b)
    ∙ ap (λ (o : Option (List ℕ)). option_or o (first_unknown of (a ++ b)))
    (sym (ap (λ (d : Cond). first_unknown of (test_references (test d))) c.deref-in-Case.ensures)
    ∙ c.in_default.ensures)
    ∙ unknown_append of a b
    ∙ ap (λ (o : Option (List ℕ)). option_or o (first_unknown of b))
    (sym (ap (λ (e : Expr). first_unknown of (references (tree e))) c.deref-in-Case-2.ensures)
    ∙ c.in-Some-first_unknown.ensures)

pub first_unknown-returns-in_default-first_unknown :
    goal.first_unknown-returns-in_default-first_unknown
first_unknown-returns-in_default-first_unknown t c =
    let of = kinds_of c.args.columns.now in
    let a = references (tree c.in-Case.first.value) in
    let b = references (tree c.in-Case.second.value) in
    let same = ap (λ (d : Expr). first_unknown of (references (tree d))) c.in-Case.is
    ∙ ap (λ (d : Tree). first_unknown of (references d))
    (tree_of_case c.in-Case.cond c.in-Case.first c.in-Case.second)
    ∙ unknown_append of (test_references (test c.in-Case.cond.value)) (a ++ b)
    ∙ ap (λ (o : Option (List ℕ)). option_or o (first_unknown of (a ++ b)))
    (sym (ap (λ (d : Cond). first_unknown of (test_references (test d))) c.deref-in-Case.ensures)
    ∙ c.in_default.ensures)
    ∙ unknown_append of a b
    ∙ ap (λ (o : Option (List ℕ)). option_or o (first_unknown of b))
    (sym (ap (λ (e : Expr). first_unknown of (references (tree e))) c.deref-in-Case-2.ensures)
    ∙ c.in_default-first_unknown.ensures)
    ∙ sym (ap (λ (e : Expr). first_unknown of (references (tree e))) c.deref-in-Case-3.ensures) in
    rw same c.first_unknown-in-Case-2.ensures

pub first_unknown_of_conds-returns-in-Some : goal.first_unknown_of_conds-returns-in-Some
first_unknown_of_conds-returns-in-Some t c =
    let of = kinds_of c.args.columns.now in
    c.loop-part.invariant
    ∙ unknown_in_conds of c.args.list.now c.loop-part.part-index c.part-item.result
    c.loop-part-test.true c.part-item.is
    ∙ ap (λ (o : Option (List ℕ)). option_or o (first_unknown of (tests_references
    (tests_of (map test (drop (c.loop-part.part-index + 1) c.args.list.now))))))
    c.in-Some.ensures

pub first_unknown_of_conds-loop-part-preserved : goal.first_unknown_of_conds-loop-part-preserved
first_unknown_of_conds-loop-part-preserved t c =
    let of = kinds_of c.args.columns.now in
    c.loop-part.invariant
    ∙ unknown_in_conds of c.args.list.now c.loop-part.part-index c.part-item.result
    c.loop-part-test.true c.part-item.is
    ∙ ap (λ (o : Option (List ℕ)). option_or o (first_unknown of (tests_references
    (tests_of (map test (drop (c.loop-part.part-index + 1) c.args.list.now))))))
    c.in_default.ensures

pub first_unknown_of_list-returns-in-Some : goal.first_unknown_of_list-returns-in-Some
first_unknown_of_list-returns-in-Some t c =
    let of = kinds_of c.args.columns.now in
    c.loop-part.invariant
    ∙ unknown_in_list of c.args.list.now c.loop-part.part-index c.part-item.result
    c.loop-part-test.true c.part-item.is
    ∙ ap (λ (o : Option (List ℕ)). option_or o (first_unknown of (trees_references
    (trees_of (map tree (drop (c.loop-part.part-index + 1) c.args.list.now))))))
    c.in-Some.ensures

pub first_unknown_of_list-loop-part-preserved : goal.first_unknown_of_list-loop-part-preserved
first_unknown_of_list-loop-part-preserved t c =
    let of = kinds_of c.args.columns.now in
    c.loop-part.invariant
    ∙ unknown_in_list of c.args.list.now c.loop-part.part-index c.part-item.result
    c.loop-part-test.true c.part-item.is
    ∙ ap (λ (o : Option (List ℕ)). option_or o (first_unknown of (trees_references
    (trees_of (map tree (drop (c.loop-part.part-index + 1) c.args.list.now))))))
    c.in_default.ensures
