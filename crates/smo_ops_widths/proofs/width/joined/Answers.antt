use Rattle.std.proofs.Common.{◌≡◌, ◌*◌, ◌++◌, ℕ, List, map, ap, ◌∙◌, arith}
use Rattle.prima_base.specs.Columns.{Column}
use Rattle.cond_expr.specs.Seen.{test}
use Rattle.smo_ops_widths.specs.Widths.{size_of_both, test_sized, equalities}
use Rattle.smo_ops_widths.specs.Counted.{stopped, size_in, SameStopped}
use Rattle.smo_ops_widths.proofs.StoppedLaws.{stopped_twice}
use Rattle.smo_ops_widths.proofs.AlikeLaws.{same_stopped, test_so}
use Rattle.smo_ops_widths.proofs.SizeLaws.{columns_before}
use Rattle.smo_ops_widths.proofs.width.joined.Goals as goal

abbrev Sizes : Type 0
Sizes = List (List ℕ × ℕ)

abbrev sized_columns : List Column → Sizes → Sizes
sized_columns columns ys = map (λ (c : Column). (c.0, size_in ys c.0)) columns

pub returns : goal.returns
returns c =
    let columns = c.args.columns.0.now in
    let xs = c.args.left.now.sizes.items in
    let ys = c.args.right.now.sizes.items in
    let first = c.in_ok-push_sized.ensures
    ∙ ap (λ (l : Sizes). l ++ sized_columns columns c.deref.result.now) c.new-sizes.ensures.items
    ∙ ap (sized_columns columns) c.deref.ensures.value in
    let sizes : (n : List ℕ) → size_in c.push_others.new.into.items n
    ≡ size_of_both columns (size_in xs) (size_in ys) n =
    λ n. c.in_ok-push_others.ensures n
    ∙ ap (λ (l : Sizes). size_in (l ++ c.deref-2.result.now) n) first
    ∙ ap (λ (l : Sizes). size_in (sized_columns columns xs ++ l) n) c.deref-2.ensures.value
    ∙ columns_before (size_in xs) columns ys n in
    let nodes = c.cond_nodes-nodes.ensures
    ∙ ap (λ (l : Sizes). stopped (test_sized (size_in l) (test c.args.cond.now)))
    c.deref-5.ensures.value
    ∙ test_so SameStopped same_stopped (size_in c.push_others.new.into.items)
    (size_of_both columns (size_in xs) (size_in ys)) (λ n. ap stopped (sizes n))
    (test c.args.cond.now) in
    let equal = c.equality_nodes-equal.ensures
    ∙ ap (λ (l : Sizes). stopped (equalities columns c.args.columns.1.now (size_in l)
    (size_in c.deref-4.result.now))) c.deref-3.ensures.value
    ∙ ap (λ (l : Sizes). stopped (equalities columns c.args.columns.1.now (size_in xs)
    (size_in l))) c.deref-4.ensures.value in
    let p = c.saturating_mul.ensures in
    let a = c.saturating_add-2.ensures in
    let k = c.saturating_add.ensures in
    let m = c.saturating_add-both.ensures in
    let q = c.saturating_add-3.ensures in
    let r = c.saturating_add-4.ensures in
    record {
      pieces = ap stopped p ∙ stopped_twice (c.args.left.now.pieces * c.args.right.now.pieces);
      atoms = omega (arith, a);
      cond = omega (arith, k, m, q, r, nodes, equal);
      size = λ n. ap stopped (sizes n);
    }
