use Rattle.std.proofs.Common.{map, ◌∙◌, sym, ap}
use Rattle.cond_expr.specs.Trees.{fill, fill_test, all_of, some_of, joined}
use Rattle.cond_expr.specs.Seen.{tree, test, trees_of, tests_of}
use Rattle.cond_expr.proofs.SeenLaws.{trees_filled, tests_filled, tree_of_concat, test_of_and}
use Rattle.cond_expr.proofs.SeenLaws.{test_of_or}
use Rattle.cond_expr.proofs.fill.+fill.Goals as goal

pub fill_cond-returns-in_ok-fill_conds-in-And : goal.fill_cond-returns-in_ok-fill_conds-in-And
fill_cond-returns-in_ok-fill_conds-in-And g t c =
    let s = g.F.Fill.puts c.args.by.now in
    test_of_and c.in_ok-fill_conds-in-And.field-0
    ∙ ap (λ cs. all_of (tests_of cs)) (c.in_ok-fill_conds-in-And.ensures
    ∙ ap (λ xs. map (fill_test s) (map test xs)) c.deref-in-And.ensures.value)
    ∙ ap all_of (sym (tests_filled s (map test c.in-And.parts.items)))
    ∙ ap (fill_test s) (sym (ap test c.in-And.is ∙ test_of_and c.in-And.parts))

pub fill_cond-returns-in_ok-fill_conds-in-Or : goal.fill_cond-returns-in_ok-fill_conds-in-Or
fill_cond-returns-in_ok-fill_conds-in-Or g t c =
    let s = g.F.Fill.puts c.args.by.now in
    test_of_or c.in_ok-fill_conds-in-Or.field-0
    ∙ ap (λ cs. some_of (tests_of cs)) (c.in_ok-fill_conds-in-Or.ensures
    ∙ ap (λ xs. map (fill_test s) (map test xs)) c.deref-in-Or.ensures.value)
    ∙ ap some_of (sym (tests_filled s (map test c.in-Or.parts.items)))
    ∙ ap (fill_test s) (sym (ap test c.in-Or.is ∙ test_of_or c.in-Or.parts))

pub fill_expr-returns-in_ok-fill_exprs-in-Concat : goal.fill_expr-returns-in_ok-fill_exprs-in-Concat
fill_expr-returns-in_ok-fill_exprs-in-Concat g t c =
    let s = g.F.Fill.puts c.args.by.now in
    tree_of_concat c.in_ok-fill_exprs-in-Concat.field-0
    ∙ ap (λ ts. joined (trees_of ts)) (c.in_ok-fill_exprs-in-Concat.ensures
    ∙ ap (λ xs. map (fill s) (map tree xs)) c.deref-in-Concat.ensures.value)
    ∙ ap joined (sym (trees_filled s (map tree c.in-Concat.parts.items)))
    ∙ ap (fill s) (sym (ap tree c.in-Concat.is ∙ tree_of_concat c.in-Concat.parts))
