use Rattle.std.proofs.Common.{◌∙◌, ◌++◌, List, ℕ, sym, ap}
use Rattle.std.specs.Prelude.{Option}
use Rattle.std.specs.Option.{option_copied}
use Rattle.cond_expr.specs.declared.expr.Expr.{Expr}
use Rattle.cond_expr.specs.declared.expr.Cond.{Cond}
use Rattle.cond_expr.specs.Trees.{Tree, Test}
use Rattle.cond_expr.specs.Seen.{tree, test}
use Rattle.cond_expr.specs.Faults.{references, test_references}
use Rattle.cond_expr.proofs.SeenLaws.{test_of_cmp, tree_of_case}
use Rattle.smo_ops_spec.specs.Touching.{these_names}
use Rattle.smo_ops_spec.specs.Losses.{Loss}
use Rattle.smo_ops_versions_spec.specs.LostNames.{first_named}
use Rattle.rewrite_losses.specs.TableLosses.{loss_in_tables}
use Rattle.rewrite_losses.proofs.NamedColumns.{both_lost, next_part, next_cond}
use Rattle.rewrite_losses.proofs.named_column.+named.Goals as goal

pub cond_loss-returns-in-Cmp : goal.cond_loss-returns-in-Cmp
cond_loss-returns-in-Cmp t c =
    let f : List ℕ → Option Loss = loss_in_tables c.args.losses.now
    (these_names (option_copied c.args.tables.first) (option_copied c.args.tables.second)) in
    both_lost f (references (tree c.in-Cmp.left.value)) (references (tree c.in-Cmp.right.value))
    c.expr_loss.result c.expr_loss-in-Cmp.result c.earlier.result
    (c.expr_loss.ensures ∙ ap (λ (e : Expr). first_named f (references (tree e))) c.deref.ensures)
    (c.expr_loss-in-Cmp.ensures
    ∙ ap (λ (e : Expr). first_named f (references (tree e))) c.deref-in-Cmp.ensures)
    c.earlier.ensures
    ∙ sym (ap (λ (x : Test). first_named f (test_references x)) (ap test c.in-Cmp.is
    ∙ test_of_cmp c.in-Cmp.field-0 c.in-Cmp.left c.in-Cmp.right))

pub conds_loss-loop-part-preserved : goal.conds_loss-loop-part-preserved
conds_loss-loop-part-preserved t c =
    next_cond (loss_in_tables c.args.losses.now
    (these_names (option_copied c.args.tables.first) (option_copied c.args.tables.second)))
    c.args.list.now c.loop-part.part-index c.part-item.result c.loop-part.loss
    c.cond_loss.result c.earlier-loss.result _ c.loop-part-test.true c.part-item.is
    c.cond_loss.ensures c.earlier-loss.ensures c.loop-part.invariant

pub expr_loss-returns-in-Case : goal.expr_loss-returns-in-Case
expr_loss-returns-in-Case t c =
    let f : List ℕ → Option Loss = loss_in_tables c.args.losses.now
    (these_names (option_copied c.args.tables.first) (option_copied c.args.tables.second)) in
    both_lost f (test_references (test c.in-Case.cond.value))
    (references (tree c.in-Case.first.value) ++ references (tree c.in-Case.second.value))
    c.cond_loss.result c.earlier.result c.earlier-in-Case.result
    (c.cond_loss.ensures
    ∙ ap (λ (e : Cond). first_named f (test_references (test e))) c.deref-in-Case.ensures)
    (both_lost f (references (tree c.in-Case.first.value))
    (references (tree c.in-Case.second.value)) c.expr_loss-in-Case.result
    c.expr_loss-in-Case-2.result c.earlier.result
    (c.expr_loss-in-Case.ensures
    ∙ ap (λ (e : Expr). first_named f (references (tree e))) c.deref-in-Case-2.ensures)
    (c.expr_loss-in-Case-2.ensures
    ∙ ap (λ (e : Expr). first_named f (references (tree e))) c.deref-in-Case-3.ensures)
    c.earlier.ensures)
    c.earlier-in-Case.ensures
    ∙ sym (ap (λ (x : Tree). first_named f (references x)) (ap tree c.in-Case.is
    ∙ tree_of_case c.in-Case.cond c.in-Case.first c.in-Case.second))

pub list_loss-loop-part-preserved : goal.list_loss-loop-part-preserved
list_loss-loop-part-preserved t c =
    next_part (loss_in_tables c.args.losses.now
    (these_names (option_copied c.args.tables.first) (option_copied c.args.tables.second)))
    c.args.list.now c.loop-part.part-index c.part-item.result c.loop-part.loss
    c.expr_loss.result c.earlier-loss.result _ c.loop-part-test.true c.part-item.is
    c.expr_loss.ensures c.earlier-loss.ensures c.loop-part.invariant
