use Rattle.std.proofs.Common.{◌∙◌, ◌++◌, List, map, ap}
use Rattle.std.proofs.lemmas.Result.{IfOk-weaker}
use Rattle.std.specs.Borrow.{Bor}
use Rattle.cond_expr.specs.declared.expr.ColRef.{ColRef}
use Rattle.cond_expr.specs.declared.expr.Expr.{Expr}
use Rattle.cond_expr.specs.References.{borrowed}
use Rattle.cond_expr.specs.Seen.{tree, test}
use Rattle.plain_answers_spec.specs.Naming.{all_references}
use Rattle.rewrite_losses.proofs.NamedItems.{of_branch}
use Rattle.rewrite_losses.proofs.lost_item.first_of_branch.Goals as goal

pub returns : goal.returns
returns c = IfOk-weaker c.first_of_items.result _ _ (λ loss h.
    of_branch c.args.losses.now c.args.branch.now (borrowed c.deref-2.result.now)
    c.deref-3.result.now loss
    (ap (λ (rs : List (Bor ColRef)). borrowed rs) c.deref-2.ensures.value
    ∙ c.in_ok-gather_references.ensures
    ∙ ap (λ (rs : List (Bor ColRef)). borrowed rs ++ all_references (map tree c.deref.result.now)
    (test c.args.branch.now.cond)) c.new-references.ensures.items
    ∙ ap (λ (outs : List Expr). all_references (map tree outs) (test c.args.branch.now.cond))
    c.deref.ensures.value)
    c.deref-3.ensures.value h) c.first_of_items.ensures
