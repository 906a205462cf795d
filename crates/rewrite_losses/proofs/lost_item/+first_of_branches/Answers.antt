use Rattle.std.proofs.Common.{◌∙◌, sym}
use Rattle.std.proofs.lemmas.Result.{IfOk-weaker}
use Rattle.rewrite_losses.proofs.NamedItems.{some_first, later_first}
use Rattle.rewrite_losses.proofs.lost_item.+first_of_branches.Goals as goal

pub returns-in-Some : goal.returns-in-Some
returns-in-Some t c =
    some_first c.args.losses.now c.args.branches.now c.branch-item.result c.in-Some.loss
    c.in-len1-up.len_at_least c.branch-item.is
    (sym c.in-Some.is ∙ c.in_ok-loss-in-len1-up.ensures)

pub returns-in-None : goal.returns-in-None
returns-in-None t c = IfOk-weaker c.first_of_branches.result _ _ (λ r h.
    later_first c.args.losses.now c.args.branches.now c.branch-item.result r
    c.in-len1-up.len_at_least c.branch-item.is
    (sym c.in-None.is ∙ c.in_ok-loss-in-len1-up.ensures) h) c.first_of_branches.ensures
