use Rattle.std.proofs.Common.{◌∙◌}
use Rattle.std.proofs.lemmas.Result.{IfOk-weaker}
use Rattle.smo_ops_types.specs.Operators.{evolution_of}
use Rattle.rewrite_losses.proofs.OneBack.{back_named}
use Rattle.rewrite_losses.proofs.operator_back.lose_back.Goals as goal

pub returns-in-len1-up : goal.returns-in-len1-up
returns-in-len1-up c = IfOk-weaker c.lose_over_each.result _ _ (λ u h.
    h ∙ back_named c.args.k c.args.before.now (evolution_of c.args.op.now) c.args.after.now
    c.args.inverse.now c.args.losses.now c.in-len1-up.len_at_least) c.lose_over_each.ensures
