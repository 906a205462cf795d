use Rattle.std.proofs.Common.{map, refl, ap, ◌∙◌}
use Rattle.std.proofs.lemmas.Result.{IfOk-weaker}
use Rattle.prima_base.specs.Order.{shown}
use Rattle.cond_expr.specs.Rows.{flat}
use Rattle.cond_expr.specs.Values.{truth}
use Rattle.cond_expr.specs.Seen.{test}
use Rattle.smo_ops.proofs.EffectLaws.{borrowed_cells}
use Rattle.smo_ops.proofs.effect.row_meets.Goals as goal

pub returns : goal.returns
returns c = IfOk-weaker c.holds.result _ _ (λ b e. e ∙ ap (λ at. truth at (test c.args.cond.now))
    (ap (λ a. flat a c.args.values.now) c.atoms.ensures
    ∙ borrowed_cells c.args.own.now c.args.values.now (map shown c.args.values.now) refl))
    c.holds.ensures
