use Rattle.std.proofs.Common.{map, refl, ap, ◌∙◌}
use Rattle.std.proofs.lemmas.Result.{IfOk-weaker}
use Rattle.prima_base.specs.Order.{shown}
use Rattle.cond_expr.specs.Rows.{flat}
use Rattle.cond_expr.specs.Values.{value}
use Rattle.cond_expr.specs.Seen.{tree}
use Rattle.smo_ops.proofs.EffectLaws.{borrowed_cells}
use Rattle.smo_ops.proofs.effect.row_value.Goals as goal

pub returns : goal.returns
returns c = IfOk-weaker c.into_value.result _ _
    (λ v e. e ∙ c.in_ok-val.ensures.value ∙ ap (λ at. value at (tree c.args.expr.now))
    (ap (λ a. flat a c.args.values.now) c.atoms.ensures
    ∙ borrowed_cells c.args.own.now c.args.values.now (map shown c.args.values.now) refl))
    c.into_value.ensures
