use Rattle.std.proofs.Common.{map, ap, ◌∙◌}
use Rattle.std.proofs.lemmas.Result.{IfOk-weaker}
use Rattle.prima_base.specs.Order.{shown}
use Rattle.cond_expr.specs.Seen.{test}
use Rattle.smo_ops_spec.specs.OneRow.{meets}
use Rattle.smo_maps.proofs.one_row.is_met.Goals as goal

pub returns : goal.returns
returns c = IfOk-weaker c.row_meets.result _ _
    (λ b e. e ∙ ap (meets c.args.own.now (test c.args.cond.now))
    (ap (map shown) c.deref.ensures.value ∙ c.in_ok-values.ensures.values ∙ c.values.ensures))
    c.row_meets.ensures
