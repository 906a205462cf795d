use Rattle.std.proofs.Common.{List, map, ap, ◌∙◌}
use Rattle.std.proofs.lemmas.Result.{IfOk-weaker}
use Rattle.prima_base.specs.declared.value.Value.{Value}
use Rattle.prima_base.specs.Order.{shown}
use Rattle.cond_expr.specs.Seen.{tree}
use Rattle.cond_expr.specs.Values.{value}
use Rattle.smo_ops_spec.specs.OneRow.{own_cells}
use Rattle.smo_maps.proofs.one_row.value_over.Goals as goal

pub returns : goal.returns
returns c = IfOk-weaker c.row_value.result _ _
    (λ v e. e ∙ ap (λ (row : List Value). value (own_cells c.args.own.now row)
    (tree c.args.expr.now))
    (ap (map shown) c.deref.ensures.value ∙ c.in_ok-values.ensures.values ∙ c.values.ensures))
    c.row_value.ensures
