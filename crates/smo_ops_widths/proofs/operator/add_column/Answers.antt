use Rattle.std.proofs.lemmas.Result.{IfOk-weaker}
use Rattle.std.specs.FinMap.{get, remove}
use Rattle.std.specs.Option.{option_map}
use Rattle.cond_expr.specs.Seen.{tree}
use Rattle.smo_ops_widths.specs.Widths.{Width, with_size, sized_as, sized}
use Rattle.smo_ops_widths.proofs.AtHandLaws.{taken_out}
use Rattle.smo_ops_widths.proofs.operator.add_column.Goals as goal

pub returns : goal.returns
returns c = IfOk-weaker c.put.result _ _ (λ done h. λ before shown s.
    let table = c.args.table.now in
    let gone = taken_out _ _ table c.take.result shown c.take.ensures.found c.take.ensures.gone
    s in
    h (remove shown table) (option_map (λ (a : Width).
    with_size (sized_as c.args.column.now (sized a.size (tree c.args.expr.now)) a.size) a) (get shown table))
    (c.in_ok-width.ensures (get shown table) gone.0) gone.1) c.put.ensures
