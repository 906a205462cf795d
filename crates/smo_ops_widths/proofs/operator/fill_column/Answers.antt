use Rattle.std.proofs.lemmas.Result.{IfOk-weaker}
use Rattle.std.specs.FinMap.{get, remove}
use Rattle.std.specs.Option.{option_map}
use Rattle.smo_ops_widths.specs.Widths.{Width, with_size, sized_as}
use Rattle.smo_ops_widths.proofs.AtHandLaws.{taken_out}
use Rattle.smo_ops_widths.proofs.operator.fill_column.Goals as goal

pub returns : goal.returns
returns c = IfOk-weaker c.put.result _ _ (λ done h. λ before value shown s.
    let table = c.args.table.now in
    let gone = taken_out _ _ table c.take.result shown c.take.ensures.found c.take.ensures.gone
    s in
    h (remove shown table) (option_map (λ (a : Width).
    with_size (sized_as c.args.column.now 1 a.size) a) (get shown table))
    (c.in_ok-width.ensures (get shown table) gone.0) gone.1) c.put.ensures
