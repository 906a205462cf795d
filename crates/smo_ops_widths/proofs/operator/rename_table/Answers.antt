use Rattle.std.proofs.lemmas.Result.{IfOk-weaker}
use Rattle.std.specs.FinMap.{get, remove}
use Rattle.smo_ops_widths.proofs.AtHandLaws.{taken_out}
use Rattle.smo_ops_widths.proofs.operator.rename_table.Goals as goal

pub returns : goal.returns
returns c = IfOk-weaker c.put.result _ _ (λ done h. λ before shown s.
    let gone = taken_out _ _ c.args.table.now c.take-width.result shown
    c.take-width.ensures.found c.take-width.ensures.gone s in
    h (remove shown c.args.table.now) (get shown c.args.table.now) gone.0 gone.1) c.put.ensures
