use Rattle.std.proofs.lemmas.Result.{IfOk-weaker}
use Rattle.std.specs.FinMap.{get}
use Rattle.smo_ops_widths.proofs.operator.copy_table.Goals as goal

pub returns : goal.returns
returns c = IfOk-weaker c.put.result _ _ (λ done h. λ before shown s.
    h shown (get shown c.args.table.now) (c.in_ok-width.ensures shown s) s) c.put.ensures
