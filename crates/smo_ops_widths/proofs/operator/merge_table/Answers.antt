use Rattle.std.proofs.lemmas.Result.{IfOk-weaker}
use Rattle.std.specs.FinMap.{get, remove}
use Rattle.smo_ops_widths.specs.Widths.{of_both, merged_width}
use Rattle.smo_ops_widths.proofs.operator.merge_table.Goals as goal

pub returns : goal.returns
returns c = IfOk-weaker c.put.result _ _ (λ done h. λ before shown s.
    let left = c.args.left.now in
    let right = c.args.right.now in
    h (remove (remove shown left) right) (of_both merged_width (get shown left) (get shown right))
    (c.in_ok-width.ensures shown s)
    (c.forget-2.ensures (remove shown left) (c.forget.ensures shown s))) c.put.ensures
