use Rattle.std.proofs.lemmas.Result.{IfOk-weaker}
use Rattle.std.specs.FinMap.{get, remove}
use Rattle.schema_catalog.specs.Tables.{columns_of}
use Rattle.cond_expr.specs.Seen.{test}
use Rattle.smo_ops_widths.specs.Widths.{of_both, joined_width}
use Rattle.smo_ops_widths.proofs.operator.join_table.Goals as goal

pub returns : goal.returns
returns c = IfOk-weaker c.put.result _ _ (λ done h. λ shown s.
    let left = c.args.left.now in
    let right = c.args.right.now in
    let tables = c.args.before.now in
    h (remove (remove shown left) right)
    (of_both (joined_width (columns_of tables left) (columns_of tables right)
    (test c.args.cond.now)) (get shown left) (get shown right)) (c.in_ok-width.ensures shown s)
    (c.forget-2.ensures (remove shown left) (c.forget.ensures shown s))) c.put.ensures
