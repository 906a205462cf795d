use Rattle.smo_ops_spec.proofs.ColumnLaws.{in_order_are_columns}
use Rattle.smo_ops_operators.proofs.operator.create_table.create.Goals as goal

pub new-made-requires : goal.new-made-requires
new-made-requires c = rw c.in_ok-in_order.ensures (in_order_are_columns c.args.columns.now)
