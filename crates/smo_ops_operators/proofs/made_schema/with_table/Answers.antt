use Rattle.smo_ops_operators.proofs.made_schema.with_table.Goals as goal

pub new-made-requires : goal.new-made-requires
new-made-requires c = rw c.in_ok-columns.ensures c.requires
