use Rattle.smo_ops_operators.proofs.operator.next_schema.Goals as goal

pub returns-in-JoinTable : goal.returns-in-JoinTable
returns-in-JoinTable c = rw c.in-JoinTable.is c.after_join.ensures

pub returns-in-AddColumn : goal.returns-in-AddColumn
returns-in-AddColumn c = rw c.in-AddColumn.is c.after_add_column.ensures
