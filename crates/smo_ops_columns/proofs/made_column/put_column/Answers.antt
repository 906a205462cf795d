use Rattle.std.proofs.Common.{sym}
use Rattle.smo_ops_columns.proofs.made_column.put_column.Goals as goal

pub returns-in-None : goal.returns-in-None
returns-in-None c = rw (← c.deref.ensures.value) (sym (c.in-None.ensures c.args.column.1))
