use Rattle.std.proofs.Common.{sym}
use Rattle.schema_catalog.proofs.Valid.{put_found, put_not_found}
use Rattle.schema_catalog.proofs.place.put_table.Goals as goal

pub returns-in-Ok-clause-put : goal.returns-in-Ok-clause-put
returns-in-Ok-clause-put c = sym (put_found c.args.table c.args.tables.now.items c.in-Ok.i
    c.requires (rw (← c.deref.ensures.value, ← c.name.ensures.value) c.in-Ok.ensures))

pub returns-in_ok-insert-in-Err-clause-put : goal.returns-in_ok-insert-in-Err-clause-put
returns-in_ok-insert-in-Err-clause-put c =
    rw c.in_ok-insert-in-Err.ensures.items (sym
    (put_not_found c.args.table c.args.tables.now.items c.in-Err.i
    (rw (← c.deref.ensures.value, ← c.name.ensures.value) c.in-Err.ensures)))
