use Rattle.smo_ops.proofs.check.check_in_table.Goals as goal

pub returns-in_ok-own-in-Delete : goal.returns-in_ok-own-in-Delete
returns-in_ok-own-in-Delete c = rw (c.in-Delete.is, ← c.in_ok-own-in-Delete.ensures)
    c.check_delete.ensures

pub returns-in_ok-own-in-Update : goal.returns-in_ok-own-in-Update
returns-in_ok-own-in-Update c = rw (
  c.in-Update.is,
  ← c.in_ok-own-in-Update.ensures,
  ← c.deref-in-Update.ensures.value,
) c.check_update.ensures
