use Rattle.schema_catalog.proofs.Valid.{put_tables, put_is_insert}
use Rattle.schema_catalog.proofs.schema.Schema.with.Goals as goal

pub invariant_of-result : goal.invariant_of-result
invariant_of-result c =
    rw (c.in_ok-put_table.ensures.put, c.in_ok-tables.ensures, c.deref.ensures.value)
    (put_tables c.in_ok-new.field-0.0 c.in_ok-new.field-0.1 c.self.inside.tables.items
    c.self.invariant c.put_table.ensures.valid)

pub returns : goal.returns
returns c =
    rw (
      c.in_ok-put_table.ensures.put,
      c.in_ok-new.ensures,
      c.in_ok-tables.ensures,
      c.deref.ensures.value,
      ← c.self.view_is,
    )
    (put_is_insert c.args.table.0 c.args.table.1 c.self.inside.tables.items c.self.invariant.sorted)
