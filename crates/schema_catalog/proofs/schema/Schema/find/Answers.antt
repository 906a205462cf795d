use Rattle.schema_catalog.proofs.Valid.{table_found, name_found, table_not_found, is_schema}
use Rattle.schema_catalog.proofs.schema.Schema.find.Goals as goal

pub returns-in-Ok-clause-table : goal.returns-in-Ok-clause-table
returns-in-Ok-clause-table c = rw (c.table.ensures, ← c.self.view_is)
    (table_found c.args.name.now c.self.inside.tables.items c.in-Ok.i c.index.result.now
    c.self.invariant.sorted (rw (← c.deref.ensures.value) c.in-Ok.ensures) c.index.ensures)

pub returns-in-Ok-clause-place : goal.returns-in-Ok-clause-place
returns-in-Ok-clause-place c = rw (← c.self.view_is)
    (name_found c.args.name.now c.self.inside.tables.items c.in-Ok.i c.self.invariant.sorted
    (rw (← c.deref.ensures.value) c.in-Ok.ensures))

pub returns-in-Ok-clause-valid : goal.returns-in-Ok-clause-valid
returns-in-Ok-clause-valid c = rw (← c.self.view_is)
    (is_schema c.self.inside.tables.items c.self.invariant)

pub returns-in-Err-clause-table : goal.returns-in-Err-clause-table
returns-in-Err-clause-table c = rw (← c.self.view_is)
    (table_not_found c.args.name.now c.self.inside.tables.items c.in-Err.field-0
    c.self.invariant.sorted (rw (← c.deref.ensures.value) c.in-Err.ensures))

pub returns-in-Err-clause-valid : goal.returns-in-Err-clause-valid
returns-in-Err-clause-valid c = rw (← c.self.view_is)
    (is_schema c.self.inside.tables.items c.self.invariant)
