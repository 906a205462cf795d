use Rattle.std.proofs.Common.{rules, ◌≡◌, ◌∙◌, length, sym}
use Rattle.schema_catalog.proofs.Valid.{count_is, is_schema}
use Rattle.schema_catalog.proofs.schema.Schema.len.Goals as goal

pub returns-clause-count : goal.returns-clause-count
returns-clause-count c =
    let e : c.len.result ≡ length c.self.inside.tables.items = search rules in
    rw (← c.self.view_is) (e ∙ sym (count_is c.self.inside.tables.items c.self.invariant.sorted))

pub returns-clause-valid : goal.returns-clause-valid
returns-clause-valid c = rw (← c.self.view_is)
    (is_schema c.self.inside.tables.items c.self.invariant)
