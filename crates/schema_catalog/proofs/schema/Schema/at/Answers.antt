use Rattle.std.proofs.Common.{rules, ◌≡◌, ◌<◌, length, vec_len, subst}
use Rattle.schema_catalog.proofs.Valid.{place_there, table_at, is_schema}
use Rattle.schema_catalog.proofs.schema.Schema.at.Goals as goal

pub index-requires : goal.index-requires
index-requires c =
    let full : length c.self.inside.tables.items ≡ vec_len c.self.inside.tables = search rules in
    subst (λ n. c.args.place < n) full
    (place_there c.self.inside.tables.items c.args.place c.self.invariant.sorted
    (rw (c.self.view_is) c.requires.there))

pub returns-clause-table : goal.returns-clause-table
returns-clause-table c = rw (c.table.ensures, ← c.self.view_is)
    (table_at c.self.inside.tables.items c.args.place c.index.result.now
    c.self.invariant.sorted
    (place_there c.self.inside.tables.items c.args.place c.self.invariant.sorted
    (rw (c.self.view_is) c.requires.there)) c.index.ensures)

pub returns-clause-valid : goal.returns-clause-valid
returns-clause-valid c = rw (← c.self.view_is)
    (is_schema c.self.inside.tables.items c.self.invariant)
