use Rattle.std.proofs.Common.{◌≡◌, ◌-◌, ◌<◌, suc, ap, sym, ◌∙◌, length, arith}
use Rattle.smo_ops_types.specs.Commands.{versions_of}
use Rattle.smo_ops_spec.specs.Past.{no_tables, tables_from}
use Rattle.smo_ops_operators.proofs.VersionPlaces.{first_tables, next_tables}
use Rattle.smo_ops_operators.proofs.version_tables.tables_at.Goals as goal

pub returns-then-k-eq0 : goal.returns-then-k-eq0
returns-then-k-eq0 c = c.requires.nothing ∙ sym
    (ap (tables_from no_tables (versions_of c.args.versions.now)) c.if-k-eq0.true
    ∙ first_tables no_tables (versions_of c.args.versions.now))

pub returns-else-k-eq0 : goal.returns-else-k-eq0
returns-else-k-eq0 c =
    let f = c.if-k-eq0.false in
    let below : c.args.k - 1 < length c.args.versions.now.list.items =
    omega (arith, c.requires.there) in
    let same : suc (c.args.k - 1) ≡ c.args.k = omega arith in
    sym (next_tables no_tables c.args.versions.now.list.items (c.args.k - 1) c.index.result.now
    below c.index.ensures)
    ∙ ap (tables_from no_tables (versions_of c.args.versions.now)) same
