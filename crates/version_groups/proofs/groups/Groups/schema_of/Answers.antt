use Rattle.std.proofs.Common.{◌≡◌, ◌<◌, ◌-◌, suc, length, map, ap, sym, ◌∙◌, arith}
use Rattle.smo_ops_types.specs.Commands.{version_of}
use Rattle.smo_ops_spec.specs.Past.{no_tables, tables_from}
use Rattle.version_groups.specs.Groups.{Kept, versions_in}
use Rattle.version_groups.proofs.VersionsKept.{at_nought, schema_at}
use Rattle.version_groups.proofs.groups.Groups.schema_of.Goals as goal

pub returns-then-version-eq0 : goal.returns-then-version-eq0
returns-then-version-eq0 c =
    c.self.invariant.nothing ∙ sym (ap (tables_from no_tables (versions_in c.args.self.now))
    c.if-version-eq0.true ∙ at_nought no_tables (versions_in c.args.self.now))

pub index-requires : goal.index-requires
index-requires c =
    let long = ap (λ (k : Kept). length k.versions) c.self.view_is in
    let there = c.requires.there in
    let some = c.if-version-eq0.false in
    omega (arith, long, there, some)

pub returns : goal.returns
returns c =
    let list = c.self.inside.versions.list.items in
    let is : list ≡ c.args.self.now.versions = ap (λ (k : Kept). k.versions) c.self.view_is in
    let long = ap length is in
    let there = c.requires.there in
    let some = c.if-version-eq0.false in
    let under : c.args.version - 1 < length list = omega (arith, long, there, some) in
    let next : suc (c.args.version - 1) ≡ c.args.version = omega (arith, some) in
    schema_at no_tables list (c.args.version - 1) c.index.result.now under c.index.ensures
    ∙ ap (λ vs. tables_from no_tables (map version_of vs) (suc (c.args.version - 1))) is
    ∙ ap (tables_from no_tables (versions_in c.args.self.now)) next
