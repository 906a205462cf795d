use Rattle.std.proofs.Common.{ap, ◌∙◌}
use Rattle.version_groups.specs.Groups.{Kept}
use Rattle.version_groups.proofs.PreparedCommands.{schema_is}
use Rattle.version_groups.proofs.groups.Groups.newest_schema.Goals as goal

pub returns : goal.returns
returns c past represents =
    let a = c.self.inside in
    c.newest_schema.ensures ∙ schema_is c.args.self.now past represents a.nothing
    a.versions.list.items
    c.self.invariant.nothing (ap (λ (k : Kept). k.versions) c.self.view_is)
