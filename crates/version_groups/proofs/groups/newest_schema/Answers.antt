use Rattle.std.proofs.Common.{◌-◌, length, map, ap, ◌∙◌, arith}
use Rattle.smo_ops_types.specs.Commands.{version_of}
use Rattle.smo_ops_spec.specs.Past.{newest_from}
use Rattle.smo_ops_spec.proofs.LastSchemas.{last_schema}
use Rattle.version_groups.proofs.groups.newest_schema.Goals as goal

pub returns-in-Some : goal.returns-in-Some
returns-in-Some c =
    let some = c.in-Some.ensures.item.3.0 in
    last_schema c.args.nothing.now c.deref.result.now (length c.deref.result.now - 1)
    c.in-Some.version.now (omega (arith, some)) c.in-Some.ensures.item.1
    ∙ ap (λ vs. newest_from c.args.nothing.now (map version_of vs)) c.deref.ensures.value
