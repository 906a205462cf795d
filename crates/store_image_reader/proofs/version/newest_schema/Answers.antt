use Rattle.std.proofs.Common.{◌-◌, length, arith}
use Rattle.smo_ops_spec.specs.Past.{no_tables}
use Rattle.smo_ops_spec.proofs.LastSchemas.{last_schema}
use Rattle.store_image_reader.proofs.version.newest_schema.Goals as goal

pub returns-in-Some : goal.returns-in-Some
returns-in-Some c =
    let some = c.in-Some.ensures.item.3.0 in
    last_schema no_tables c.args.versions.now (length c.args.versions.now - 1) c.in-Some.version.now
    (omega (arith, some)) c.in-Some.ensures.item.1
