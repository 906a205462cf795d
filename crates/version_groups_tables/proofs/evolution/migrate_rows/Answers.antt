use Rattle.std.proofs.Common.{◌∙◌}
use Rattle.std.specs.Option.{option_copied}
use Rattle.std.proofs.lemmas.Result.{IfOk-weaker}
use Rattle.smo_ops_types.specs.Operators.{operator_of}
use Rattle.smo_ops_spec.specs.Touching.{made_of}
use Rattle.version_groups_tables.specs.Places.{at_places}
use Rattle.version_groups_tables.proofs.GivenTables.{given_there, are_earlier, has_given}
use Rattle.version_groups_tables.proofs.evolution.migrate_rows.Goals as goal

pub returns : goal.returns
returns g c = λ stamp valid database whole stored.
    let op = operator_of c.args.op.now in
    let earlier = are_earlier c.args.before.now database stamp
    (at_places c.args.tables.now c.args.places.now) stored in
    IfOk-weaker c.carry.result _ _
    (λ v is. is.whole database
    (has_given c.args.before.now database stamp (at_places c.args.tables.now c.args.places.now)
    stored whole (made_of op) (given_there c.args.before.now op c.requires.accepted)
    (option_copied c.made_of-given.result.first) (option_copied c.made_of-given.result.second)
    c.made_of-given.ensures.first c.made_of-given.ensures.second
    c.deref.result.now c.deref-2.result.now
    (c.deref.ensures.value ∙ c.in_ok-first.ensures stamp valid earlier)
    (c.deref-2.ensures.value ∙ c.in_ok-second.ensures stamp valid earlier)))
    c.carry.ensures
