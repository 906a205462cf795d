use Rattle.smo_ops_types.specs.Changes.{changes_of}
use Rattle.smo_ops_spec.specs.Checks.{changes_fault}
use Rattle.smo_ops.proofs.PassedOn.{accepted, refused}
use Rattle.smo_ops.proofs.check.check_changes.Goals as goal

pub returns-clause-accepted : goal.returns-clause-accepted
returns-clause-accepted c = accepted (changes_fault c.args.schema.now
    (changes_of c.args.changes.now)) c.check_in_turn.result c.check_in_turn.ensures.checked

pub returns-clause-refused : goal.returns-clause-refused
returns-clause-refused c = refused (changes_fault c.args.schema.now (changes_of c.args.changes.now))
    c.check_in_turn.result c.check_in_turn.ensures.checked
