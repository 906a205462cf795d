use Rattle.smo_ops_spec.proofs.DatabaseLaws.{changes_keep}
use Rattle.smo_ops_spec.proofs.laws.changes_keep_a_database.Goals as goal

pub returns : goal.returns
returns c = λ tables database changes schema is accepted.
    changes_keep tables database changes 0 schema is accepted
