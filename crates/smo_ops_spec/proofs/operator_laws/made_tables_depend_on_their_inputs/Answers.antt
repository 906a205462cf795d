use Rattle.smo_ops_spec.proofs.Locality.{made_alike, migrated_alike}
use Rattle.smo_ops_spec.proofs.operator_laws.made_tables_depend_on_their_inputs.Goals as goal

pub returns-clause-entry : goal.returns-clause-entry
returns-clause-entry c = λ tables op a b h m i. made_alike tables a b op h m i

pub returns-clause-migrate : goal.returns-clause-migrate
returns-clause-migrate c = λ tables op a b e h m i. migrated_alike tables a b op e h m i
