use Rattle.smo_ops_versions_spec.proofs.WholeDatabases.{kept_at, emptied_at, whole_database}
use Rattle.smo_ops_versions_spec.proofs.WholeDatabases.{whole_commutes}
use Rattle.smo_ops_versions_spec.proofs.way_laws.a_lost_table_may_be_taken_for_an_empty_one.Goals as goal

pub returns-clause-kept : goal.returns-clause-kept
returns-clause-kept c = kept_at

pub returns-clause-emptied : goal.returns-clause-emptied
returns-clause-emptied c = emptied_at

pub returns-clause-database : goal.returns-clause-database
returns-clause-database c = whole_database

pub returns-clause-migrate : goal.returns-clause-migrate
returns-clause-migrate c = λ tables op database e n l. whole_commutes tables op e database n l
