use Rattle.smo_ops_versions_spec.proofs.WayDatabases.{migrated_database, migrate_database}
use Rattle.smo_ops_versions_spec.proofs.WayDatabases.{back_over_database}
use Rattle.smo_ops_versions_spec.proofs.way_laws.the_way_keeps_a_database.Goals as goal

pub returns-clause-way : goal.returns-clause-way
returns-clause-way c = λ versions v q database are h. migrated_database versions are v q database h

pub returns-clause-forward : goal.returns-clause-forward
returns-clause-forward c = λ versions k database are h. migrate_database versions are k database h

pub returns-clause-back : goal.returns-clause-back
returns-clause-back c = λ versions k database are h. back_over_database versions are k database h
