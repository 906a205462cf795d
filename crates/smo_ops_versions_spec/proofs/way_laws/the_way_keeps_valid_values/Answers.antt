use Rattle.smo_ops_versions_spec.proofs.WayValues.{way_values, migrate_values, step_back_values}
use Rattle.smo_ops_versions_spec.proofs.way_laws.the_way_keeps_valid_values.Goals as goal

pub returns-clause-way : goal.returns-clause-way
returns-clause-way c = λ versions v q database hold h. way_values versions hold v q database h

pub returns-clause-forward : goal.returns-clause-forward
returns-clause-forward c = λ versions k database hold h. migrate_values versions hold k database h

pub returns-clause-back : goal.returns-clause-back
returns-clause-back c = λ versions k database hold h. step_back_values versions hold k database h
