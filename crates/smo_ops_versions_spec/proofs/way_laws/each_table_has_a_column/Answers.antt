use Rattle.smo_ops_versions_spec.proofs.SomeColumns.{no_tables_have, next_has_columns}
use Rattle.smo_ops_versions_spec.proofs.WayLeads.{columns_at}
use Rattle.smo_ops_versions_spec.proofs.way_laws.each_table_has_a_column.Goals as goal

pub returns-clause-beginning : goal.returns-clause-beginning
returns-clause-beginning c = no_tables_have

pub returns-clause-kept : goal.returns-clause-kept
returns-clause-kept c =
    λ tables op good have e. next_has_columns tables op good.schema have e

pub returns-clause-versions : goal.returns-clause-versions
returns-clause-versions c = λ versions k are. columns_at versions are k
