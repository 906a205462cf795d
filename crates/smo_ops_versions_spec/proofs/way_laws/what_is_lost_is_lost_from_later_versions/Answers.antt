use Rattle.smo_ops_versions_spec.proofs.ColumnsStayLost.{stays_lost}
use Rattle.smo_ops_versions_spec.proofs.LossCauses.{no_table_forward, no_column_forward}
use Rattle.smo_ops_versions_spec.proofs.way_laws.what_is_lost_is_lost_from_later_versions.Goals as goal

pub returns-clause-table : goal.returns-clause-table
returns-clause-table c = λ versions w v q n l r e. (stays_lost versions w v q l r n e).0

pub returns-clause-column : goal.returns-clause-column
returns-clause-column c = λ versions w v q n k l r e h. (stays_lost versions w v q l r n e).1 k h

pub returns-clause-forward : goal.returns-clause-forward
returns-clause-forward c = λ versions v q l n.
    (no_table_forward versions v q l n, no_column_forward versions v q l n)
