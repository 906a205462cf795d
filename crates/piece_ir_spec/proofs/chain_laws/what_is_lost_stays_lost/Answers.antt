use Rattle.smo_ops_versions_spec.proofs.MappedTables.{none_forward}
use Rattle.piece_ir_spec.proofs.StaysLost.{stays_lost}
use Rattle.piece_ir_spec.proofs.chain_laws.what_is_lost_stays_lost.Goals as goal

pub returns-clause-back : goal.returns-clause-back
returns-clause-back c = λ versions w v q n l r e. stays_lost versions w v q n l r e

pub returns-clause-forward : goal.returns-clause-forward
returns-clause-forward c = λ versions v q n l. none_forward versions v q n l
