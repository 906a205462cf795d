use Rattle.piece_ir_spec.proofs.ReadMoments.{table_means, table_typed, table_output, table_valid}
use Rattle.piece_ir_spec.proofs.chain_laws.the_pieces_of_a_table.Goals as goal

pub returns-clause-means : goal.returns-clause-means
returns-clause-means c = λ book valid versions are hold v q table r asked none db h.
    table_means versions are book valid v q table r asked none hold db h

pub returns-clause-typed : goal.returns-clause-typed
returns-clause-typed c = λ book valid versions are v q table r asked none.
    table_typed versions are book valid v q table r asked none

pub returns-clause-outputs : goal.returns-clause-outputs
returns-clause-outputs c = λ book valid versions are v q table r asked none p m.
    table_output versions are book valid v q table r asked none p m

pub returns-clause-constants : goal.returns-clause-constants
returns-clause-constants c = λ book valid versions are kept v q table r asked none h.
    table_valid versions are book valid v q table r asked none kept h
