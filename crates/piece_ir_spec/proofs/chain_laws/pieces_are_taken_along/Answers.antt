use Rattle.piece_ir_spec.proofs.PiecesMean.{pieces_mean, pieces_typed, pieces_output, pieces_valid}
use Rattle.piece_ir_spec.proofs.chain_laws.pieces_are_taken_along.Goals as goal

pub returns-clause-means : goal.returns-clause-means
returns-clause-means c = λ book valid versions are hold v q ps typed none db h.
    pieces_mean versions are v q book valid ps typed none hold db h

pub returns-clause-typed : goal.returns-clause-typed
returns-clause-typed c = λ book valid versions are v q ps typed none.
    pieces_typed versions are v q book valid ps typed none

pub returns-clause-outputs : goal.returns-clause-outputs
returns-clause-outputs c = λ book valid versions are v q ps typed none outs o p m.
    pieces_output versions are v q book valid ps typed none outs o p m

pub returns-clause-constants : goal.returns-clause-constants
returns-clause-constants c = λ book valid versions are kept v q ps typed none h.
    pieces_valid versions are v q book valid ps typed none kept h
