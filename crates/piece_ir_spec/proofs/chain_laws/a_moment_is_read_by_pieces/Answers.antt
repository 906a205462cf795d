use Rattle.piece_ir_spec.proofs.ReadMoments.{moment_read}
use Rattle.piece_ir_spec.proofs.chain_laws.a_moment_is_read_by_pieces.Goals as goal

pub returns : goal.returns
returns c = λ book valid past is each hold m q reads branches s none.
    moment_read book valid past is each hold m q reads branches s none
