use Rattle.std.proofs.Common.{length}
use Rattle.piece_ir.proofs.sameness.+same_pieces.Given as goal

abbrev pub decreases-same_pieces : goal.decreases-same_pieces
decreases-same_pieces l = length l.a.now
