use Rattle.std.proofs.Common.{length}
use Rattle.query_exec.proofs.run.+all_pieces_alike.Given as goal

abbrev pub decreases-all_pieces_alike : goal.decreases-all_pieces_alike
decreases-all_pieces_alike l = length l.pieces.now
