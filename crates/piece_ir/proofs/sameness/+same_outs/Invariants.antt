use Rattle.std.proofs.Common.{length}
use Rattle.piece_ir.proofs.sameness.+same_outs.Given as goal

abbrev pub decreases-same_outs : goal.decreases-same_outs
decreases-same_outs l = length l.a.now
