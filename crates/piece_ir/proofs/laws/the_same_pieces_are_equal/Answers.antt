use Rattle.piece_ir.proofs.SameLaws.{same_are, are_same}
use Rattle.piece_ir.proofs.laws.the_same_pieces_are_equal.Goals as goal

pub returns : goal.returns
returns c = λ ps qs. (same_are ps qs, are_same ps qs)
