use Rattle.piece_prune.proofs.Pruned.{mean_the_same}
use Rattle.piece_prune.proofs.laws.living_pieces_mean_the_same.Goals as goal

pub returns : goal.returns
returns c = λ tables db ps living d a. mean_the_same tables db d ps living a
