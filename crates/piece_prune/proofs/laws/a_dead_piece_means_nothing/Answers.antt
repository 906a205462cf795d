use Rattle.piece_prune.proofs.Pruned.{means_nothing}
use Rattle.piece_prune.proofs.laws.a_dead_piece_means_nothing.Goals as goal

pub returns : goal.returns
returns c = λ tables db p d h. means_nothing tables db d p h
