use Rattle.query_pieces_spec.proofs.RunPieces.{none_run, one_more_run}
use Rattle.query_pieces_spec.proofs.laws.pieces_are_run_one_by_one.Goals as goal

pub returns-clause-nothing : goal.returns-clause-nothing
returns-clause-nothing c = λ tables db m. none_run tables db m

pub returns-clause-more : goal.returns-clause-more
returns-clause-more c = λ tables db ps p a b m e f. one_more_run tables db ps p a b m e f
