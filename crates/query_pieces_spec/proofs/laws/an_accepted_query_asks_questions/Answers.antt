use Rattle.query_pieces_spec.proofs.ReadByPieces.{is_lasting, enough_asked, pushed_enough, not_lost}
use Rattle.query_pieces_spec.proofs.ReadByPieces.{items_kept}
use Rattle.query_pieces_spec.proofs.laws.an_accepted_query_asks_questions.Goals as goal

pub returns-clause-lasting : goal.returns-clause-lasting
returns-clause-lasting c = λ past query accepted. is_lasting past query accepted

pub returns-clause-enough : goal.returns-clause-enough
returns-clause-enough c = λ past query accepted b m. enough_asked past query accepted b m

pub returns-clause-pushed : goal.returns-clause-pushed
returns-clause-pushed c = λ past query accepted b m. pushed_enough past query accepted b m

pub returns-clause-kept : goal.returns-clause-kept
returns-clause-kept c = λ past query accepted m asked b k i j.
    items_kept past query accepted m asked b k i j

pub returns-clause-found : goal.returns-clause-found
returns-clause-found c = not_lost
