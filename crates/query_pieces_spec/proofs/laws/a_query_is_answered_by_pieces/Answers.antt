use Rattle.query_pieces_spec.proofs.ReadByPieces.{asked_is, pushed_is, answer_is}
use Rattle.query_pieces_spec.proofs.laws.a_query_is_answered_by_pieces.Goals as goal

pub returns-clause-moment : goal.returns-clause-moment
returns-clause-moment c = λ book valid past is holds query accepted m asked.
    asked_is past query accepted book valid is holds m asked

pub returns-clause-pushed : goal.returns-clause-pushed
returns-clause-pushed c = λ book valid past is holds query accepted m asked.
    pushed_is past query accepted book valid is holds m asked

pub returns-clause-answer : goal.returns-clause-answer
returns-clause-answer c = λ book valid past is holds query accepted ends relation read entries h.
    answer_is past query accepted book valid is holds ends relation read entries h
