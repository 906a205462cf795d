use Rattle.plain_answers_spec.proofs.OneRelation.{one_relation}
use Rattle.plain_answers_spec.proofs.laws.one_relation_is_answered_row_by_row.Goals as goal

pub returns : goal.returns
returns c = λ columns rows outs test. one_relation columns outs test rows
