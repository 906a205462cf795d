use Rattle.plain_answers_spec.proofs.PlainRows.{plain_rows}
use Rattle.plain_answers_spec.proofs.laws.plain_rows_are_given.Goals as goal

pub returns : goal.returns
returns c = λ tables db branches row. plain_rows tables db branches row
