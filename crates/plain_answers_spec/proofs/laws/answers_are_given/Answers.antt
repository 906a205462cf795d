use Rattle.plain_answers_spec.proofs.PlainRows.{in_answers, from_answers}
use Rattle.plain_answers_spec.proofs.laws.answers_are_given.Goals as goal

pub returns : goal.returns
returns c = λ columns relations outs test row.
    (from_answers columns relations outs test row, in_answers columns relations outs test row)
