use Rattle.smo_ops_spec.proofs.CountedOperators.{counted_operator, counted_inverse, counted_length}
use Rattle.smo_ops_spec.proofs.laws.counted_operators_are_few.Goals as goal

pub returns : goal.returns
returns c = λ op inverse e. (
  counted_operator op inverse e,
  counted_inverse op inverse e,
  counted_length op inverse e,
)
