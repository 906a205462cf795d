use Rattle.piece_ir.proofs.PutValues.{value_put, truth_put}
use Rattle.piece_ir.proofs.laws.substitution_puts_a_value.Goals as goal

pub returns-clause-value : goal.returns-clause-value
returns-clause-value c = λ at i column e t own. value_put at i column e own t

pub returns-clause-truth : goal.returns-clause-truth
returns-clause-truth c = λ at i column e d own. truth_put at i column e own d
