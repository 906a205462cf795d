use Rattle.cond_expr.proofs.TreeLaws.{value_fill, truth_fill}
use Rattle.cond_expr.proofs.KindLaws.{kind_fill, typed_fill}
use Rattle.cond_expr.proofs.laws.filling_is_substitution.Goals as goal

pub returns-clause-value : goal.returns-clause-value
returns-clause-value c = value_fill

pub returns-clause-truth : goal.returns-clause-truth
returns-clause-truth c = truth_fill

pub returns-clause-kind : goal.returns-clause-kind
returns-clause-kind c = kind_fill

pub returns-clause-typed : goal.returns-clause-typed
returns-clause-typed c = typed_fill
