use Rattle.std.proofs.Common.{◌≡◌}
use Rattle.cond_expr.proofs.TreeLaws.{value_like, truth_like}
use Rattle.cond_expr.proofs.laws.values_depend_on_references_alone.Goals as goal

pub returns-clause-value : goal.returns-clause-value
returns-clause-value c = λ at by t within. value_like (λ w n. at w n ≡ by w n) at by (λ w n e. e) t
    within

pub returns-clause-truth : goal.returns-clause-truth
returns-clause-truth c = λ at by d within. truth_like (λ w n. at w n ≡ by w n) at by (λ w n e. e) d
    within
