use Rattle.cond_expr_dead.proofs.DeadLaws.{dead_holds_of_nothing}
use Rattle.cond_expr_dead.proofs.laws.a_dead_condition_holds_of_no_values.Goals as goal

pub returns : goal.returns
returns c = λ of at t fits valid dead. dead_holds_of_nothing of at t fits valid dead
