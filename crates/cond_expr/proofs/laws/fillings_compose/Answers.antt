use Rattle.cond_expr.proofs.TreeLaws.{fill_twice, test_fill_twice, fill_itself, test_fill_itself}
use Rattle.cond_expr.proofs.laws.fillings_compose.Goals as goal

pub returns-clause-tree : goal.returns-clause-tree
returns-clause-tree c = fill_twice

pub returns-clause-test : goal.returns-clause-test
returns-clause-test c = test_fill_twice

pub returns-clause-itself : goal.returns-clause-itself
returns-clause-itself c = fill_itself

pub returns-clause-test_itself : goal.returns-clause-test_itself
returns-clause-test_itself c = test_fill_itself
