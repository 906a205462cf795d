use Rattle.script_parse.proofs.Joins.{statements_again, tail_again}
use Rattle.script_parse.proofs.laws.statements_are_of_a_script.Goals as goal

pub returns-clause-statements : goal.returns-clause-statements
returns-clause-statements c = statements_again

pub returns-clause-tail : goal.returns-clause-tail
returns-clause-tail c = tail_again
