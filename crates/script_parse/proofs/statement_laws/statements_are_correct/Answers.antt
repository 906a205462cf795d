use Rattle.script_parse.proofs.StatementCorrectness.{statement_correct}
use Rattle.script_parse.proofs.statement_laws.statements_are_correct.Goals as goal

pub returns : goal.returns
returns c = statement_correct
