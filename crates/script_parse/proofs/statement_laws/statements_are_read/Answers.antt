use Rattle.script_parse.proofs.ReadingLaws.{are_read}
use Rattle.script_parse.proofs.statement_laws.statements_are_read.Goals as goal

pub returns : goal.returns
returns c = are_read
