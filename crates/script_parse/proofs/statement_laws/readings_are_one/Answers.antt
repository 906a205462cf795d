use Rattle.script_parse.proofs.OneReading.{are_one}
use Rattle.script_parse.proofs.statement_laws.readings_are_one.Goals as goal

pub returns : goal.returns
returns c = are_one
