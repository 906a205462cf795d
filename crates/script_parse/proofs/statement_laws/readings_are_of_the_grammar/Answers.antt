use Rattle.script_parse.proofs.ReadingLaws.{of_the_grammar}
use Rattle.script_parse.proofs.statement_laws.readings_are_of_the_grammar.Goals as goal

pub returns : goal.returns
returns c = of_the_grammar
