use Rattle.script_parse.proofs.TextLexing.{texts_are_lexed}
use Rattle.script_parse.proofs.statement_laws.texts_are_lexed.Goals as goal

pub returns : goal.returns
returns c = texts_are_lexed
