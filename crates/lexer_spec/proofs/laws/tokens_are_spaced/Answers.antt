use Rattle.lexer_spec.proofs.Shapes.{spaced}
use Rattle.lexer_spec.proofs.laws.tokens_are_spaced.Goals as goal

pub returns : goal.returns
returns c = spaced
