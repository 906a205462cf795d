use Rattle.lexer_spec.proofs.Once.{lexes_once}
use Rattle.lexer_spec.proofs.laws.lexes_once.Goals as goal

pub returns : goal.returns
returns c = lexes_once
