use Rattle.std.proofs.Common.{refl}
use Rattle.lexer_spec.proofs.Slices.{in_place}
use Rattle.lexer_spec.proofs.laws.tokens_in_place.Goals as goal

pub returns : goal.returns
returns c text ts e h = in_place text 0 text ts e refl h
