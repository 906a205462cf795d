use Rattle.piece_ir_spec.proofs.ViewsLaw.{views_valid}
use Rattle.piece_ir_spec.proofs.piece_laws.rules_by_views_are_valid.Goals as goal

pub returns : goal.returns
returns c = λ kind views has. views_valid kind views has
