use Rattle.piece_prune.proofs.PushedTypes.{pushed_typed}
use Rattle.piece_prune.proofs.laws.pushed_conditions_have_types.Goals as goal

pub returns : goal.returns
returns c = λ columns i c2 typed. pushed_typed columns i c2 typed
