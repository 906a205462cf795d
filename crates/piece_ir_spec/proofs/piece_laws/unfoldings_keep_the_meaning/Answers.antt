use Rattle.piece_ir_spec.proofs.ViewsLaw.{keeps_meaning}
use Rattle.piece_ir_spec.proofs.piece_laws.unfoldings_keep_the_meaning.Goals as goal

pub returns : goal.returns
returns c = λ tables op views p accepted given typed.
    keeps_meaning tables op views accepted given p typed
