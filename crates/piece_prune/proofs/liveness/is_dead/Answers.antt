use Rattle.piece_ir.specs.Shown.{piece_of}
use Rattle.piece_ir_spec.specs.Typed.{atom_kinds}
use Rattle.piece_prune.proofs.Pruned.{means_nothing}
use Rattle.piece_prune.proofs.liveness.is_dead.Goals as goal

pub returns-clause-means : goal.returns-clause-means
returns-clause-means c = λ is db d. means_nothing c.args.before.now db d
    (piece_of c.args.piece.now)
    ((c.is_dead.ensures.exact (atom_kinds c.args.before.now (piece_of c.args.piece.now).atoms)
    c.requires.cond).0 is)
