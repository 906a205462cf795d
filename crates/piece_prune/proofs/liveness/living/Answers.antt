use Rattle.piece_ir.specs.Shown.{shown_pieces}
use Rattle.piece_prune.proofs.Pruned.{mean_the_same}
use Rattle.piece_prune.proofs.liveness.living.Goals as goal

pub returns-clause-means : goal.returns-clause-means
returns-clause-means c = λ db d. mean_the_same c.args.before.now db d
    (shown_pieces c.args.pieces.items) (shown_pieces c.left.result.items) c.left.ensures.living
