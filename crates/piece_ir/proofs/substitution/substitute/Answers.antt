use Rattle.std.proofs.Common.{ap, ◌∙◌}
use Rattle.cond_expr.specs.Seen.{tree}
use Rattle.piece_ir_spec.specs.Pieces.{means}
use Rattle.piece_ir.specs.Shown.{piece_of}
use Rattle.piece_ir.proofs.PutPieces.{put_means}
use Rattle.piece_ir.proofs.substitution.substitute.Goals as goal

pub returns-clause-means : goal.returns-clause-means
returns-clause-means c = λ tables db own. ap (means tables db) c.in_ok-put.ensures
    ∙ put_means tables db (piece_of c.args.piece.now) c.args.atom c.args.column.now
    (tree c.args.expr.now) own
