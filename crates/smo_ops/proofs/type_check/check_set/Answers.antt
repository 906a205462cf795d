use Rattle.std.proofs.Common.{◌<◌, arith}
use Rattle.cond_expr.specs.Seen.{tree}
use Rattle.cond_expr.specs.Sizes.{nodes_of}
use Rattle.cond_expr.specs.Kinds.{kinds_of}
use Rattle.smo_ops_spec.proofs.Places.{place_in_tree}
use Rattle.smo_ops.proofs.type_check.check_set.Goals as goal

pub overflow_add-result-in-Err : goal.overflow_add-result-in-Err
overflow_add-result-in-Err c =
    let below : c.in-Err.place < nodes_of (tree c.args.expr.now) =
    place_in_tree (kinds_of c.atoms.result.now) (tree c.args.expr.now) c.in-Err.place
    c.in-Err.ensures.place in
    omega (arith, c.requires.room)
