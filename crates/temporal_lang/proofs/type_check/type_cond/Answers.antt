use Rattle.std.proofs.Common.{◌<◌, arith}
use Rattle.cond_expr.specs.Seen.{test}
use Rattle.cond_expr.specs.Sizes.{test_nodes}
use Rattle.cond_expr.specs.Kinds.{kinds_of}
use Rattle.smo_ops_spec.proofs.Places.{place_in_test}
use Rattle.temporal_lang.proofs.type_check.type_cond.Goals as goal

pub overflow_add-result : goal.overflow_add-result
overflow_add-result c =
    let below : c.in-Err.place < test_nodes (test c.args.cond.now) =
    place_in_test (kinds_of c.args.columns.now) (test c.args.cond.now) c.in-Err.place
    c.in-Err.ensures.place in
    omega (arith, c.requires.room)
