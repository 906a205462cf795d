use Rattle.std.proofs.Common.{◌≡◌, map, drop}
use Rattle.cond_expr.specs.Seen.{tree, test, trees_of, tests_of}
use Rattle.piece_ir.specs.Sameness.{same_trees, same_tests}
use Rattle.piece_ir.proofs.sameness.+same.Given as goal

abbrev pub invariant-same_exprs-loop-one : goal.invariant-same_exprs-loop-one
invariant-same_exprs-loop-one l = same_trees (trees_of (map tree l.a)) (trees_of (map tree l.b))
    ≡ same_trees (trees_of (map tree (drop l.one-index l.a))) (trees_of (map tree l.others))

abbrev pub invariant-same_conds-loop-one : goal.invariant-same_conds-loop-one
invariant-same_conds-loop-one l = same_tests (tests_of (map test l.a)) (tests_of (map test l.b))
    ≡ same_tests (tests_of (map test (drop l.one-index l.a))) (tests_of (map test l.others))
