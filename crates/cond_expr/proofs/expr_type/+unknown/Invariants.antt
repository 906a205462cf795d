use Rattle.std.proofs.Common.{◌≡◌, map, drop}
use Rattle.cond_expr.specs.Seen.{tree, test, trees_of, tests_of}
use Rattle.cond_expr.specs.Kinds.{kinds_of}
use Rattle.cond_expr.specs.Faults.{trees_references, tests_references, first_unknown}
use Rattle.cond_expr.proofs.expr_type.+unknown.Given as goal

abbrev pub invariant-first_unknown_of_list-loop-part :
    goal.invariant-first_unknown_of_list-loop-part
invariant-first_unknown_of_list-loop-part l =
    first_unknown (kinds_of l.columns) (trees_references (trees_of (map tree l.list)))
    ≡ first_unknown (kinds_of l.columns) (trees_references
    (trees_of (map tree (drop l.part-index l.list))))

abbrev pub invariant-first_unknown_of_conds-loop-part :
    goal.invariant-first_unknown_of_conds-loop-part
invariant-first_unknown_of_conds-loop-part l =
    first_unknown (kinds_of l.columns) (tests_references (tests_of (map test l.list)))
    ≡ first_unknown (kinds_of l.columns) (tests_references
    (tests_of (map test (drop l.part-index l.list))))
