use Rattle.std.proofs.Common.{◌≡◌, map, drop}
use Rattle.cond_expr.specs.Seen.{tree, test, trees_of, tests_of}
use Rattle.cond_expr.specs.Faults.{trees_references, tests_references}
use Rattle.piece_ir.specs.Substituting.{names_column}
use Rattle.piece_ir.proofs.reference.+names.Given as goal

abbrev pub invariant-exprs_name-loop-part : goal.invariant-exprs_name-loop-part
invariant-exprs_name-loop-part l = names_column l.atom l.column
    (trees_references (trees_of (map tree l.parts)))
    ≡ names_column l.atom l.column (trees_references
    (trees_of (map tree (drop l.part-index l.parts))))

abbrev pub invariant-conds_name-loop-part : goal.invariant-conds_name-loop-part
invariant-conds_name-loop-part l = names_column l.atom l.column
    (tests_references (tests_of (map test l.parts)))
    ≡ names_column l.atom l.column (tests_references
    (tests_of (map test (drop l.part-index l.parts))))
