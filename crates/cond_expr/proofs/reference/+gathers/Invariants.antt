use Rattle.std.proofs.Common.{◌≡◌, ◌++◌, map, drop}
use Rattle.cond_expr.specs.Seen.{tree, test, trees_of, tests_of}
use Rattle.cond_expr.specs.Faults.{trees_references, tests_references}
use Rattle.cond_expr.specs.References.{borrowed}
use Rattle.cond_expr.proofs.reference.+gathers.Given as goal

abbrev pub invariant-gather_list-loop-part : goal.invariant-gather_list-loop-part
invariant-gather_list-loop-part l = borrowed l.into.items
    ++ trees_references (trees_of (map tree (drop l.part-index l.list)))
    ≡ borrowed l.initial.into.items ++ trees_references (trees_of (map tree l.list))

abbrev pub invariant-gather_conds-loop-part : goal.invariant-gather_conds-loop-part
invariant-gather_conds-loop-part l = borrowed l.into.items
    ++ tests_references (tests_of (map test (drop l.part-index l.list)))
    ≡ borrowed l.initial.into.items ++ tests_references (tests_of (map test l.list))
