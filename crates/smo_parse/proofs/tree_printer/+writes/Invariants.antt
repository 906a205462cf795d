use Rattle.std.proofs.Common.{◌≡◌, ◌++◌, map, take, drop, length}
use Rattle.cond_expr.specs.Seen.{tree, test, trees_of, tests_of}
use Rattle.smo_parse.specs.TreeTexts.{more_trees_text, more_tests_text}
use Rattle.smo_parse.proofs.tree_printer.+writes.Given as goal

abbrev pub invariant-write_more_exprs-loop-part : goal.invariant-write_more_exprs-loop-part
invariant-write_more_exprs-loop-part l = (l.out.items
    ++ more_trees_text l.numbered (trees_of (map tree (drop l.part-index l.parts)))
    ≡ l.initial.out.items ++ more_trees_text l.numbered (trees_of (map tree l.parts)))
    × (take (length l.initial.out.items) l.out.items ≡ l.initial.out.items)

abbrev pub invariant-write_more_conds-loop-part : goal.invariant-write_more_conds-loop-part
invariant-write_more_conds-loop-part l = (l.out.items
    ++ more_tests_text l.numbered l.word (tests_of (map test (drop l.part-index l.parts)))
    ≡ l.initial.out.items ++ more_tests_text l.numbered l.word (tests_of (map test l.parts)))
    × (take (length l.initial.out.items) l.out.items ≡ l.initial.out.items)
