use Rattle.std.proofs.Common.{◌≡◌, ◌++◌, drop, map}
use Rattle.cond_expr.specs.Seen.{test, tests_of}
use Rattle.cond_expr.specs.Trees.{fill_tests}
use Rattle.cond_expr.specs.Parts.{all_parts_but_true as all_parts}
use Rattle.piece_ir.proofs.unfolded.+parts.Given as goal

abbrev pub invariant-append_lists-loop-cond : goal.invariant-append_lists-loop-cond
invariant-append_lists-loop-cond g l = map test l.parts.items
    ++ all_parts (fill_tests (g.F.Fill.puts l.by) (tests_of (map test (drop l.cond-index l.list))))
    ≡ map test l.initial.parts.items ++ all_parts
    (fill_tests (g.F.Fill.puts l.by) (tests_of (map test l.list)))
