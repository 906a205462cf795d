use Rattle.std.proofs.Common.{◌≡◌, ◌++◌, map, drop}
use Rattle.cond_expr.specs.Seen.{test, tests_of}
use Rattle.join_exec_spec.specs.Keeping.{borrowed_tests}
use Rattle.cond_expr.specs.Parts.{all_parts as all_parts}
use Rattle.join_exec_levels.proofs.part.+parts.Given as goal

abbrev pub invariant-gather_all-loop-cond : goal.invariant-gather_all-loop-cond
invariant-gather_all-loop-cond l = borrowed_tests l.into.items
    ++ all_parts (tests_of (map test (drop l.cond-index l.conds)))
    ≡ borrowed_tests l.initial.into.items ++ all_parts (tests_of (map test l.conds))
