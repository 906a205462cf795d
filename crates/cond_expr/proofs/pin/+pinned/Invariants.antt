use Rattle.std.proofs.Common.{◌≡◌, map, drop}
use Rattle.cond_expr.specs.Seen.{test, tests_of}
use Rattle.cond_expr.specs.Parts.{all_parts}
use Rattle.cond_expr.specs.PinnedParts.{first_pinned}
use Rattle.cond_expr.proofs.pin.+pinned.Given as goal

abbrev pub invariant-pinned_of_all-loop-part : goal.invariant-pinned_of_all-loop-part
invariant-pinned_of_all-loop-part l = first_pinned l.op l.column
    (all_parts (tests_of (map test l.list))) ≡ first_pinned l.op l.column
    (all_parts (tests_of (map test (drop l.part-index l.list))))
