use Rattle.std.proofs.Common.{◌≡◌, ◌++◌, drop, map}
use Rattle.cond_expr.specs.Seen.{test, tests_of}
use Rattle.cond_expr.specs.Parts.{all_parts}
use Rattle.piece_prune.proofs.PartSteps.{own_filled}
use Rattle.piece_prune.proofs.pushed_part.+parts.Given as goal

abbrev pub invariant-push_parts_of-loop-member : goal.invariant-push_parts_of-loop-member
invariant-push_parts_of-loop-member l =
    map test l.into.items ++ own_filled l.atom
    (all_parts (tests_of (map test (drop l.member-index l.members))))
    ≡ map test l.initial.into.items ++ own_filled l.atom
    (all_parts (tests_of (map test l.members)))
