use Rattle.std.proofs.Common.{◌≡◌, take, drop}
use Rattle.piece_ir_spec.specs.Books.{first_twice, twice_after}
use Rattle.rewrite_rules_book.proofs.kind.first_twice.Given as goal

abbrev pub invariant-loop-i : goal.invariant-loop-i
invariant-loop-i l = first_twice l.kinds ≡ twice_after (take l.i l.kinds) (drop l.i l.kinds)
