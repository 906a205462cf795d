use Rattle.std.proofs.Common.{◌≡◌, drop}
use Rattle.piece_ir_spec.specs.Books.{stands}
use Rattle.rewrite_rules_book.proofs.kind.stands.Given as goal

abbrev pub invariant-loop-other : goal.invariant-loop-other
invariant-loop-other l = stands l.kind l.kinds ≡ stands l.kind (drop l.other-index l.kinds)
