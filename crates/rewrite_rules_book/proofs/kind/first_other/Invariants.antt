use Rattle.std.proofs.Common.{◌≡◌, drop}
use Rattle.std.specs.Prelude.{not}
use Rattle.std.specs.List.{find}
use Rattle.piece_ir_spec.specs.Books.{stands}
use Rattle.rewrite_rules_book.proofs.kind.first_other.Given as goal

abbrev pub invariant-loop-kind : goal.invariant-loop-kind
invariant-loop-kind l = find (λ k. not (stands k l.kinds)) l.every
    ≡ find (λ k. not (stands k l.kinds)) (drop l.kind-index l.every)
