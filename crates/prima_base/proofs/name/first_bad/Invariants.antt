use Rattle.std.proofs.Common.{◌≡◌, drop}
use Rattle.std.specs.Prelude.{not}
use Rattle.prima_base.specs.Bytes.{first_bad, first_from, is_name_byte}
use Rattle.prima_base.proofs.name.first_bad.Given as goal

abbrev pub invariant-loop-i : goal.invariant-loop-i
invariant-loop-i l = first_from (λ c. not (is_name_byte c)) l.i (drop l.i l.bytes)
    ≡ first_bad l.bytes
