use Rattle.std.proofs.Common.{◌≡◌, drop}
use Rattle.prima_base.specs.Bytes.{first_control, first_from, is_control}
use Rattle.prima_base.proofs.text.first_control.Given as goal

abbrev pub invariant-loop-i : goal.invariant-loop-i
invariant-loop-i l = first_from is_control l.i (drop l.i l.bytes) ≡ first_control l.bytes
