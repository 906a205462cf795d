use Rattle.std.proofs.Common.{◌≡◌, drop}
use Rattle.prima_base.specs.Timed.{vals_cmp}
use Rattle.prima_base.proofs.value.compare_vals.Given as goal

abbrev pub invariant-loop-i : goal.invariant-loop-i
invariant-loop-i l = vals_cmp (drop l.i l.a) (drop l.i l.b) ≡ vals_cmp l.a l.b
