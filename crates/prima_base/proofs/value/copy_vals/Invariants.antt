use Rattle.std.proofs.Common.{◌≡◌, take, map}
use Rattle.prima_base.specs.Order.{shown, is_borrowed}
use Rattle.prima_base.proofs.value.copy_vals.Given as goal

abbrev pub invariant-loop-value : goal.invariant-loop-value
invariant-loop-value l = record {
  values : map shown l.copies.items ≡ map shown (take l.value-index l.values);
  borrowed : map is_borrowed l.copies.items ≡ map is_borrowed (take l.value-index l.values);
}
