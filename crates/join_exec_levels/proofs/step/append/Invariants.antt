use Rattle.std.proofs.Common.{◌≡◌, ◌++◌, map, take}
use Rattle.prima_base.specs.Order.{shown, is_borrowed}
use Rattle.join_exec_levels.proofs.step.append.Given as goal

abbrev pub invariant-loop-value : goal.invariant-loop-value
invariant-loop-value l = record {
  values : map shown l.into.items ≡ map shown l.fn.into.items
      ++ map shown (take l.value-index l.values);
  same : map is_borrowed l.into.items ≡ map is_borrowed l.fn.into.items
      ++ map is_borrowed (take l.value-index l.values);
}
