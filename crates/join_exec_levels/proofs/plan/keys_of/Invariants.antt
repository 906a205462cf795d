use Rattle.std.proofs.Common.{◌≡◌, ◌++◌, true, List, length, take}
use Rattle.prima_base.specs.declared.value.Value.{Value}
use Rattle.join_exec_spec.specs.Keeping.{meets_all, values_at, borrowed_tests}
use Rattle.join_exec_levels.specs.Places.{own_keys, other_keys}
use Rattle.join_exec_levels.proofs.plan.keys_of.Given as goal

abbrev pub invariant-loop-part : goal.invariant-loop-part
invariant-loop-part l = record {
  own : l.own.items ≡ own_keys l.columns (borrowed_tests (take l.part-index l.parts)) l.taken
      l.width;
  other : l.other.items ≡ other_keys l.columns (borrowed_tests (take l.part-index l.parts)) l.taken
      l.width;
  same : (p y z : List Value) → length p ≡ l.taken → length y ≡ l.width
      → meets_all l.columns (borrowed_tests l.parts) ((p ++ y) ++ z) ≡ true
      → values_at l.other.items y ≡ values_at l.own.items p;
}
