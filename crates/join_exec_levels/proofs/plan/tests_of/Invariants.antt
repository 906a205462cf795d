use Rattle.std.proofs.Common.{◌≡◌, ◌++◌, true, List, length}
use Rattle.prima_base.specs.declared.value.Value.{Value}
use Rattle.join_exec_spec.specs.Keeping.{meets_all, borrowed_tests}
use Rattle.join_exec_levels.proofs.plan.tests_of.Given as goal

abbrev pub invariant-loop-part : goal.invariant-loop-part
invariant-loop-part l = (p y z : List Value) → length p ≡ l.taken → length y ≡ l.width
    → meets_all l.columns (borrowed_tests l.parts) ((p ++ y) ++ z) ≡ true
    → meets_all l.columns (borrowed_tests l.tests.items) (p ++ y) ≡ true
