-- What a walk over the trees of a change has found: the number of the node after them, or the first
-- refusal.
use Rattle.std.specs.Prelude.{◌≡◌, ℕ, List, Result}
use Rattle.prima_base.specs.declared.refusal.Refusal.{Refusal}
use Rattle.prima_base.specs.declared.fault.CallFault.{CallFault}
use Rattle.prima_base.specs.Faults.{IsTestedAs}
use Rattle.smo_ops_spec.specs.First.{first_refusal}
use Rattle.smo_ops_spec.specs.Checks.{Fault}

abbrev pub IsWalked : List Fault → ℕ → Result ℕ (CallFault Refusal) → Type 0
IsWalked tests after answer = IsTestedAs (λ next. next ≡ after) (first_refusal tests) answer
