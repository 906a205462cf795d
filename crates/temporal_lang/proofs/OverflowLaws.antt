-- A refusal that is passed on by a step of the check.
use Rattle.std.specs.Prelude.{◌≡◌, Some, Err}
use Rattle.prima_base.specs.declared.refusal.Refusal.{Refusal}
use Rattle.prima_base.specs.declared.fault.CallFault.{CallFault}
use Rattle.prima_base.specs.declared.fault.CallFault.TheVariants.{Refused, NoMemory}
use Rattle.smo_ops_spec.specs.Checks.{Fault}
use Rattle.prima_base.specs.Faults.{IsTested}

-- what is refused by one test is refused by tests of which it is the first that is not met
pub passed_on : (f g : Fault) (e : CallFault Refusal) → ((r : Refusal) → f ≡ Some r → g ≡ Some r)
    → IsTested {A = Unit {0}} f (Err e) → IsTested {A = Unit {0}} g (Err e)
passed_on f g (Refused r) h c = h r c
passed_on f g NoMemory h c = tt
