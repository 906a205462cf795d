-- What a test answers.
use Rattle.std.specs.Prelude.{◌≡◌, Option, Some, None, Result, Ok, Err, ⊤}
use Rattle.prima_base.specs.declared.fault.CallFault.{CallFault}
use Rattle.prima_base.specs.declared.fault.CallFault.TheVariants.{Refused, NoMemory}

-- the test is met, or its refusal is answered; where memory runs out nothing is said
abbrev pub IsTested : {A : Type 0} {R : Type 0} → Option R → Result A (CallFault R) → Type 0
IsTested refusal (Ok a) = refusal ≡ None
IsTested refusal (Err (Refused r)) = refusal ≡ Some r
IsTested refusal (Err NoMemory) = ⊤

-- the test is met, and what is answered is so; else as above
abbrev pub IsTestedAs : {A : Type 0} {R : Type 0} → (A → Type 0) → Option R
    → Result A (CallFault R) → Type 0
IsTestedAs so refusal (Ok a) = (refusal ≡ None) × so a
IsTestedAs so refusal (Err (Refused r)) = refusal ≡ Some r
IsTestedAs so refusal (Err NoMemory) = ⊤
