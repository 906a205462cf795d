-- What tests answer together.
use Rattle.std.proofs.Common.{◌≡◌, ℕ, List, [], ◌∷◌, ◌++◌, ◌∙◌}
use Rattle.std.specs.Prelude.{Option, Some, Result, Ok, Err}
use Rattle.prima_base.specs.declared.refusal.OpRefusal.{OpRefusal}
use Rattle.prima_base.specs.declared.fault.CallFault.{CallFault}
use Rattle.prima_base.specs.declared.fault.CallFault.TheVariants.{Refused, NoMemory}
use Rattle.smo_ops_spec.specs.First.{first_refusal}
use Rattle.prima_base.specs.Faults.{IsTested}
use Rattle.smo_ops_spec.proofs.Firsts.{first_after, first_alone}
use Rattle.smo_ops_spec.proofs.StepLaws.{AllMet, all_met}
use Rattle.smo_ops_operators.proofs.TestSteps.{Stops, stops_at}

-- what one test refuses is refused by another that refuses the same
pub tested_on : (f g : Option OpRefusal) (e : CallFault OpRefusal)
    → ((r : OpRefusal) → f ≡ Some r → g ≡ Some r) → IsTested {A = Unit {0}} f (Err e)
    → IsTested {A = Unit {0}} g (Err e)
tested_on f g (Refused r) h t = h r t
tested_on f g NoMemory h t = tt

-- the test of this number stops the tests
pub tests_stop_at : (ps : List (Option OpRefusal)) (i : ℕ) (e : CallFault OpRefusal) → Stops ps i e
    → IsTested {A = Unit {0}} (first_refusal ps) (Err e)
tests_stop_at ps i (Refused r) h = stops_at ps i r h
tests_stop_at ps i NoMemory h = tt

-- the last test decides where those before it are met
pub last_decides : (ps : List (Option OpRefusal)) (q : Option OpRefusal)
    (answer : Result (Unit {0}) (CallFault OpRefusal)) → AllMet ps → IsTested q answer
    → IsTested (first_refusal (ps ++ q ∷ [])) answer
last_decides ps q (Ok u) h t = first_after ps (q ∷ []) (all_met ps h) ∙ first_alone q ∙ t
last_decides ps q (Err (Refused r)) h t = first_after ps (q ∷ []) (all_met ps h) ∙ first_alone q ∙ t
last_decides ps q (Err NoMemory) h t = tt
