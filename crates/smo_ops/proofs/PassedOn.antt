-- A refusal that is passed on.
use Rattle.std.proofs.Common.{◌≡◌, ℕ, List, refl, sym, ◌∙◌, inl, inr}
use Rattle.std.specs.Prelude.{◌⊎◌, Some, None, Result, Ok, Err, IsOkUnless, IsErrOf}
use Rattle.prima_base.specs.declared.refusal.Refusal.{Refusal}
use Rattle.prima_base.specs.declared.fault.CallFault.{CallFault}
use Rattle.prima_base.specs.declared.fault.CallFault.TheVariants.{Refused, NoMemory}
use Rattle.smo_ops_spec.specs.First.{first_refusal}
use Rattle.prima_base.specs.Faults.{IsTested}
use Rattle.smo_ops_spec.specs.Checks.{Fault}
use Rattle.smo_ops.specs.Walks.{IsWalked}

-- what is refused by one test is refused by tests of which it is the first that is not met
pub passed_on : (f g : Fault) (e : CallFault Refusal) → ((r : Refusal) → f ≡ Some r → g ≡ Some r)
    → IsTested {A = ℕ} f (Err e) → IsTested {A = Unit {0}} g (Err e)
passed_on f g (Refused r) h c = h r c
passed_on f g NoMemory h c = tt

-- the same of a walk
pub walked_on : (a b : List Fault) (m n : ℕ) (e : CallFault Refusal)
    → ((r : Refusal) → first_refusal a ≡ Some r → first_refusal b ≡ Some r) → IsWalked a m (Err e)
    → IsWalked b n (Err e)
walked_on a b m n (Refused r) h c = h r c
walked_on a b m n NoMemory h c = tt

-- the same of a walk of which it is a part
pub test_walked : (f : Fault) (b : List Fault) (n : ℕ) (e : CallFault Refusal)
    → ((r : Refusal) → f ≡ Some r → first_refusal b ≡ Some r)
    → IsTested {A = Unit {0}} f (Err e) → IsWalked b n (Err e)
test_walked f b n (Refused r) h c = h r c
test_walked f b n NoMemory h c = tt

-- what is checked is answered
pub accepted : {A : Type 0} (f : Fault) (r : Result A (CallFault Refusal)) → IsTested f r → f ≡ None
    → IsOkUnless r NoMemory
accepted f (Ok u) c e = tt
accepted f (Err (Refused q)) c e = absurd (cc)
accepted f (Err NoMemory) c e = refl

same_refusal : (p q : Refusal) → Some p ≡ Some q → p ≡ q
same_refusal p q e = (cc)

pub refused : {A : Type 0} (f : Fault) (r : Result A (CallFault Refusal)) → IsTested f r
    → (q : Refusal) → f ≡ Some q → IsErrOf r (Refused q) ⊎ IsErrOf r NoMemory
refused f (Ok u) c q e = absurd (cc)
refused f (Err (Refused p)) c q e = inl (let same : p ≡ q = same_refusal p q (sym c ∙ e) in cc)
refused f (Err NoMemory) c q e = inr refl
