-- By cases on a test.
use Rattle.std.proofs.Common.{◌≡◌, Bool, true, false, refl, subst}

pub true_false : {X : Type 0} → true ≡ false → X
true_false e = absurd (let P : Bool → Type 0 = λ b.
    elim b as (λ _. Type 0) [ true ↦ Unit {0} | false ↦ ⊥ ] in subst P e tt)

pub by_test : {X : Type 0} (b : Bool) → (b ≡ true → X) → (b ≡ false → X) → X
by_test true f g = f refl
by_test false f g = g refl
