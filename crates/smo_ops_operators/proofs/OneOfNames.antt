-- One of at most two names.
use Rattle.std.proofs.Common.{◌≡◌, ℕ, Bool, true, false, List, refl, ap, ◌∙◌}
use Rattle.std.specs.Prelude.{Option, Some, None, ◌||◌}
use Rattle.prima_base.specs.Order.{same}
use Rattle.smo_ops_spec.specs.Preconditions.{among}
use Rattle.smo_ops_spec.specs.Touching.{these_names}

or_false : (b : Bool) → (b || false) ≡ b
or_false true = refl
or_false false = refl

pub first_named : (first second : Option (List ℕ)) (a name : List ℕ) → first ≡ Some a
    → same name a ≡ true → among name (these_names first second) ≡ true
first_named first None a name is e = ap (λ o. among name (these_names o None)) is
    ∙ ap (λ b. b || false) e
first_named first (Some b) a name is e = ap (λ o. among name (these_names o (Some b))) is
    ∙ ap (λ x. x || (same name b || false)) e

pub no_second : (first second : Option (List ℕ)) (a name : List ℕ) → first ≡ Some a → second ≡ None
    → same name a ≡ false → among name (these_names first second) ≡ false
no_second first second a name is none e = ap (λ o. among name (these_names o second)) is
    ∙ ap (λ o. among name (these_names (Some a) o)) none ∙ ap (λ b. b || false) e

pub second_named : (first second : Option (List ℕ)) (a b name : List ℕ) → first ≡ Some a
    → second ≡ Some b → same name a ≡ false → among name (these_names first second) ≡ same name b
second_named first second a b name is also e =
    ap (λ o. among name (these_names o second)) is
    ∙ ap (λ o. among name (these_names (Some a) o)) also
    ∙ ap (λ x. x || (same name b || false)) e ∙ or_false (same name b)
