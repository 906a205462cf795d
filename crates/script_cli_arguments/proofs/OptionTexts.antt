-- The text of an option is its name, and a `=` with its value where it has one.
use Rattle.std.proofs.Common.{◌≡◌, ℕ, Bool, true, false, [], ◌∷◌, ◌++◌, refl, ap, ap₂, sym, ◌∙◌}
use Rattle.std.proofs.Common.{Some, None, eqb-true, add-one, one-add}
use Rattle.script_cli_arguments.specs.Arguments.{Word, option_name, option_value, is_equals}

module _ (a : ℕ) (text : Word) where
  name_here : is_equals a ≡ true → option_name (a ∷ text) ≡ []
  name_here e = rw e

  name_past : is_equals a ≡ false → option_name (a ∷ text) ≡ a ∷ option_name text
  name_past e = rw (e, one-add)

  value_here : is_equals a ≡ true → option_value (a ∷ text) ≡ Some text
  value_here e = rw e

  value_past : is_equals a ≡ false → option_value (a ∷ text) ≡ option_value text
  value_past e = rw (e, one-add, add-one, add-one)

  no_value_here : (b : Bool) → is_equals a ≡ b
      → (option_value text ≡ None → option_name text ≡ text)
      → option_value (a ∷ text) ≡ None → option_name (a ∷ text) ≡ a ∷ text
  no_value_here true e later h = let here : Some text ≡ None = sym (value_here e) ∙ h in absurd (cc)
  no_value_here false e later h = name_past e
      ∙ ap (λ (t : Word). a ∷ t) (later (sym (value_past e) ∙ h))

  value_is_here : (b : Bool) (value : Word) → is_equals a ≡ b
      → (option_value text ≡ Some value → text ≡ option_name text ++ 61 ∷ value)
      → option_value (a ∷ text) ≡ Some value → a ∷ text ≡ option_name (a ∷ text) ++ 61 ∷ value
  value_is_here true value e later h =
      let here : Some text ≡ Some value = sym (value_here e) ∙ h in
      let same : text ≡ value = cc in
      ap₂ (λ (x : ℕ) (t : Word). x ∷ t) (eqb-true a 61 e) same
      ∙ ap (λ (t : Word). t ++ 61 ∷ value) (sym (name_here e))
  value_is_here false value e later h =
      ap (λ (t : Word). a ∷ t) (later (sym (value_past e) ∙ h))
      ∙ ap (λ (t : Word). t ++ 61 ∷ value) (sym (name_past e))

pub name_alone : (text : Word) → option_value text ≡ None → option_name text ≡ text
name_alone [] h = refl
name_alone (a ∷ text) h = no_value_here a text (is_equals a) refl (name_alone text) h

pub name_and_value : (text value : Word) → option_value text ≡ Some value
    → text ≡ option_name text ++ 61 ∷ value
name_and_value [] value h = absurd (cc)
name_and_value (a ∷ text) value h = value_is_here a text (is_equals a) value refl
    (name_and_value text value) h
