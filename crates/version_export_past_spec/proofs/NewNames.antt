-- Names that are new among those before them, as those of an ascending list are.
use Rattle.std.proofs.Common.{◌≡◌, ℕ, Bool, true, false, List, [], ◌∷◌, ◌++◌, refl, subst, inl, inr}
use Rattle.std.specs.declared.cmp.Ordering.TheVariants.{Less}
use Rattle.relations_spec.specs.Sets.{In, Ascends}
use Rattle.relations_spec.proofs.SetLaws.{in_append, before_in}
use Rattle.prima_base.specs.Order.{bytes_cmp}
use Rattle.prima_base.specs.OrderLaws.{bytes_exact}
use Rattle.smo_ops_spec.specs.Preconditions.{among}
use Rattle.smo_ops_spec.proofs.NameLaws.{among_in}

module _ (n : List ℕ) (before names : List (List ℕ))
    (h : (m : List ℕ) → In m (n ∷ names) → ¬ In m before)
    (a : Ascends bytes_cmp (n ∷ names)) where
  by_test : (b : Bool) → among n before ≡ b → among n before ≡ false
  by_test true e = absurd (h n (inl refl) (among_in n before e))
  by_test false e = e

  -- the first is not among those before it
  pub is_new : among n before ≡ false
  is_new = by_test (among n before) refl

  -- the others are new after it too
  pub are_new_after : (m : List ℕ) → In m names → ¬ In m (before ++ n ∷ [])
  are_new_after m i = λ j. elim (in_append m before (n ∷ []) j) [
    | inl x ↦ h m (inr i) x
    | inr y ↦ elim y [
      | inl q ↦ bytes_exact.apart m (subst (λ (z : List ℕ). bytes_cmp z m ≡ Less) q
          (before_in bytes_cmp n m names a.0 i))
      | inr z ↦ absurd z
    ]
  ]
