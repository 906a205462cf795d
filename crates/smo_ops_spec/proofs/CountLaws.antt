-- The counts of a list's members up to a limit, and then of one too many.
use Rattle.std.proofs.Common.{◌≡◌, ◌<◌, ◌≤◌, ℕ, Bool, true, false, List, [], ◌∷◌, ◌++◌, length, map}
use Rattle.std.proofs.Common.{take, min, refl, sym, ap, ◌∙◌, arith}
use Rattle.std.specs.Prelude.{Some, None, nat_le}
use Rattle.std.specs.List.{flat_map}
use Rattle.std.proofs.lemmas.List.{take-map, take_min, length-map}
use Rattle.prima_base.specs.declared.refusal.What.{What}
use Rattle.smo_ops_spec.specs.First.{unless, first_refusal}
use Rattle.smo_ops_spec.specs.Counts.{Excess, at_most}
use Rattle.smo_ops_spec.proofs.Firsts.{first_after, first_before}

above : (what : What) (limit n : ℕ) (b : Bool) → nat_le n limit ≡ b → limit < n
    → unless {R = What × ℕ} b (what, limit) ≡ Some (what, limit)
above what limit n true e l = absurd (grind (arith, e, l))
above what limit n false e l = refl

within : (what : What) (limit n : ℕ) (b : Bool) → nat_le n limit ≡ b → n ≤ limit
    → unless {R = What × ℕ} b (what, limit) ≡ None
within what limit n true e l = refl
within what limit n false e l = absurd (grind (arith, e, l))

module _ {A B : Type 0} (f : B → List Excess) (g : A → B) (xs : List A) (what : What) (limit m : ℕ)
    (is : m ≡ min (length xs) limit) where
  abbrev pub limited : List Excess
  limited = flat_map f (take limit (map g xs)) ++ at_most what limit (length (map g xs)) ∷ []

  smaller : m ≡ min limit (length xs)
  smaller = omega arith

  prefix : map g (take m xs) ≡ take limit (map g xs)
  prefix = ap (λ k. map g (take k xs)) smaller ∙ ap (map g) (take_min limit xs)
      ∙ sym (take-map g limit xs)

  count : length (map g xs) ≡ length xs
  count = length-map xs g

  pub limited_before : (e : What × ℕ) → Some e ≡ first_refusal (flat_map f (map g (take m xs)))
      → Some e ≡ first_refusal limited
  limited_before e h = sym (first_before (flat_map f (take limit (map g xs))) _ e
      (ap (λ ys. first_refusal (flat_map f ys)) (sym prefix) ∙ sym h))

  members : None ≡ first_refusal (flat_map f (map g (take m xs)))
      → first_refusal limited ≡ at_most what limit (length (map g xs))
  members h =
      first_after (flat_map f (take limit (map g xs))) (at_most what limit (length (map g xs)) ∷ [])
      (ap (λ ys. first_refusal (flat_map f ys)) (sym prefix) ∙ sym h)
      ∙ alone (at_most what limit (length (map g xs)))
    where
      alone : (x : Excess) → first_refusal (x ∷ []) ≡ x
      alone None = refl
      alone (Some e) = refl

  pub limited_above : None ≡ first_refusal (flat_map f (map g (take m xs))) → limit < length xs
      → Some (what, limit) ≡ first_refusal limited
  limited_above h l = sym (members h ∙ above what limit (length (map g xs)) _ refl
      (omega (arith, count)))

  pub limited_within : None ≡ first_refusal (flat_map f (map g (take m xs))) → length xs ≤ limit
      → None ≡ first_refusal limited
  limited_within h l = sym (members h ∙ within what limit (length (map g xs)) _ refl
      (omega (arith, count)))
