-- Where the first member that meets a test stands, and which one it is.
use Rattle.std.specs.Prelude.{◌≡◌, ℕ, suc, ◌+◌, ◌<◌, Bool, true, false, cond, not, List, [], ◌∷◌}
use Rattle.std.specs.Prelude.{map, length, Some, None}
use Rattle.std.proofs.Common.{refl, sym, ap, subst, ◌∙◌, get_or, arith}
use Rattle.std.specs.List.{find, position_or_len}

one_more : (n : ℕ) → 1 + n ≡ suc n
one_more n = omega arith

module _ {X Y : Type 0} (test : Y → Bool) (f : X → Y) where
  -- none meets it where the place is the number of members
  pub nowhere : (xs : List X) → position_or_len test (map f xs) ≡ length xs
      → find test (map f xs) ≡ None
  nowhere [] e = refl
  nowhere (x ∷ xs) e = step (nowhere xs) (test (f x)) refl
    where
      step : (position_or_len test (map f xs) ≡ length xs → find test (map f xs) ≡ None)
          → (b : Bool) → test (f x) ≡ b → cond (test (f x)) (Some (f x)) (find test (map f xs))
          ≡ None
      step rec true q = absurd (let none : 0 ≡ length (x ∷ xs) =
          sym (ap (λ b. cond (not b) (1 + position_or_len test (map f xs)) 0) q) ∙ e in
          omega (arith, none))
      step rec false q =
          let same : 1 + position_or_len test (map f xs) ≡ length (x ∷ xs) =
          sym (ap (λ b. cond (not b) (1 + position_or_len test (map f xs)) 0) q) ∙ e in
          ap (λ b. cond b (Some (f x)) (find test (map f xs))) q ∙ rec (omega (arith, same))

  -- else the one at the place is the first that does
  pub somewhere : (xs : List X) (z : X) → position_or_len test (map f xs) < length xs
      → z ≡ get_or xs (position_or_len test (map f xs)) z → find test (map f xs) ≡ Some (f z)
  somewhere [] z l e = absurd (omega arith)
  somewhere (x ∷ xs) z l e = step (somewhere xs z) (test (f x)) refl
    where
      step : (position_or_len test (map f xs) < length xs
          → z ≡ get_or xs (position_or_len test (map f xs)) z → find test (map f xs) ≡ Some (f z))
          → (b : Bool) → test (f x) ≡ b → cond (test (f x)) (Some (f x)) (find test (map f xs))
          ≡ Some (f z)
      step rec true q =
          let here : z ≡ x = e ∙ ap (λ b. get_or (x ∷ xs)
          (cond (not b) (1 + position_or_len test (map f xs)) 0) z) q in
          ap (λ b. cond b (Some (f x)) (find test (map f xs))) q ∙ ap (λ y. Some (f y)) (sym here)
      step rec false q =
          let less : 1 + position_or_len test (map f xs) < length (x ∷ xs) =
          subst (λ k. k < length (x ∷ xs))
          (ap (λ b. cond (not b) (1 + position_or_len test (map f xs)) 0) q) l in
          ap (λ b. cond b (Some (f x)) (find test (map f xs))) q
          ∙ rec (omega (arith, less)) (e ∙ ap
          (λ b. get_or (x ∷ xs) (cond (not b) (1 + position_or_len test (map f xs)) 0) z) q
          ∙ ap (λ k. get_or (x ∷ xs) k z) (one_more (position_or_len test (map f xs))))
