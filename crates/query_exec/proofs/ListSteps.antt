-- One step more along a list.
use Rattle.std.proofs.Common.{◌≡◌, ◌+◌, ◌<◌, ℕ, zero, suc, List, [], ◌∷◌, ◌++◌, length, get_or}
use Rattle.std.proofs.Common.{take, drop, sym, ap, subst, ◌∙◌, inl, inr, arith}
use Rattle.std.proofs.lemmas.List.{drop_more, take_more}
use Rattle.std.specs.Prelude.{◌⊎◌}
use Rattle.relations_spec.specs.Sets.{In}
use Rattle.relations_spec.proofs.SetLaws.{in_append}

module _ {X : Type 0} (xs : List X) (i : ℕ) (x : X) (l : i < length xs)
    (e : x ≡ get_or xs i x) where
  -- what is left begins with the next
  pub left_is : drop i xs ≡ x ∷ drop (i + 1) xs
  left_is = drop_more xs i x l ∙ ap (λ (y : X). y ∷ drop (i + 1) xs) (sym e)

  -- and what was taken ends with it
  pub taken_is : take (i + 1) xs ≡ take i xs ++ x ∷ []
  taken_is = take_more xs i x l ∙ ap (λ (y : X). take i xs ++ y ∷ []) (sym e)

pub among_taken : {X : Type 0} (xs : List X) (i : ℕ) (x : X) → i < length xs → x ≡ get_or xs i x
    → In x xs
among_taken [] i x l e = absurd (omega arith)
among_taken (y ∷ xs) zero x l e = inl (sym e)
among_taken (y ∷ xs) (suc i) x l e = inr (among_taken xs i x (omega arith) e)

-- what is said of each that was taken, and of the next, is said of each that is taken then
pub next_said : {X : Type 0} (so : X → Type 0) (xs : List X) (i : ℕ) (x : X) → i < length xs
    → x ≡ get_or xs i x → ((y : X) → In y (take i xs) → so y) → so x → (y : X)
    → In y (take (i + 1) xs) → so y
next_said so xs i x l e before here y m =
    step (in_append y (take i xs) (x ∷ []) (subst (In y) (taken_is xs i x l e) m))
  where
    step : In y (take i xs) ⊎ In y (x ∷ []) → so y
    step (inl k) = before y k
    step (inr (inl s)) = subst so s here
    step (inr (inr k)) = absurd k
