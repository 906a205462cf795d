-- Members of a list by their places.
use Rattle.std.proofs.Common.{◌≡◌, ℕ, zero, suc, ◌<◌, Bool, true, false, List, [], ◌∷◌, length}
use Rattle.std.proofs.Common.{get_or, refl, subst, arith, inl, inr}
use Rattle.std.specs.Prelude.{All}
use Rattle.relations_spec.specs.Sets.{In}

pub in_get : {A : Type 0} (xs : List A) (k : ℕ) (d : A) → k < length xs → In (get_or xs k d) xs
in_get [] k d h = absurd (omega arith)
in_get (x ∷ xs) zero d h = inl refl
in_get (x ∷ xs) (suc k) d h = inr (in_get xs k d (omega arith))

pub all_in : {A : Type 0} (P : A → Type 0) (xs : List A) → All P xs → (q : A) → In q xs → P q
all_in P [] a q i = absurd i
all_in P (x ∷ xs) a q (inl e) = subst P e (a 0 x (omega arith))
all_in P (x ∷ xs) a q (inr i) = all_in P xs (λ k d h. a (suc k) d (omega arith)) q i

pub not_true : (b : Bool) → (b ≡ true → ⊥) → b ≡ false
not_true true f = absurd (f refl)
not_true false f = refl
