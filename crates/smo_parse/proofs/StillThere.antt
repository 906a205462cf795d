-- What stood at the start of a text stands there still after each step that keeps it.
use Rattle.std.proofs.Common.{◌≡◌, ℕ, List, [], ◌∷◌, take, length}

pub still_there : (a b c : List ℕ) → take (length a) b ≡ a → take (length b) c ≡ b
    → take (length a) c ≡ a
still_there [] b c h k = cc
still_there (x ∷ a) [] c h k = let z : [] ≡ x ∷ a = h in cc
still_there (x ∷ a) (y ∷ b) [] h k = let z : [] ≡ y ∷ b = k in cc
still_there (x ∷ a) (y ∷ b) (z ∷ c) h k =
    let h2 : y ∷ take (length a) b ≡ x ∷ a = h in
    let k2 : z ∷ take (length b) c ≡ y ∷ b = k in
    let i = still_there a b c (cc) (cc) in
    let goal : z ∷ take (length a) c ≡ x ∷ a = cc in goal
