-- A line that is handed out where the one before it is at its end.
use Rattle.std.proofs.Common.{◌≡◌, ℕ, List, [], ◌∷◌, ◌++◌, length, refl, ap, sym, ◌∙◌, append_assoc}
use Rattle.std.proofs.Common.{arith}
use Rattle.std.specs.List.{concat}

empty : (bytes : List ℕ) → length bytes ≡ 0 → bytes ≡ []
empty [] e = refl
empty (b ∷ bytes) e = absurd (omega (arith, e))

pub handed : (line item made prefix suffix : List ℕ) (script more : List (List ℕ)) → length line ≡ 0
    → script ≡ item ∷ more → made ≡ item → made ≡ prefix ++ suffix
    → line ++ concat script ≡ prefix ++ (suffix ++ concat more)
handed line item made prefix suffix script more none next is moved =
    ap (λ (l : List ℕ). l ++ concat script) (empty line none) ∙ ap concat next
    ∙ ap (λ (l : List ℕ). l ++ concat more) (sym is ∙ moved)
    ∙ append_assoc prefix suffix (concat more)
