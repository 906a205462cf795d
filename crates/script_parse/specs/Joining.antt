-- Statements, each with a `;` after it, and a tail, as one script.
use Rattle.std.specs.Prelude.{◌≡◌, ℕ, List, [], ◌∷◌, ◌++◌, ◌||◌, Bool, true, false, ⊤}
use Rattle.script_parse.specs.Script.{next, is_end, mode_after}
use Rattle.script_parse.specs.declared.mode.Mode.{Mode}
use Rattle.script_parse.specs.declared.mode.Mode.TheVariants.{Plain}

abbrev pub joined : List (List ℕ) → List ℕ → List ℕ
joined [] tail = tail
joined (s ∷ statements) tail = s ++ 59 ∷ joined statements tail

-- the bytes, after what leaves the script in `mode`, have a `;` outside texts and comments
abbrev pub has_end : Mode → List ℕ → Bool
has_end mode [] = false
has_end mode (b ∷ bytes) = is_end mode b || has_end (next mode b) bytes

abbrev pub IsTail : List ℕ → Type 0
IsTail bytes = has_end Plain bytes ≡ false

-- no `;` outside texts and comments, and outside them at its end
pub record IsStatement (bytes : List ℕ) : Type 0 where
  pub whole : has_end Plain bytes ≡ false
  pub closed : is_end (mode_after Plain bytes) 59 ≡ true

abbrev pub Each : {X : Type 0} → (X → Type 0) → List X → Type 0
Each P [] = ⊤
Each P (x ∷ xs) = P x × Each P xs
