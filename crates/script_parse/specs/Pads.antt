-- Blanks and comments alone, piece by piece.
use Rattle.std.specs.Prelude.{◌≡◌, ℕ, List, [], ◌∷◌, ◌++◌, ◌==◌, ◌||◌, Bool, true, false}
use Rattle.lexer_spec.specs.Bytes.{is_blank}

-- the text has an LF
abbrev pub has_line_end : List ℕ → Bool
has_line_end [] = false
has_line_end (b ∷ text) = b == 10 || has_line_end text

-- a comment goes from two dashes to the next LF or to the end
pub data ArePads : List ℕ → Type 0 where
  none : ArePads []
  blank : (b : ℕ) (rest : List ℕ) → is_blank b ≡ true → ArePads rest → ArePads (b ∷ rest)
  comment : (text rest : List ℕ) → has_line_end text ≡ false → ArePads rest
      → ArePads (45 ∷ 45 ∷ text ++ 10 ∷ rest)
  last : (text : List ℕ) → has_line_end text ≡ false → ArePads (45 ∷ 45 ∷ text)
