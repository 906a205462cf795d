-- What a script is, by the lexer's blanks, comments and quotes: statements of whole parts.
use Rattle.std.specs.Prelude.{◌≡◌, ℕ, ◌==◌, Bool, false, List, [], ◌∷◌, ◌++◌, Some, ◌⊎◌}
use Rattle.prima_base.specs.Bytes.{is_text_byte}
use Rattle.lexer_spec.specs.declared.token.Token.{Token}
use Rattle.lexer_spec.specs.declared.fault.LexFault.TheVariants.{OpenQuote}
use Rattle.lexer_spec.specs.Lexed.{Lexes}
use Rattle.lexer_spec.specs.Spaced.{Each, NoneNext, IsGap, GapEnds, is_quote, IsLiteral}

-- what may stand between the quotes of a text: each quote inside it twice
pub data IsInside : List ℕ → Type 0 where
  nothing : IsInside []
  a_byte : (b : ℕ) (bytes : List ℕ) → is_quote b ≡ false → IsInside bytes → IsInside (b ∷ bytes)
  a_quote : (bytes : List ℕ) → IsInside bytes → IsInside (39 ∷ 39 ∷ bytes)

abbrev pub is_semicolon : ℕ → Bool
is_semicolon b = b == 59

-- a byte that begins neither a gap nor a text, and is no `;`
abbrev pub StandsAlone : ℕ → List ℕ → Type 0
StandsAlone b rest = GapEnds (b ∷ rest) × (is_quote b ≡ false) × (is_semicolon b ≡ false)

-- a part of a script, and what stands after it: blanks and comments, a text in its quotes, or a
-- byte
pub data IsPart : List ℕ → List ℕ → Type 0 where
  gap : (gap rest : List ℕ) → IsGap gap rest → IsPart gap rest
  text : (inside rest : List ℕ) → IsInside inside → NoneNext is_quote rest
      → IsPart (39 ∷ (inside ++ 39 ∷ [])) rest
  other : (b : ℕ) (rest : List ℕ) → StandsAlone b rest → IsPart (b ∷ []) rest

-- parts one after the other, and what stands after the last
pub data AreParts : List ℕ → List ℕ → Type 0 where
  no_part : (rest : List ℕ) → AreParts [] rest
  a_part : (part bytes rest : List ℕ) → IsPart part (bytes ++ rest) → AreParts bytes rest
      → AreParts (part ++ bytes) rest

-- parts, and then a text that does not end
abbrev pub HasOpenText : List ℕ → Type 0
HasOpenText bytes = (prefix : List ℕ) × (inside : List ℕ) × (bytes ≡ prefix ++ 39 ∷ inside)
    × AreParts prefix (39 ∷ inside) × IsInside inside

-- statements, each of parts and with a `;` after it, and the tail: parts to the end, or up to a
-- text that does not end
abbrev pub IsScript : List ℕ → List (List ℕ) → List ℕ → Type 0
IsScript script [] tail = (script ≡ tail) × (AreParts tail [] ⊎ HasOpenText tail)
IsScript script (s ∷ statements) tail = (rest : List ℕ) × (script ≡ s ++ 59 ∷ rest)
    × AreParts s (59 ∷ rest) × IsScript rest statements tail

-- ---- texts of the lexer

-- the bytes after an opening quote are a literal of the lexer
abbrev pub IsClosed : List ℕ → Type 0
IsClosed bytes = (value : List ℕ) × IsLiteral value bytes

-- the same by what stands inside
abbrev pub IsShownText : List ℕ → Type 0
IsShownText bytes = (inside : List ℕ) × (bytes ≡ inside ++ 39 ∷ []) × IsInside inside
    × Each is_text_byte inside

-- the lexer finds a text that does not end
abbrev pub IsOpenFault : List ℕ → Type 0
IsOpenFault bytes = (ts : List Token) × (at : ℕ) × Lexes 0 bytes ts (Some (OpenQuote at))
