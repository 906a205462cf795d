-- The parts of a text in words of their own: gaps of blanks and comments, and tokens that are as
-- long as can be.
use Rattle.std.specs.Prelude.{◌≡◌, ℕ, ◌+◌, ◌<◌, ◌≤◌, Bool, true, false, not, ◌||◌, ◌&&◌, ◌==◌, List}
use Rattle.std.specs.Prelude.{[], ◌∷◌, ◌++◌, length, get_or, Option, Some, None, ◌⊎◌}
use Rattle.prima_base.specs.Bytes.{is_control, is_digit, is_name_byte}
use Rattle.prima_base.specs.Limits.{max_text}
use Rattle.lexer_spec.specs.declared.kind.TokenKind.{TokenKind}
use Rattle.lexer_spec.specs.declared.kind.TokenKind.TheVariants.{Word, Number, Text, Sign}
use Rattle.lexer_spec.specs.declared.token.Token.{Token}
use Rattle.lexer_spec.specs.declared.fault.LexFault.{LexFault}
use Rattle.lexer_spec.specs.declared.fault.LexFault.TheVariants.{NoMemory, BadByte, OpenQuote}
use Rattle.lexer_spec.specs.declared.fault.LexFault.TheVariants.{BigNumber, LongText}
use Rattle.lexer_spec.specs.Bytes.{is_word_start, is_blank, number}
use Rattle.lexer_spec.specs.Lexed.{Lexes}

-- each of these bytes passes the test
abbrev pub Each : (ℕ → Bool) → List ℕ → Type 0
Each p [] = Unit {0}
Each p (b ∷ bytes) = (p b ≡ true) × Each p bytes

-- no byte that passes it comes next
abbrev pub NoneNext : (ℕ → Bool) → List ℕ → Type 0
NoneNext p [] = Unit {0}
NoneNext p (b ∷ bytes) = p b ≡ false

-- ---- gaps

abbrev pub in_line : ℕ → Bool
in_line b = not (b == 10)

-- blanks and comments, and what stands after them: a comment goes to the end of its line, or of the
-- text
pub data IsGap : List ℕ → List ℕ → Type 0 where
  no_gap : (rest : List ℕ) → IsGap [] rest
  a_blank : (b : ℕ) (gap rest : List ℕ) → is_blank b ≡ true → IsGap gap rest → IsGap (b ∷ gap) rest
  a_comment : (line gap rest : List ℕ) → Each in_line line → IsGap gap rest
      → IsGap (45 ∷ 45 ∷ (line ++ 10 ∷ gap)) rest
  last_comment : (line : List ℕ) → Each in_line line → IsGap (45 ∷ 45 ∷ line) []

-- neither a blank nor a comment comes next
abbrev pub GapEnds : List ℕ → Type 0
GapEnds [] = Unit {0}
GapEnds (b ∷ []) = is_blank b ≡ false
GapEnds (b ∷ c ∷ bytes) = (is_blank b ≡ false) × ((b == 45 && c == 45) ≡ false)

-- ---- tokens

abbrev pub is_quote : ℕ → Bool
is_quote b = b == 39

-- what a literal stands for, and its bytes after the opening quote
pub data IsLiteral : List ℕ → List ℕ → Type 0 where
  closed : IsLiteral [] (39 ∷ [])
  a_byte : (b : ℕ) (value bytes : List ℕ) → is_quote b ≡ false → is_control b ≡ false
      → IsLiteral value bytes → IsLiteral (b ∷ value) (b ∷ bytes)
  a_quote : (value bytes : List ℕ) → IsLiteral value bytes
      → IsLiteral (39 ∷ value) (39 ∷ 39 ∷ bytes)

-- <> <= >=
abbrev pub are_sign : ℕ → ℕ → Bool
are_sign b c = (b == 60 && (c == 61 || c == 62)) || (b == 62 && c == 61)

-- ( ) , . < = >
abbrev pub is_one_sign : ℕ → Bool
is_one_sign b = b == 40 || (b == 41 || (b == 44 || (b == 46 || (b == 60 || (b == 61 || b == 62)))))

-- a token's bytes, and that what stands after them does not continue them
abbrev pub IsToken : TokenKind → List ℕ → List ℕ → Type 0
IsToken Word text rest = (b : ℕ) × (more : List ℕ) × (text ≡ b ∷ more) × (is_word_start b ≡ true)
    × Each is_name_byte more × NoneNext is_name_byte rest
IsToken Number text rest = (d : ℕ) × (more : List ℕ) × Each is_digit (d ∷ more)
    × NoneNext is_digit rest
    × (((text ≡ d ∷ more) × (number (d ∷ more) ≤ 18446744073709551615))
    ⊎ ((text ≡ 45 ∷ d ∷ more) × (number (d ∷ more) ≤ 9223372036854775808)))
IsToken Text text rest = (value : List ℕ) × (bytes : List ℕ) × (text ≡ 39 ∷ bytes)
    × IsLiteral value bytes × (length value ≤ max_text) × NoneNext is_quote rest
IsToken Sign text rest = ((b : ℕ) × (c : ℕ) × (text ≡ b ∷ c ∷ []) × (are_sign b c ≡ true))
    ⊎ ((b : ℕ) × (text ≡ b ∷ []) × (is_one_sign b ≡ true) × NoneNext (are_sign b) rest)

-- ---- faults

-- after an opening quote, bytes that do not close the literal, none of them a control byte
pub data IsOpen : List ℕ → Type 0 where
  opened : IsOpen []
  a_byte_more : (b : ℕ) (bytes : List ℕ) → is_quote b ≡ false → is_control b ≡ false → IsOpen bytes
      → IsOpen (b ∷ bytes)
  a_quote_more : (bytes : List ℕ) → IsOpen bytes → IsOpen (39 ∷ 39 ∷ bytes)

-- a byte with which no token begins: no letter, `_`, digit, quote or sign, and no `-` before a
-- digit
abbrev pub BeginsNothing : List ℕ → Type 0
BeginsNothing [] = ⊥
BeginsNothing (b ∷ bytes) = (is_word_start b ≡ false) × (is_digit b ≡ false) × (is_quote b ≡ false)
    × (is_one_sign b ≡ false) × ((b == 45 && is_digit (get_or bytes 0 0)) ≡ false)

-- the fault that these bytes begin with, at their place
abbrev pub IsFault : ℕ → List ℕ → LexFault → Type 0
IsFault at bytes NoMemory = ⊥
IsFault at bytes (BadByte p) = ((p ≡ at) × BeginsNothing bytes)
    ⊎ ((inner : List ℕ) × (c : ℕ) × (more : List ℕ) × (bytes ≡ 39 ∷ (inner ++ c ∷ more))
    × IsOpen inner × (is_control c ≡ true) × (p ≡ at + 1 + length inner))
IsFault at bytes (OpenQuote p) = (inner : List ℕ) × (bytes ≡ 39 ∷ inner) × IsOpen inner × (p ≡ at)
IsFault at bytes (LongText p) = (value : List ℕ) × (inner : List ℕ) × (more : List ℕ)
    × (bytes ≡ 39 ∷ (inner ++ more)) × IsLiteral value inner × (max_text < length value)
    × NoneNext is_quote more × (p ≡ at)
IsFault at bytes (BigNumber p) = (d : ℕ) × (digits : List ℕ) × (more : List ℕ)
    × Each is_digit (d ∷ digits) × NoneNext is_digit more × (p ≡ at)
    × (((bytes ≡ d ∷ (digits ++ more)) × (18446744073709551615 < number (d ∷ digits)))
    ⊎ ((bytes ≡ 45 ∷ d ∷ (digits ++ more)) × (9223372036854775808 < number (d ∷ digits))))

-- ---- whole texts

-- after the last gap, at its place: nothing, or the fault
abbrev pub EndsSo : ℕ → List ℕ → Option LexFault → Type 0
EndsSo at bytes None = bytes ≡ []
EndsSo at bytes (Some f) = IsFault at bytes f

-- from the place on: a gap, a token, a gap, a token, and so on to the last gap
abbrev pub Spaced : ℕ → List ℕ → List Token → Option LexFault → Type 0
Spaced at bytes [] e = (gap : List ℕ) × (rest : List ℕ) × (bytes ≡ gap ++ rest) × IsGap gap rest
    × GapEnds rest × EndsSo (at + length gap) rest e
Spaced at bytes (t ∷ ts) e = (gap : List ℕ) × (rest : List ℕ)
    × (bytes ≡ gap ++ (t.text.now ++ rest)) × (t.at ≡ at + length gap)
    × IsGap gap (t.text.now ++ rest) × IsToken t.kind t.text.now rest
    × Spaced (t.at + length t.text.now) rest ts e

abbrev pub TokensSpaced : Type 0
TokensSpaced = (at : ℕ) (bytes : List ℕ) (ts : List Token) (e : Option LexFault)
    → Lexes at bytes ts e → Spaced at bytes ts e
