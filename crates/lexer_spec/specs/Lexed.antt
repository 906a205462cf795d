-- The tokens of a text.
use Rattle.std.specs.Prelude.{◌≡◌, ℕ, ◌+◌, ◌≤◌, false, List, [], ◌∷◌, length, map, take, drop}
use Rattle.std.specs.Prelude.{Option, Some, None}
use Rattle.lexer_spec.specs.declared.token.Token.{Token}
use Rattle.lexer_spec.specs.declared.kind.TokenKind.{TokenKind}
use Rattle.lexer_spec.specs.declared.scan_of.Scanned.{Scanned}
use Rattle.lexer_spec.specs.declared.scan_of.Scanned.TheVariants.{End, Of, Bad, Open, Long}
use Rattle.lexer_spec.specs.declared.scan_of.Scanned.TheVariants.{Big}
use Rattle.lexer_spec.specs.declared.fault.LexFault.{LexFault}
use Rattle.lexer_spec.specs.declared.fault.LexFault.TheVariants.{NoMemory, BadByte, OpenQuote}
use Rattle.lexer_spec.specs.declared.fault.LexFault.TheVariants.{BigNumber, LongText}
use Rattle.lexer_spec.specs.Bytes.{gap_len, scan_of}

-- how the tokens end, by what stands after the last gap
abbrev pub EndsBy : ℕ → Scanned → Option LexFault → Type 0
EndsBy at End e = e ≡ None
EndsBy at (Of kind n) e = ⊥
EndsBy at (Bad n) e = e ≡ Some (BadByte (at + n))
EndsBy at Open e = e ≡ Some (OpenQuote at)
EndsBy at Long e = e ≡ Some (LongText at)
EndsBy at Big e = e ≡ Some (BigNumber at)

abbrev pub after_gap : List ℕ → List ℕ
after_gap bytes = drop (gap_len false 0 bytes) bytes

-- from the place on these are the tokens, and then the end or a fault
abbrev pub Lexes : ℕ → List ℕ → List Token → Option LexFault → Type 0
Lexes at bytes [] e = EndsBy (at + gap_len false 0 bytes) (scan_of (after_gap bytes)) e
Lexes at bytes (t ∷ ts) e = (scan_of (after_gap bytes) ≡ Of t.kind (length t.text.now))
    × (t.text.now ≡ take (length t.text.now) (after_gap bytes))
    × (t.at ≡ at + gap_len false 0 bytes)
    × Lexes (t.at + length t.text.now) (drop (length t.text.now) (after_gap bytes)) ts e

-- which fault, unless memory ran out
abbrev pub Gives : LexFault → (LexFault → Type 0) → Type 0
Gives NoMemory P = Unit {0}
Gives e P = P e

-- a token without where its text lies
pub record Key : Type 0 where
  pub kind : TokenKind
  pub text : List ℕ
  pub at : ℕ

abbrev pub key : Token → Key
key t = record { kind = t.kind; text = t.text.now; at = t.at }

-- a text has one list of tokens and one end, or one first fault
abbrev pub LexesOnce : Type 0
LexesOnce = (ts us : List Token) (at : ℕ) (bytes : List ℕ) (e f : Option LexFault)
    → Lexes at bytes ts e → Lexes at bytes us f → (map key ts ≡ map key us) × (e ≡ f)

-- each token is the slice of the text at its place, and they stand in order from `at` on
abbrev pub InPlace : List ℕ → ℕ → List Token → Type 0
InPlace text at [] = Unit {0}
InPlace text at (t ∷ ts) = (at ≤ t.at) × (t.text.now ≡ take (length t.text.now) (drop t.at text))
    × InPlace text (t.at + length t.text.now) ts

abbrev pub TokensInPlace : Type 0
TokensInPlace = (text : List ℕ) (ts : List Token) (e : Option LexFault) → Lexes 0 text ts e
    → InPlace text 0 ts
