-- A text as its tokens, or as its first lexical fault.
use Rattle.std.specs.Prelude.{◌≡◌, ℕ, zero, suc, ◌+◌, false, List, [], ◌∷◌, length, map, take, drop}
use Rattle.std.specs.Prelude.{Option, Some, None}
use Rattle.lexer_spec.specs.declared.fault.LexFault.{LexFault}
use Rattle.lexer_spec.specs.declared.fault.LexFault.TheVariants.{NoMemory, BadByte, OpenQuote}
use Rattle.lexer_spec.specs.declared.fault.LexFault.TheVariants.{BigNumber, LongText}
use Rattle.lexer_spec.specs.declared.kind.TokenKind.{TokenKind}
use Rattle.lexer_spec.specs.declared.scan_of.Scanned.{Scanned}
use Rattle.lexer_spec.specs.declared.scan_of.Scanned.TheVariants.{End, Of, Bad, Open, Long}
use Rattle.lexer_spec.specs.declared.scan_of.Scanned.TheVariants.{Big}
use Rattle.lexer_spec.specs.Bytes.{gap_len, scan_of}
use Rattle.lexer_spec.specs.declared.token.Token.{Token}
use Rattle.lexer_spec.specs.Lexed.{Lexes, after_gap}
use Rattle.lexer_spec.specs.Lexemes.{Lexeme, says, lexeme}

-- what a token says, and the place of its first byte
pub record Placed : Type 0 where
  pub says : Lexeme
  pub at : ℕ

abbrev pub a_token : TokenKind → List ℕ → ℕ → Placed
a_token kind bytes at = record { says = says kind bytes; at = at }

pub data Lexed : Type 0 where
  Tokens : List Placed → Lexed
  -- the place of the first lexical fault
  Faulty : ℕ → Lexed

abbrev pub after_token : Placed → Lexed → Lexed
after_token t (Tokens ts) = Tokens (t ∷ ts)
after_token t (Faulty at) = Faulty at

-- by what these bytes begin with, at a place, and what the bytes after it are
abbrev pub by_scanned : ℕ → List ℕ → (ℕ → List ℕ → Lexed) → Scanned → Lexed
by_scanned at bytes others End = Tokens []
by_scanned at bytes others (Of kind n) = after_token (a_token kind (take n bytes) at)
    (others (at + n) (drop n bytes))
by_scanned at bytes others (Bad n) = Faulty (at + n)
by_scanned at bytes others Open = Faulty at
by_scanned at bytes others Long = Faulty at
by_scanned at bytes others Big = Faulty at

-- the bytes from a place on, with no more than so many tokens: each is the longest after the blanks
-- and comments before it
unfoldable pub lexed_from : ℕ → ℕ → List ℕ → Lexed
lexed_from zero at bytes = Tokens []
lexed_from (suc n) at bytes = by_scanned (at + gap_len false 0 bytes) (after_gap bytes)
    (lexed_from n)
    (scan_of (after_gap bytes))

-- each token takes a byte at least, so there are no more than bytes
abbrev pub lexed : List ℕ → Lexed
lexed text = lexed_from (length text) 0 text

abbrev pub saying : List Placed → List Lexeme
saying ts = map (λ (t : Placed). t.says) ts

-- ---- the same as a relation has it

abbrev pub placed : Token → Placed
placed t = record { says = lexeme t; at = t.at }

-- where a fault is; running out of memory is in no text
abbrev pub fault_place : LexFault → Option ℕ
fault_place NoMemory = None
fault_place (BadByte at) = Some at
fault_place (OpenQuote at) = Some at
fault_place (BigNumber at) = Some at
fault_place (LongText at) = Some at

-- the text's tokens, or the place of its first fault
abbrev pub TextsAreLexed : Type 0
TextsAreLexed = (text : List ℕ) (ts : List Token) →
    (Lexes 0 text ts None → lexed text ≡ Tokens (map placed ts))
    × ((e : LexFault) → Lexes 0 text ts (Some e) → (at : ℕ) × (fault_place e ≡ Some at)
    × (lexed text ≡ Faulty at))
