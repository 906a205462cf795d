-- The function that makes tokens of a text makes those that the relation tells.
use Rattle.std.proofs.Common.{◌≡◌, ℕ, zero, suc, ◌+◌, ◌<◌, ◌≤◌, false, List, [], ◌∷◌, length, map}
use Rattle.std.proofs.Common.{take, drop, Option, Some, None, unwrap_or, refl, sym, ap, ◌∙◌, subst}
use Rattle.std.proofs.Common.{arith, length-drop}
use Rattle.lexer_spec.specs.declared.fault.LexFault.{LexFault}
use Rattle.lexer_spec.specs.declared.fault.LexFault.TheVariants.{NoMemory, BadByte, OpenQuote}
use Rattle.lexer_spec.specs.declared.fault.LexFault.TheVariants.{BigNumber, LongText}
use Rattle.lexer_spec.specs.declared.kind.TokenKind.{TokenKind}
use Rattle.lexer_spec.specs.declared.scan_of.Scanned.{Scanned}
use Rattle.lexer_spec.specs.declared.scan_of.Scanned.TheVariants.{End, Of, Bad, Open, Long}
use Rattle.lexer_spec.specs.declared.scan_of.Scanned.TheVariants.{Big}
use Rattle.lexer_spec.specs.declared.token.Token.{Token}
use Rattle.lexer_spec.specs.Bytes.{gap_len, scan_of}
use Rattle.lexer_spec.specs.Lexed.{Lexes, EndsBy, after_gap}
use Rattle.script_parse.specs.Lexing.{Placed, Lexed, Tokens, Faulty, a_token, after_token}
use Rattle.script_parse.specs.Lexing.{by_scanned}
use Rattle.script_parse.specs.Lexing.{lexed_from, placed, fault_place, TextsAreLexed}

-- how the text ends
abbrev ended : Option LexFault → Lexed
ended None = Tokens []
ended (Some e) = Faulty (unwrap_or (fault_place e) 0)

abbrev with_all : List Placed → Lexed → Lexed
with_all [] l = l
with_all (t ∷ ts) l = after_token t (with_all ts l)

all_tokens : (ts : List Placed) → with_all ts (Tokens []) ≡ Tokens ts
all_tokens [] = refl
all_tokens (t ∷ ts) = ap (after_token t) (all_tokens ts)

all_faulty : (ts : List Placed) (at : ℕ) → with_all ts (Faulty at) ≡ Faulty at
all_faulty [] at = refl
all_faulty (t ∷ ts) at = ap (after_token t) (all_faulty ts at)

no_bytes : (l : List ℕ) → length l ≤ 0 → l ≡ []
no_bytes [] h = refl
no_bytes (b ∷ l) h = absurd (omega arith)

drop_nothing : (n : ℕ) → ◌≡◌ {A = List ℕ} (drop n []) []
drop_nothing zero = refl
drop_nothing (suc n) = refl

-- ---- without bytes

gap_of_nothing : after_gap [] ≡ []
gap_of_nothing = drop_nothing (gap_len false 0 [])

nothing_left : (bytes : List ℕ) → length bytes ≤ 0 → scan_of (after_gap bytes) ≡ End
nothing_left bytes h = ap (λ l. scan_of (after_gap l)) (no_bytes bytes h)
    ∙ ap scan_of gap_of_nothing

end_of_nothing : (at : ℕ) (p : Scanned) (e : Option LexFault) → p ≡ End → EndsBy at p e
    → Tokens [] ≡ ended e
end_of_nothing at p e h k = let P : Scanned → Type 0 = λ q. EndsBy at q e in let z : e ≡ None =
    subst P h k in ap ended (sym z)

-- ---- by what is scanned in prefix

ends_so : (at : ℕ) (bytes : List ℕ) (others : ℕ → List ℕ → Lexed) (p : Scanned)
    (e : Option LexFault)
    → EndsBy at p e → by_scanned at bytes others p ≡ ended e
ends_so at bytes others End e h = ap ended (sym h)
ends_so at bytes others (Of kind n) e h = absurd h
ends_so at bytes others (Bad n) e h = ap ended (sym h)
ends_so at bytes others Open e h = ap ended (sym h)
ends_so at bytes others Long e h = ap ended (sym h)
ends_so at bytes others Big e h = ap ended (sym h)

-- a token has a byte at least
some_bytes : (kind : TokenKind) (bytes : List ℕ) → scan_of bytes ≡ Of kind (length bytes)
    → 0 < length bytes
some_bytes kind [] e = let z : End ≡ Of kind 0 = e in cc
some_bytes kind (b ∷ bytes) e = omega arith

same_token : (t : Token) (bytes : List ℕ) (at : ℕ) → t.text.now ≡ take (length t.text.now) bytes
    → t.at ≡ at → a_token t.kind (take (length t.text.now) bytes) at ≡ placed t
same_token t bytes at e f = ap (λ l. a_token t.kind l at) (sym e)
    ∙ ap (a_token t.kind t.text.now) (sym f)

lexed_so : (ts : List Token) (n at : ℕ) (bytes : List ℕ) (e : Option LexFault) → length bytes ≤ n
    → Lexes at bytes ts e → lexed_from n at bytes ≡ with_all (map placed ts) (ended e)
unfolding lexed_from
lexed_so [] zero at bytes e h k = end_of_nothing (at + gap_len false 0 bytes)
    (scan_of (after_gap bytes)) e (nothing_left bytes h) k
lexed_so [] (suc n) at bytes e h k = ends_so (at + gap_len false 0 bytes) (after_gap bytes)
    (lexed_from n) (scan_of (after_gap bytes)) e k
lexed_so (t ∷ ts) zero at bytes e h k = let z : End ≡ Of t.kind (length t.text.now) =
    sym (nothing_left bytes h) ∙ k.0 in cc
lexed_so (t ∷ ts) (suc n) at bytes e h k =
    let after = after_gap bytes in
    let from = at + gap_len false 0 bytes in
    let len = length t.text.now in
    let some : 0 < len = some_bytes t.kind t.text.now t.whole in
    let fewer : length (drop len after) ≤ n =
    omega (arith, h, some, length-drop len after, length-drop (gap_len false 0 bytes) bytes) in
    let rest = lexed_so ts n (t.at + len) (drop len after) e fewer k.3 in
    ap (by_scanned from after (lexed_from n)) k.0
    ∙ ap (λ q. after_token q (lexed_from n (from + len) (drop len after)))
    (same_token t after from k.1 k.2)
    ∙ ap (after_token (placed t)) (ap (λ a. lexed_from n (a + len) (drop len after)) (sym k.2)
    ∙ rest)

-- no text wants memory
placed_end : (at : ℕ) (p : Scanned) (e : LexFault) → EndsBy at p (Some e)
    → fault_place e ≡ Some (unwrap_or (fault_place e) 0)
placed_end at p NoMemory h = absurd (no_memory at p h)
  where
    no_memory : (at : ℕ) (p : Scanned) → EndsBy at p (Some NoMemory) → ⊥
    no_memory at End k = cc
    no_memory at (Of kind n) k = k
    no_memory at (Bad n) k = cc
    no_memory at Open k = cc
    no_memory at Long k = cc
    no_memory at Big k = cc
placed_end at p (BadByte n) h = refl
placed_end at p (OpenQuote n) h = refl
placed_end at p (BigNumber n) h = refl
placed_end at p (LongText n) h = refl

placed_fault : (ts : List Token) (at : ℕ) (bytes : List ℕ) (e : LexFault)
    → Lexes at bytes ts (Some e) → fault_place e ≡ Some (unwrap_or (fault_place e) 0)
placed_fault [] at bytes e h = placed_end (at + gap_len false 0 bytes) (scan_of (after_gap bytes)) e
    h
placed_fault (t ∷ ts) at bytes e h = placed_fault ts (t.at + length t.text.now)
    (drop (length t.text.now) (after_gap bytes)) e h.3

pub texts_are_lexed : TextsAreLexed
texts_are_lexed text ts = (
  λ h. lexed_so ts (length text) 0 text None (omega arith) h ∙ all_tokens (map placed ts),
  λ e h. (
    unwrap_or (fault_place e) 0,
    placed_fault ts 0 text e h,
    lexed_so ts (length text) 0 text (Some e) (omega arith) h
        ∙ all_faulty (map placed ts) (unwrap_or (fault_place e) 0),
  ),
)
