-- Where the lexer finds a text that does not end, there are parts and then a text that does not
-- end.
use Rattle.std.proofs.Common.{◌≡◌, ℕ, ◌+◌, Bool, true, false, ◌||◌, ◌&&◌, ◌==◌, eqb-true, ◌≤◌, List}
use Rattle.std.proofs.Common.{[], ◌∷◌, ◌++◌, length, Some, refl, sym, ap, ◌∙◌, subst, inl, inr}
use Rattle.std.specs.Prelude.{◌⊎◌}
use Rattle.prima_base.specs.Bytes.{is_digit, is_name_byte}
use Rattle.lexer_spec.specs.declared.token.Token.{Token}
use Rattle.lexer_spec.specs.declared.kind.TokenKind.{TokenKind}
use Rattle.lexer_spec.specs.declared.kind.TokenKind.TheVariants.{Word, Number, Text, Sign}
use Rattle.lexer_spec.specs.declared.fault.LexFault.TheVariants.{OpenQuote}
use Rattle.lexer_spec.specs.Bytes.{is_word_start, number}
use Rattle.lexer_spec.specs.Spaced.{Each, IsToken, are_sign, is_one_sign, Spaced}
use Rattle.script_parse_laws.specs.Parts.{IsPart, gap, text, other, HasOpenText}
use Rattle.script_parse_laws.proofs.Bytes.{true_false, by_test, not_byte, not_blank, no_gap_at}
use Rattle.script_parse_laws.proofs.Bytes.{no_comment_at}
use Rattle.script_parse_laws.proofs.Prefixes.{one_part, open_after}
use Rattle.script_parse_laws.proofs.LexerTexts.{literal_is_text, open_is_inside}

-- a byte of a token other than a text
calm : (p : ℕ → Bool) (b : ℕ) (bytes : List ℕ) → p b ≡ true → p 32 ≡ false → p 9 ≡ false
    → p 10 ≡ false → p 13 ≡ false → p 45 ≡ false → p 39 ≡ false → p 59 ≡ false → HasOpenText bytes
    → HasOpenText (b ∷ bytes)
calm p b bytes e s t l c d q f h =
    open_after (b ∷ []) bytes (other b bytes (
      no_gap_at b bytes (not_blank p b e s t l c)
          (not_byte p 45 b e d),
      not_byte p 39 b e q,
      not_byte p 59 b e f,
    )) h

name_bytes : (more rest : List ℕ) → Each is_name_byte more → HasOpenText rest
    → HasOpenText (more ++ rest)
name_bytes [] rest h o = o
name_bytes (b ∷ more) rest h o = calm is_name_byte b (more ++ rest) h.0 refl refl refl refl refl
    refl refl (name_bytes more rest h.1 o)

digits : (more rest : List ℕ) → Each is_digit more → HasOpenText rest → HasOpenText (more ++ rest)
digits [] rest h o = o
digits (b ∷ more) rest h o = calm is_digit b (more ++ rest) h.0 refl refl refl refl refl refl refl
    (digits more rest h.1 o)

-- a dash before a digit
minus : (d : ℕ) (bytes : List ℕ) → is_digit d ≡ true → HasOpenText (d ∷ bytes)
    → HasOpenText (45 ∷ d ∷ bytes)
minus d bytes e h = open_after (45 ∷ []) (d ∷ bytes)
    (other 45 (d ∷ bytes) (
      no_comment_at 45 d bytes refl (not_byte is_digit 45 d e refl),
      refl,
      refl,
    )) h

-- ---- signs

neither : {X : Type 0} (p x r y : Bool) → p ≡ false → r ≡ false → ((p && x) || (r && y)) ≡ true → X
neither p x r y e f h = true_false (sym h ∙ ap (λ t. (t && x) || (r && y)) e ∙ ap (λ t. t && y) f)

none_second : (p r s t : Bool) → s ≡ false → t ≡ false → ((p && (s || t)) || (r && s)) ≡ false
none_second true true s t e f = rw (e, f) refl
none_second true false s t e f = rw (e, f) refl
none_second false true s t e f = e
none_second false false s t e f = refl

one_sign : (n b : ℕ) → (b == n) ≡ true → is_one_sign n ≡ true → is_one_sign b ≡ true
one_sign n b e h = ap is_one_sign (eqb-true b n e) ∙ h

first_sign : (b c : ℕ) → are_sign b c ≡ true → is_one_sign b ≡ true
first_sign b c h = by_test (b == 60) (λ e. one_sign 60 b e refl)
    (λ e. by_test (b == 62) (λ f. one_sign 62 b f refl)
    (λ f. neither (b == 60) (c == 61 || c == 62) (b == 62) (c == 61) e f h))

second_sign : (b c : ℕ) → are_sign b c ≡ true → is_one_sign c ≡ true
second_sign b c h = by_test (c == 61) (λ e. one_sign 61 c e refl)
    (λ e. by_test (c == 62) (λ f. one_sign 62 c f refl)
    (λ f. true_false (sym h ∙ none_second (b == 60) (b == 62) (c == 61) (c == 62) e f)))

-- ---- tokens

-- what stands after these bytes
abbrev After : List ℕ → List ℕ → Type 0
After rest bytes = HasOpenText (bytes ++ rest)

a_sign_byte : (b : ℕ) (bytes : List ℕ) → is_one_sign b ≡ true → HasOpenText bytes
    → HasOpenText (b ∷ bytes)
a_sign_byte b bytes e h = calm is_one_sign b bytes e refl refl refl refl refl refl refl h

number_after : (d : ℕ) (more bytes rest : List ℕ) (most least : ℕ) → is_digit d ≡ true
    → HasOpenText (d ∷ (more ++ rest))
    → ((bytes ≡ d ∷ more) × (number (d ∷ more) ≤ most))
    ⊎ ((bytes ≡ 45 ∷ d ∷ more) × (number (d ∷ more) ≤ least)) → After rest bytes
number_after d more bytes rest most least e o (inl h) = subst (After rest) (sym h.0) o
number_after d more bytes rest most least e o (inr h) =
    subst (After rest) (sym h.0) (minus d (more ++ rest) e o)

sign_after : (bytes rest : List ℕ) → IsToken Sign bytes rest → HasOpenText rest → After rest bytes
sign_after bytes rest (inl h) o = subst (After rest) (sym h.2)
    (a_sign_byte h.0 (h.1 ∷ rest) (first_sign h.0 h.1 h.3)
    (a_sign_byte h.1 rest (second_sign h.0 h.1 h.3) o))
sign_after bytes rest (inr h) o = subst (After rest) (sym h.1) (a_sign_byte h.0 rest h.2 o)

token_after : (kind : TokenKind) (bytes rest : List ℕ) → IsToken kind bytes rest → HasOpenText rest
    → After rest bytes
token_after Word bytes rest h o =
    subst (After rest) (sym h.2) (calm is_word_start h.0 (h.1 ++ rest) h.3 refl refl refl refl refl
    refl refl (name_bytes h.1 rest h.4 o))
token_after Number bytes rest h o = number_after h.0 h.1 bytes rest 18446744073709551615
    9223372036854775808 h.2.0 (digits (h.0 ∷ h.1) rest h.2 o) h.4
token_after Text bytes rest h o =
    let k = literal_is_text h.0 h.1 h.3 in
    subst (After rest) (sym (h.2 ∙ ap (λ l. 39 ∷ l) k.1))
    (open_after (39 ∷ (k.0 ++ 39 ∷ [])) rest (text k.0 rest k.2 h.5) o)
token_after Sign bytes rest h o = sign_after bytes rest h o

pub spaced_open : (ts : List Token) (at : ℕ) (bytes : List ℕ) (p : ℕ)
    → Spaced at bytes ts (Some (OpenQuote p)) → HasOpenText bytes
spaced_open [] at bytes p h =
    let found = h.5 in
    let P : List ℕ → Type 0 = λ l. IsPart h.0 l in (
      h.0,
      found.0,
      h.2 ∙ ap (λ l. h.0 ++ l) found.1,
      one_part h.0 (39 ∷ found.0) (subst P found.1 (gap h.0 h.1 h.3)),
      (open_is_inside found.0 found.2).0,
    )
spaced_open (t ∷ ts) at bytes p h =
    let o = spaced_open ts (t.at + length t.text.now) h.1 p h.6 in
    subst HasOpenText (sym h.2) (open_after h.0 (t.text.now ++ h.1)
    (gap h.0 (t.text.now ++ h.1) h.4) (token_after t.kind t.text.now h.1 h.5 o))
