-- The bytes of a word that is a name make a name, and what a literal stands for makes a text.
use Rattle.std.proofs.Common.{◌≡◌, ℕ, ◌+◌, ◌<◌, ◌≤◌, true, false, cond, not, nat_le, List, [], ◌∷◌}
use Rattle.std.proofs.Common.{◌++◌, length, drop, None, Some, refl, sym, ap, ◌∙◌, subst, append-nil}
use Rattle.std.proofs.Common.{arith, length-append}
use Rattle.std.proofs.lemmas.Bool.Decides.{nat_tests}
use Rattle.prima_base.specs.Bytes.{is_control, is_digit, is_name_byte, first_from, first_bad}
use Rattle.prima_base.specs.Bytes.{IsName, IsTxt}
use Rattle.lexer_spec.specs.declared.kind.TokenKind.{TokenKind}
use Rattle.lexer_spec.specs.declared.kind.TokenKind.TheVariants.{Word, Number, Text, Sign}
use Rattle.lexer_spec.specs.declared.scan_of.Scanned.TheVariants.{Of}
use Rattle.lexer_spec.specs.Bytes.{is_word_start, text_value, scan_of}
use Rattle.lexer_spec.specs.Lexemes.{is_name, is_one_of, reserved}
use Rattle.lexer_spec.specs.Spaced as s
use Rattle.lexer_spec.specs.Spaced.{Each, IsLiteral, IsToken}
use Rattle.lexer_spec.proofs.WholeTokens.{value_plain, value_doubled, value_last, and_left}
use Rattle.lexer_spec.proofs.Shapes.{shape}

none_left : (text prefix suffix : List ℕ) → text ≡ prefix ++ suffix → length text ≡ length prefix
    → prefix ≡ text
none_left text prefix [] e h = sym (e ∙ append-nil prefix)
none_left text prefix (b ∷ suffix) e h = absurd
    (omega (arith, h, ap length e, length-append prefix (b ∷ suffix)))

-- a token alone has its kind's form
alone : (kind : TokenKind) (text : List ℕ) → scan_of text ≡ Of kind (length text)
    → (suffix : List ℕ)
    × IsToken kind text suffix
alone kind text e =
    let h = shape text kind (length text) e in
    let P : List ℕ → Type 0 = λ l. IsToken kind l h.1 in
    (h.1, subst P (none_left text h.0 h.1 h.2 h.3) h.4)

-- ---- names

no_bad : (at : ℕ) (bytes : List ℕ) → Each is_name_byte bytes
    → first_from (λ c. not (is_name_byte c)) at bytes ≡ None
no_bad at [] h = refl
no_bad at (b ∷ bytes) h = ap (λ t. cond (not t) (Some at)
    (first_from (λ c. not (is_name_byte c)) (at + 1) bytes)) h.0 ∙ no_bad (at + 1) bytes h.1

no_digit : (b : ℕ) → is_word_start b ≡ true → is_digit b ≡ false
no_digit b e = grind (arith, nat_tests)

name_start : (b : ℕ) → is_word_start b ≡ true → is_name_byte b ≡ true
name_start b e = grind (arith, nat_tests)

short : (text : List ℕ) → is_name text ≡ true → length text ≤ 63
unfolding is_name
short text e = let k : nat_le (length text) 63 ≡ true =
    and_left (nat_le (length text) 63) (not (is_one_of reserved text)) e in grind (arith, nat_tests)

word_is_name : (text : List ℕ) (b : ℕ) (more : List ℕ) → text ≡ b ∷ more → is_word_start b ≡ true
    → Each is_name_byte more → length text ≤ 63 → IsName text
word_is_name text b more e start h few =
    let valid : first_bad (b ∷ more) ≡ None =
    ap (λ t. cond t (Some 0) (first_from (λ c. not (is_name_byte c)) 0 (b ∷ more)))
    (no_digit b start) ∙ no_bad 0 (b ∷ more) (name_start b start, h) in
    record { some = omega (arith, ap length e); short = few; valid = ap first_bad e ∙ valid }

pub named : (kind : TokenKind) (text : List ℕ) → scan_of text ≡ Of kind (length text) → kind ≡ Word
    → is_name text ≡ true → IsName text
named Word text e k ok = let h = alone Word text e in let t = h.1 in
    word_is_name text t.0 t.1 t.2 t.3 t.4 (short text ok)
named Number text e k ok = let z : Number ≡ Word = k in cc
named Text text e k ok = let z : Text ≡ Word = k in cc
named Sign text e k ok = let z : Sign ≡ Word = k in cc

-- ---- texts

no_control : (at : ℕ) (value bytes : List ℕ) → IsLiteral value bytes
    → first_from is_control at value ≡ None
no_control at value bytes s.closed = refl
no_control at value bytes (s.a_byte b v l q c h) =
    ap (λ t. cond t (Some at) (first_from is_control (at + 1) v)) c ∙ no_control (at + 1) v l h
no_control at value bytes (s.a_quote v l h) = no_control (at + 1) v l h

stands_for : (value bytes : List ℕ) → IsLiteral value bytes → text_value bytes ≡ value
stands_for value bytes s.closed = value_last 39 refl
stands_for value bytes (s.a_byte b v l q c h) = value_plain b l q
    ∙ ap (λ t. b ∷ t) (stands_for v l h)
stands_for value bytes (s.a_quote v l h) = value_doubled 39 39 l refl refl
    ∙ ap (λ t. 39 ∷ t) (stands_for v l h)

pub texted : (literal : List ℕ) → scan_of literal ≡ Of Text (length literal) → (0 < length literal)
    × IsTxt (text_value (drop 1 literal))
texted literal e =
    let h = alone Text literal e in
    let t = h.1 in
    let value : text_value (drop 1 literal) ≡ t.0 = ap (λ l. text_value (drop 1 l)) t.2
    ∙ stands_for t.0 t.1 t.3 in
    let P : List ℕ → Type 0 = λ v. IsTxt v in
    (omega (arith, ap length t.2), subst P (sym value) (t.4, no_control 0 t.0 t.1 t.3))
