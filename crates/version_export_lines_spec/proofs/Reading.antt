-- What spells a statement within the limits is read as it, also after an LF.
use Rattle.std.specs.Prelude.{◌≡◌, ◌≤◌, ◌<◌, ◌+◌, ℕ, zero, suc, pos, negsuc, false}
use Rattle.std.specs.Prelude.{List, [], ◌∷◌, ◌++◌, length, take, drop, codes}
use Rattle.std.proofs.Common.{refl, sym, ap, subst, ◌∙◌, arith, length-append}
use Rattle.lexer_spec.specs.Bytes.{gap_len, scan_of}
use Rattle.lexer_spec.specs.Lexemes.{Lexeme, word, number, text, sign, says}
use Rattle.smo_parse.proofs.Spellings.{kind_of, written, Writable, Token, token_of, open_token}
use Rattle.smo_parse.proofs.Spellings.{point_token, number_is_digits}
use Rattle.smo_parse.proofs.Spelled.{Spells, none, a_space, a_token, an_open, a_point, space_gap}
use Rattle.smo_parse.proofs.Spelled.{line_gap, take_prefix, drop_prefix}
use Rattle.smo_parse.proofs.PrintedParts.{Printed}
use Rattle.script_parse.specs.Lexing.{Placed, Lexed, Tokens, a_token as placed_token, after_token}
use Rattle.script_parse.specs.Lexing.{by_scanned, lexed_from, saying}
use Rattle.script_parse.specs.Statements.{PlainStatement}
use Rattle.script_parse.specs.Productions.{IsStatement}
use Rattle.script_parse.specs.Reading.{Whole, reading, IsWithin}
use Rattle.script_parse.proofs.ReadingLaws.{are_read}

-- ---- tokens, as the function has them

-- with so many tokens at most these bytes are lexed as tokens that say so
abbrev pub LexedAs : List Lexeme → List ℕ → ℕ → ℕ → Type 0
LexedAs f bytes n at = (tokens : List Placed) × (lexed_from n at bytes ≡ Tokens tokens)
    × (saying tokens ≡ f)

no_lexeme : (f : List Lexeme) → length f ≤ 0 → f ≡ []
no_lexeme [] l = refl
no_lexeme (x ∷ f) l = absurd (omega (arith, l))

-- after a gap of one byte the same tokens stand, one place further
abbrev stepped : ℕ → ℕ → List ℕ → ℕ → Lexed
stepped n at bytes k = by_scanned (at + k) (drop k bytes) (lexed_from n) (scan_of (drop k bytes))

shifted : (n at b : ℕ) (rest : List ℕ)
    → gap_len false 0 (b ∷ rest) ≡ suc (gap_len false 0 rest)
    → lexed_from (suc n) at (b ∷ rest) ≡ lexed_from (suc n) (at + 1) rest
unfolding lexed_from
shifted n at b rest e =
    let g : ℕ = gap_len false 0 rest in
    let z : at + suc g ≡ at + 1 + g = omega arith in
    ap (stepped n at (b ∷ rest)) e
    ∙ ap (λ j. by_scanned j (drop g rest) (lexed_from n) (scan_of (drop g rest))) z

first_token : (x : Lexeme) (g : List Lexeme) (rest : List ℕ) (n at : ℕ) → Token x rest
    → LexedAs g rest n (at + 0 + length (written x))
    → LexedAs (x ∷ g) (written x ++ rest) (suc n) at
unfolding lexed_from
first_token x g rest n at k more = (
  placed_token (kind_of x) (take (length (written x)) (written x ++ rest)) (at + 0) ∷ more.0,
  ap (stepped n at (written x ++ rest)) k.near
      ∙ ap (by_scanned (at + 0) (written x ++ rest) (lexed_from n)) k.whole
      ∙ ap (λ l. after_token (placed_token (kind_of x)
      (take (length (written x)) (written x ++ rest)) (at + 0))
      (lexed_from n (at + 0 + length (written x)) l)) (drop_prefix (written x) rest)
      ∙ ap (after_token (placed_token (kind_of x)
      (take (length (written x)) (written x ++ rest)) (at + 0))) more.1,
  ap (λ l. says (kind_of x) l ∷ saying more.0) (take_prefix (written x) rest)
      ∙ ap (λ y. y ∷ saying more.0) k.means ∙ ap (λ l. x ∷ l) more.2,
)

nothing_lexed : (n at : ℕ) → lexed_from n at [] ≡ Tokens []
unfolding lexed_from gap_len
nothing_lexed zero at = refl
nothing_lexed (suc n) at = refl

none_lexed : (at : ℕ) (bytes : List ℕ) → lexed_from zero at bytes ≡ Tokens []
unfolding lexed_from
none_lexed at bytes = refl

pub spelled_lexed : (f : List Lexeme) (bytes : List ℕ) → Spells f bytes → (n at : ℕ) → length f ≤ n
    → LexedAs f bytes n at
spelled_lexed f bytes none n at l = ([], nothing_lexed n at, refl)
spelled_lexed f bytes (a_space g rest s) zero at l =
    ([], none_lexed at (32 ∷ rest), sym (no_lexeme f l))
spelled_lexed f bytes (a_space g rest s) (suc n) at l =
    let h = spelled_lexed f rest s (suc n) (at + 1) l in
    (h.0, shifted n at 32 rest (space_gap rest) ∙ h.1, h.2)
spelled_lexed f bytes (a_token x g rest w z s) zero at l = absurd (omega (arith, l))
spelled_lexed f bytes (a_token x g rest w z s) (suc n) at l =
    first_token x g rest n at (token_of x rest w z)
    (spelled_lexed g rest s n (at + 0 + length (written x)) (omega (arith, l)))
spelled_lexed f bytes (an_open g rest s) zero at l = absurd (omega (arith, l))
spelled_lexed f bytes (an_open g rest s) (suc n) at l =
    first_token (sign (codes "(")) g rest n at (open_token rest)
    (spelled_lexed g rest s n (at + 0 + 1) (omega (arith, l)))
spelled_lexed f bytes (a_point g rest s) zero at l = absurd (omega (arith, l))
spelled_lexed f bytes (a_point g rest s) (suc n) at l =
    first_token (sign (codes ".")) g rest n at (point_token rest)
    (spelled_lexed g rest s n (at + 0 + 1) (omega (arith, l)))

-- ---- each has a byte at least

some_written : (x : Lexeme) → Writable x → 0 < length (written x)
some_written (word w) h = h.some
some_written (number (pos n)) h = (number_is_digits n h).1
some_written (number (negsuc n)) h = omega arith
some_written (text t) h = omega arith
some_written (sign []) h = absurd (cc)
some_written (sign (b ∷ s)) h = omega arith

pub spells_short : (f : List Lexeme) (bytes : List ℕ) → Spells f bytes → length f ≤ length bytes
spells_short f bytes none = omega arith
spells_short f bytes (a_space g rest s) = let h = spells_short f rest s in omega (arith, h)
spells_short f bytes (a_token x g rest w z s) =
    let h = spells_short g rest s in
    let some = some_written x w in
    let e = length-append (written x) rest in
    omega (arith, h, some, e)
spells_short f bytes (an_open g rest s) = let h = spells_short g rest s in omega (arith, h)
spells_short f bytes (a_point g rest s) = let h = spells_short g rest s in omega (arith, h)

-- ---- statements

module _ (s : PlainStatement) (bytes : List ℕ) (p : Printed IsStatement 0 s bytes) where
  within : IsWithin p.size
  within = (let f = p.few in omega (arith, f), (p.shallow, p.narrow))

  pub reads : reading bytes ≡ Whole s
  reads =
      let h = spelled_lexed p.prefix bytes p.spells (length bytes) 0
      (spells_short p.prefix bytes p.spells) in
      (are_read bytes h.0 s p.size h.1
      (subst (λ (f : List Lexeme). IsStatement s p.size f) (sym h.2) p.same)).0 within

  pub reads_after_line : reading (10 ∷ bytes) ≡ Whole s
  reads_after_line =
      let short = spells_short p.prefix bytes p.spells in
      let h = spelled_lexed p.prefix bytes p.spells (suc (length bytes)) (0 + 1)
      (omega (arith, short)) in
      (are_read (10 ∷ bytes) h.0 s p.size (shifted (length bytes) 0 10 bytes (line_gap bytes) ∙ h.1)
      (subst (λ (f : List Lexeme). IsStatement s p.size f) (sym h.2) p.same)).0 within
