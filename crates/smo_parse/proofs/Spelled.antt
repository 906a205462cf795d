-- Lexemes and their bytes: a text that spells them has just their tokens.
use Rattle.std.proofs.Common.{◌≡◌, ℕ, suc, ◌+◌, Bool, true, false, cond, not, ◌==◌, List, [], ◌∷◌}
use Rattle.std.proofs.Common.{◌++◌, length, map, take, drop, codes, Option, None, refl, sym, ap}
use Rattle.std.proofs.Common.{◌∙◌, subst, arith, append_assoc, append-nil}
use Rattle.lexer_spec.specs.declared.token.Token.{Token as Scanned_token}
use Rattle.lexer_spec.specs.declared.kind.TokenKind.{TokenKind}
use Rattle.lexer_spec.specs.declared.scan_of.Scanned.{Scanned}
use Rattle.lexer_spec.specs.declared.scan_of.Scanned.TheVariants.{End, Of}
use Rattle.lexer_spec.specs.declared.fault.LexFault.{LexFault}
use Rattle.lexer_spec.specs.Bytes.{is_blank, gap_len, gap_dash, scan_of}
use Rattle.lexer_spec.specs.Lexed.{Lexes, EndsBy, after_gap}
use Rattle.lexer_spec.specs.Lexemes.{Lexeme, sign, says, lexeme}
use Rattle.smo_parse.proofs.Spellings.{kind_of, written, Writable, Closing, closing_append, Token}
use Rattle.smo_parse.proofs.Spellings.{token_of, open_token, point_token}

-- these bytes spell these lexemes: after each stands what continues it not
pub data Spells : List Lexeme → List ℕ → Type 0 where
  none : Spells [] []
  a_space : (f : List Lexeme) (bytes : List ℕ) → Spells f bytes → Spells f (32 ∷ bytes)
  a_token : (x : Lexeme) (f : List Lexeme) (rest : List ℕ) → Writable x → Closing rest
      → Spells f rest → Spells (x ∷ f) (written x ++ rest)
  an_open : (f : List Lexeme) (rest : List ℕ) → Spells f rest
      → Spells (sign (codes "(") ∷ f) (40 ∷ rest)
  a_point : (f : List Lexeme) (rest : List ℕ) → Spells f rest
      → Spells (sign (codes ".") ∷ f) (46 ∷ rest)

-- one alone
pub single : (x : Lexeme) → Writable x → Spells (x ∷ []) (written x)
single x h = let P : List ℕ → Type 0 = λ l. Spells (x ∷ []) l in
    subst P (append-nil (written x)) (a_token x [] [] h tt none)

-- one text after another
pub join : (f g : List Lexeme) (b c : List ℕ) → Spells f b → Spells g c → Closing c
    → Spells (f ++ g) (b ++ c)
join f g b c none k h = k
join f g b c (a_space e bytes s) k h = a_space (e ++ g) (bytes ++ c) (join e g bytes c s k h)
join f g b c (a_token x e rest w z s) k h =
    let P : List ℕ → Type 0 = λ l. Spells (x ∷ (e ++ g)) l in
    subst P (sym (append_assoc (written x) rest c))
    (a_token x (e ++ g) (rest ++ c) w (closing_append rest c z h) (join e g rest c s k h))
join f g b c (an_open e rest s) k h = an_open (e ++ g) (rest ++ c) (join e g rest c s k h)
join f g b c (a_point e rest s) k h = a_point (e ++ g) (rest ++ c) (join e g rest c s k h)

-- ---- texts of several parts

pub right3 : (a b c : List ℕ) → a ++ b ++ c ≡ a ++ (b ++ c)
right3 a b c = append_assoc a b c

pub right4 : (a b c d : List ℕ) → a ++ b ++ c ++ d ≡ a ++ (b ++ (c ++ d))
right4 a b c d = append_assoc (a ++ b) c d ∙ right3 a b (c ++ d)

pub right5 : (a b c d e : List ℕ) → a ++ b ++ c ++ d ++ e ≡ a ++ (b ++ (c ++ (d ++ e)))
right5 a b c d e = append_assoc (a ++ b ++ c) d e ∙ right4 a b c (d ++ e)

pub right6 : (a b c d e f : List ℕ) → a ++ b ++ c ++ d ++ e ++ f ≡ a
    ++ (b ++ (c ++ (d ++ (e ++ f))))
right6 a b c d e f = append_assoc (a ++ b ++ c ++ d) e f ∙ right5 a b c d (e ++ f)

pub right7 : (a b c d e f g : List ℕ) → a ++ b ++ c ++ d ++ e ++ f ++ g ≡ a
    ++ (b ++ (c ++ (d ++ (e ++ (f ++ g)))))
right7 a b c d e f g = append_assoc (a ++ b ++ c ++ d ++ e) f g ∙ right6 a b c d e (f ++ g)

pub right8 : (a b c d e f g h : List ℕ) → a ++ b ++ c ++ d ++ e ++ f ++ g ++ h ≡ a
    ++ (b ++ (c ++ (d ++ (e ++ (f ++ (g ++ h))))))
right8 a b c d e f g h = append_assoc (a ++ b ++ c ++ d ++ e ++ f) g h ∙ right7 a b c d e f (g ++ h)

-- the same bytes
pub as_text : (f : List Lexeme) (b c : List ℕ) → b ≡ c → Spells f c → Spells f b
as_text f b c e h = let P : List ℕ → Type 0 = λ l. Spells f l in subst P (sym e) h

-- ---- gaps

later : (t : Bool) (a b c d : ℕ) → a ≡ c + 1 → b ≡ d + 1 → cond t a b ≡ cond t c d + 1
later true a b c d e f = e
later false a b c d e f = f

mutual
  unfolding gap_len

  gap_later : (comment : Bool) (n : ℕ) (bytes : List ℕ)
      → gap_len comment (n + 1) bytes ≡ gap_len comment n bytes + 1
  gap_later true n [] = refl
  gap_later false n [] = refl
  gap_later true n (b ∷ bytes) = gap_later (not (b == 10)) (n + 1) bytes
  gap_later false n (b ∷ bytes) =
      later (is_blank b) (gap_len false (n + 1 + 1) bytes)
      (cond (b == 45) (gap_dash (n + 1) bytes) (n + 1)) (gap_len false (n + 1) bytes)
      (cond (b == 45) (gap_dash n bytes) n)
      (gap_later false (n + 1) bytes)
      (later (b == 45) (gap_dash (n + 1) bytes) (n + 1) (gap_dash n bytes) n (dash_later n bytes)
      refl)

  dash_later : (n : ℕ) (bytes : List ℕ) → gap_dash (n + 1) bytes ≡ gap_dash n bytes + 1
  dash_later n [] = refl
  dash_later n (b ∷ bytes) =
      let e : n + 1 + 2 ≡ n + 2 + 1 = omega arith in
      later (b == 45) (gap_len true (n + 1 + 2) bytes) (n + 1) (gap_len true (n + 2) bytes) n
      (ap (λ k. gap_len true k bytes) e ∙ gap_later true (n + 2) bytes) refl

pub space_gap : (bytes : List ℕ) → gap_len false 0 (32 ∷ bytes) ≡ suc (gap_len false 0 bytes)
unfolding gap_len
space_gap bytes = let e : gap_len false 0 bytes + 1 ≡ suc (gap_len false 0 bytes) = omega arith in
    gap_later false 0 bytes ∙ e

-- an LF is a gap as a space is
pub line_gap : (bytes : List ℕ) → gap_len false 0 (10 ∷ bytes) ≡ suc (gap_len false 0 bytes)
unfolding gap_len
line_gap bytes = let e : gap_len false 0 bytes + 1 ≡ suc (gap_len false 0 bytes) = omega arith in
    gap_later false 0 bytes ∙ e

-- after a space the same tokens stand, one place further
without_space : (at : ℕ) (bytes : List ℕ) (ts : List Scanned_token) (e : Option LexFault)
    → Lexes at (32 ∷ bytes) ts e → Lexes (at + 1) bytes ts e
without_space at bytes [] e h =
    let P : ℕ → Type 0 = λ k. EndsBy (at + k) (scan_of (drop k (32 ∷ bytes))) e in
    let Q : ℕ → Type 0 = λ k. EndsBy k (scan_of (after_gap bytes)) e in
    let z : at + suc (gap_len false 0 bytes) ≡ at + 1 + gap_len false 0 bytes = omega arith in
    subst Q z (subst P (space_gap bytes) h)
without_space at bytes (t ∷ ts) e h =
    let P : ℕ → Type 0 = λ k. scan_of (drop k (32 ∷ bytes)) ≡ Of t.kind (length t.text.now) in
    let Q : ℕ → Type 0 = λ k. t.text.now ≡ take (length t.text.now) (drop k (32 ∷ bytes)) in
    let R : ℕ → Type 0 = λ k. Lexes (t.at + length t.text.now)
    (drop (length t.text.now) (drop k (32 ∷ bytes))) ts e in
    let g : ℕ = gap_len false 0 bytes in
    let place : t.at ≡ at + gap_len false 0 (32 ∷ bytes) = h.2 in
    let z : at + suc g ≡ at + 1 + g = omega arith in (
      subst P (space_gap bytes) h.0,
      subst Q (space_gap bytes) h.1,
      place
          ∙ ap (λ k. at + k) (space_gap bytes) ∙ z,
      subst R (space_gap bytes) h.3,
    )

-- ---- tokens

pub take_prefix : (prefix rest : List ℕ) → take (length prefix) (prefix ++ rest) ≡ prefix
take_prefix [] rest = refl
take_prefix (x ∷ prefix) rest = ap (λ l. x ∷ l) (take_prefix prefix rest)

pub drop_prefix : (prefix rest : List ℕ) → drop (length prefix) (prefix ++ rest) ≡ rest
drop_prefix [] rest = refl
drop_prefix (x ∷ prefix) rest = drop_prefix prefix rest

same_of : (k l : TokenKind) (m n : ℕ) → Of k m ≡ Of l n → (k ≡ l) × (m ≡ n)
same_of k l m n e = (cc, cc)

-- just these tokens, and no fault
abbrev pub HasTokens : List Lexeme → List ℕ → Type 0
HasTokens f bytes = (at : ℕ) (ts : List Scanned_token) (e : Option LexFault) → Lexes at bytes ts e
    → (map lexeme ts ≡ f) × (e ≡ None)

token_first : (x : Lexeme) (f : List Lexeme) (rest : List ℕ) → Token x rest → HasTokens f rest
    → HasTokens (x ∷ f) (written x ++ rest)
token_first x f rest k more at ts e h = by_tokens ts h
  where
    after : after_gap (written x ++ rest) ≡ written x ++ rest
    after = ap (λ n. drop n (written x ++ rest)) k.near

    is : scan_of (after_gap (written x ++ rest)) ≡ Of (kind_of x) (length (written x))
    is = ap scan_of after ∙ k.whole

    by_tokens : (us : List Scanned_token) → Lexes at (written x ++ rest) us e
        → (map lexeme us ≡ x ∷ f) × (e ≡ None)
    by_tokens [] i = absurd (let P : Scanned → Type 0 = λ p.
        EndsBy (at + gap_len false 0 (written x ++ rest)) p e in subst P is i)
    by_tokens (t ∷ us) i =
        let s = same_of t.kind (kind_of x) (length t.text.now) (length (written x))
        (sym i.0 ∙ is) in
        let spelled : t.text.now ≡ written x = i.1
        ∙ ap (λ n. take n (after_gap (written x ++ rest))) s.1
        ∙ ap (take (length (written x))) after ∙ take_prefix (written x) rest in
        let first : lexeme t ≡ x = ap (λ c. says c t.text.now) s.0 ∙ ap (says (kind_of x)) spelled
        ∙ k.means in
        let left : drop (length t.text.now) (after_gap (written x ++ rest)) ≡ rest =
        ap (λ n. drop n (after_gap (written x ++ rest))) s.1
        ∙ ap (drop (length (written x))) after ∙ drop_prefix (written x) rest in
        let P : List ℕ → Type 0 = λ l. Lexes (t.at + length t.text.now) l us e in
        let r = more (t.at + length t.text.now) us e (subst P left i.3) in
        (ap (λ y. y ∷ map lexeme us) first ∙ ap (λ l. x ∷ l) r.0, r.1)

none_left : HasTokens [] []
unfolding gap_len
none_left at [] e h = (refl, h)
none_left at (t ∷ ts) e h = let z : End ≡ Of t.kind (length t.text.now) = h.0 in cc

pub has_tokens : (f : List Lexeme) (bytes : List ℕ) → Spells f bytes → HasTokens f bytes
has_tokens f bytes none = none_left
has_tokens f bytes (a_space g rest s) = λ at ts e h.
    has_tokens g rest s (at + 1) ts e (without_space at rest ts e h)
has_tokens f bytes (a_token x g rest w z s) =
    token_first x g rest (token_of x rest w z) (has_tokens g rest s)
has_tokens f bytes (an_open g rest s) = token_first (sign (codes "(")) g rest (open_token rest)
    (has_tokens g rest s)
has_tokens f bytes (a_point g rest s) = token_first (sign (codes ".")) g rest (point_token rest)
    (has_tokens g rest s)
