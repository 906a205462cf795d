-- Texts of the lexer, by what stands inside.
use Rattle.std.proofs.Common.{◌≡◌, ℕ, Bool, true, false, not, List, [], ◌∷◌, ◌++◌, refl, sym, ap}
use Rattle.std.proofs.Common.{subst}
use Rattle.prima_base.specs.Bytes.{is_control, is_text_byte}
use Rattle.lexer_spec.specs.Spaced as s
use Rattle.lexer_spec.specs.Spaced.{Each, is_quote, IsLiteral, IsOpen}
use Rattle.script_parse_laws.specs.Parts as p
use Rattle.script_parse_laws.specs.Parts.{IsInside, IsClosed, IsShownText}

not_true : (t : Bool) → not t ≡ true → t ≡ false
not_true true e = sym e
not_true false e = refl

pub open_is_inside : (bytes : List ℕ) → IsOpen bytes → IsInside bytes × Each is_text_byte bytes
open_is_inside bytes s.opened = (p.nothing, tt)
open_is_inside bytes (s.a_byte_more b more q c h) = let k = open_is_inside more h in
    (p.a_byte b more q k.0, (ap not c, k.1))
open_is_inside bytes (s.a_quote_more more h) = let k = open_is_inside more h in
    (p.a_quote more k.0, (refl, (refl, k.1)))

pub inside_is_open : (bytes : List ℕ) → IsInside bytes → Each is_text_byte bytes → IsOpen bytes
inside_is_open bytes p.nothing h = s.opened
inside_is_open bytes (p.a_byte b more q i) h =
    s.a_byte_more b more q (not_true (is_control b) h.0) (inside_is_open more i h.1)
inside_is_open bytes (p.a_quote more i) h = s.a_quote_more more (inside_is_open more i h.1.1)

pub literal_is_text : (value bytes : List ℕ) → IsLiteral value bytes → IsShownText bytes
literal_is_text value bytes s.closed = ([], refl, p.nothing, tt)
literal_is_text value bytes (s.a_byte b more inner q c h) =
    let k = literal_is_text more inner h in
    (b ∷ k.0, ap (λ l. b ∷ l) k.1, p.a_byte b k.0 q k.2, (ap not c, k.3))
literal_is_text value bytes (s.a_quote more inner h) =
    let k = literal_is_text more inner h in
    (39 ∷ 39 ∷ k.0, ap (λ l. 39 ∷ 39 ∷ l) k.1, p.a_quote k.0 k.2, (refl, (refl, k.3)))

closed_inside : (inside : List ℕ) → IsInside inside → Each is_text_byte inside
    → IsClosed (inside ++ 39 ∷ [])
closed_inside inside p.nothing h = ([], s.closed)
closed_inside inside (p.a_byte b more q i) h =
    let k = closed_inside more i h.1 in
    (b ∷ k.0, s.a_byte b k.0 (more ++ 39 ∷ []) q (not_true (is_control b) h.0) k.1)
closed_inside inside (p.a_quote more i) h =
    let k = closed_inside more i h.1.1 in
    (39 ∷ k.0, s.a_quote k.0 (more ++ 39 ∷ []) k.1)

pub text_is_literal : (bytes : List ℕ) → IsShownText bytes → IsClosed bytes
text_is_literal bytes h = let P : List ℕ → Type 0 = λ l. IsClosed l in
    subst P (sym h.1) (closed_inside h.0 h.2 h.3)
