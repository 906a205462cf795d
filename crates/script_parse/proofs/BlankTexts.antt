-- A text without a token is blanks and comments alone.
use Rattle.std.proofs.Common.{◌≡◌, ℕ, zero, suc, ◌+◌, Bool, true, false, not, cond, ◌||◌, ◌==◌}
use Rattle.std.proofs.Common.{List, [], ◌∷◌, ◌++◌, length, drop, None, refl, sym, ap, ◌∙◌, subst}
use Rattle.std.proofs.Common.{append-nil, arith, length-append}
use Rattle.lexer_spec.specs.declared.scan_of.Scanned.{Scanned}
use Rattle.lexer_spec.specs.declared.scan_of.Scanned.TheVariants.{End, Of, Bad, Open, Long}
use Rattle.lexer_spec.specs.declared.scan_of.Scanned.TheVariants.{Big}
use Rattle.lexer_spec.specs.Bytes.{is_blank, gap_len, gap_dash, scan_of}
use Rattle.lexer_spec.specs.Lexed.{Lexes, EndsBy, after_gap}
use Rattle.lexer_spec.specs.Spaced.{Each, in_line, IsGap, no_gap, a_blank, a_comment}
use Rattle.lexer_spec.specs.Spaced.{last_comment}
use Rattle.lexer_spec.proofs.Shapes.{spaced}
use Rattle.script_parse.specs.Pads.{has_line_end, ArePads, none, blank, comment, last}
use Rattle.script_parse.specs.Lexing.{Placed, Lexed, Tokens, Faulty, after_token, by_scanned}
use Rattle.script_parse.specs.Lexing.{lexed_from, lexed}

-- ---- what has no token is blanks and comments

no_line_end_here : (here : Bool) {later : Bool} → not here ≡ true → later ≡ false
    → (here || later) ≡ false
no_line_end_here true e h = cc
no_line_end_here false e h = h

no_line_end : (line : List ℕ) → Each in_line line → has_line_end line ≡ false
no_line_end [] h = refl
no_line_end (b ∷ line) h = no_line_end_here (b == 10) h.0 (no_line_end line h.1)

pub gap_is_pads : (gap rest : List ℕ) → IsGap gap rest → ArePads gap
gap_is_pads gap rest (no_gap others) = none
gap_is_pads gap rest (a_blank b more others e h) =
    blank b more e (gap_is_pads more others h)
gap_is_pads gap rest (a_comment line more others e h) =
    comment line more (no_line_end line e) (gap_is_pads more others h)
gap_is_pads gap rest (last_comment line e) = last line (no_line_end line e)

no_token : (t : Placed) (l : Lexed) → after_token t l ≡ Tokens [] → ⊥
no_token t (Tokens ts) e = cc
no_token t (Faulty at) e = cc

at_its_end : (at : ℕ) (bytes : List ℕ) (others : ℕ → List ℕ → Lexed) (p : Scanned)
    → by_scanned at bytes others p ≡ Tokens [] → EndsBy at p None
at_its_end at bytes others End e = refl
at_its_end at bytes others (Of kind n) e = absurd (no_token _ (others (at + n) (drop n bytes)) e)
at_its_end at bytes others (Bad n) e = cc
at_its_end at bytes others Open e = cc
at_its_end at bytes others Long e = cc
at_its_end at bytes others Big e = cc

has_no_token : (text : List ℕ) (n : ℕ) → lexed_from (suc n) 0 text ≡ Tokens []
    → Lexes 0 text [] None
unfolding lexed_from
has_no_token text n e = at_its_end (0 + gap_len false 0 text) (after_gap text) (lexed_from n)
    (scan_of (after_gap text)) e

pub blank_is_pads : (text : List ℕ) → lexed text ≡ Tokens [] → ArePads text
blank_is_pads [] e = none
blank_is_pads (b ∷ bytes) e =
    let text : List ℕ = b ∷ bytes in
    let h = spaced 0 text [] None (has_no_token text (length bytes) e) in
    let P : List ℕ → Type 0 = λ l. ArePads l in
    subst P (sym (h.2 ∙ ap (λ l. h.0 ++ l) h.5 ∙ append-nil h.0)) (gap_is_pads h.0 h.1 h.3)

-- ---- and back: the gap at its prefix is all of it

module _ (n b : ℕ) (bytes : List ℕ) where
  at_blank : is_blank b ≡ true → gap_len false n (b ∷ bytes) ≡ gap_len false (n + 1) bytes
  unfolding gap_len
  at_blank e = ap (λ t. cond t (gap_len false (n + 1) bytes) (cond (b == 45) (gap_dash n bytes) n))
      e

  in_comment : (b == 10) ≡ false → gap_len true n (b ∷ bytes) ≡ gap_len true (n + 1) bytes
  unfolding gap_len
  in_comment e = ap (λ t. gap_len (not t) (n + 1) bytes) e

at_dashes : (n : ℕ) (bytes : List ℕ) → gap_len false n (45 ∷ 45 ∷ bytes)
    ≡ gap_len true (n + 2) bytes
unfolding gap_len
at_dashes n bytes = refl

at_line_end : (n : ℕ) (bytes : List ℕ) → gap_len true n (10 ∷ bytes) ≡ gap_len false (n + 1) bytes
unfolding gap_len
at_line_end n bytes = refl

at_end : (comment : Bool) (n : ℕ) → gap_len comment n [] ≡ n
unfolding gap_len
at_end true n = refl
at_end false n = refl

first_in_line : (b : ℕ) (line : List ℕ) → has_line_end (b ∷ line) ≡ false → ((b == 10) ≡ false)
    × (has_line_end line ≡ false)
first_in_line b line h = by (b == 10) refl h
  where
    by : (v : Bool) → (b == 10) ≡ v → (v || has_line_end line) ≡ false → ((b == 10) ≡ false)
        × (has_line_end line ≡ false)
    by true e k = absurd (cc)
    by false e k = (e, k)

through : (line rest : List ℕ) (n : ℕ) → has_line_end line ≡ false
    → gap_len true n (line ++ rest) ≡ gap_len true (n + length line) rest
through [] rest n h = ap (λ m. gap_len true m rest) (let e : n ≡ n + 0 = omega arith in e)
through (b ∷ line) rest n h =
    let k = first_in_line b line h in
    let e : n + 1 + length line ≡ n + length (b ∷ line) = omega arith in
    in_comment n b (line ++ rest) k.0 ∙ through line rest (n + 1) k.1
    ∙ ap (λ m. gap_len true m rest) e

pads_reach : (text : List ℕ) (n : ℕ) → ArePads text → gap_len false n text ≡ n + length text
pads_reach text n none = let e : gap_len false n [] ≡ n = at_end false n in omega (arith, e)
pads_reach text n (blank b rest e h) = let k = pads_reach rest (n + 1) h in let s =
    at_blank n b rest e in omega (arith, k, s)
pads_reach text n (comment line rest e h) =
    let k = pads_reach rest (n + 2 + length line + 1) h in
    let s : gap_len false n (45 ∷ 45 ∷ line ++ 10 ∷ rest)
    ≡ gap_len false (n + 2 + length line + 1) rest = at_dashes n (line ++ 10 ∷ rest)
    ∙ through line (10 ∷ rest) (n + 2) e ∙ at_line_end (n + 2 + length line) rest in
    omega (arith, k, s, length-append line (10 ∷ rest))
pads_reach text n (last line e) =
    let s : gap_len false n (45 ∷ 45 ∷ line) ≡ gap_len true (n + 2 + length line) [] =
    at_dashes n line ∙ ap (λ l. gap_len true (n + 2) l) (sym (append-nil line))
    ∙ through line [] (n + 2) e in
    let k = at_end true (n + 2 + length line) in
    omega (arith, s, k)

drop_all : (l : List ℕ) → drop (length l) l ≡ []
drop_all [] = refl
drop_all (b ∷ l) = drop_all l

nothing_after : (text : List ℕ) → ArePads text → after_gap text ≡ []
nothing_after text h = let e : gap_len false 0 text ≡ length text =
    omega (arith, pads_reach text 0 h) in ap (λ n. drop n text) e ∙ drop_all text

ends_there : (text : List ℕ) (n : ℕ) → after_gap text ≡ [] → lexed_from n 0 text ≡ Tokens []
unfolding lexed_from
ends_there text zero e = refl
ends_there text (suc n) e = ap (by_scanned (0 + gap_len false 0 text) (after_gap text)
    (lexed_from n))
    (ap scan_of e)

pub pads_are_blank : (text : List ℕ) → ArePads text → lexed text ≡ Tokens []
pads_are_blank text h = ends_there text (length text) (nothing_after text h)
