-- Parts have no end of a statement, and leave a script outside texts and comments.
use Rattle.std.proofs.Common.{◌≡◌, ℕ, Bool, true, false, not, cond, ◌||◌, ◌&&◌, ◌==◌, List, [], ◌∷◌}
use Rattle.std.proofs.Common.{◌++◌, refl, sym, ap, ◌∙◌, subst, append_assoc, append-nil, inl, inr}
use Rattle.std.specs.Prelude.{◌⊎◌}
use Rattle.lexer_spec.specs.Bytes.{is_blank}
use Rattle.lexer_spec.specs.Spaced.{Each, in_line, NoneNext, IsGap, no_gap, a_blank, a_comment}
use Rattle.lexer_spec.specs.Spaced.{last_comment, GapEnds, is_quote}
use Rattle.script_parse.specs.declared.mode.Mode.{Mode}
use Rattle.script_parse.specs.declared.mode.Mode.TheVariants.{Plain, Dash, Quoted, Comment}
use Rattle.script_parse.specs.Script.{next, is_end, mode_after}
use Rattle.script_parse.specs.Joining.{has_end, IsStatement, IsTail}
use Rattle.script_parse_laws.specs.Parts.{IsInside, nothing, a_byte, a_quote, is_semicolon, IsPart}
use Rattle.script_parse_laws.specs.Parts.{gap}
use Rattle.script_parse_laws.specs.Parts.{text, other, AreParts, no_part, a_part, HasOpenText}
use Rattle.script_parse_laws.proofs.Bytes.{true_false, by_test, not_byte}

abbrev pub is_dash : ℕ → Bool
is_dash b = b == 45

-- where a script may stand before these bytes and after whole parts
abbrev pub Fits : Mode → List ℕ → Type 0
Fits Plain rest = Unit {0}
Fits Dash rest = NoneNext is_dash rest
Fits Quoted rest = ⊥
Fits Comment rest = rest ≡ []

-- no end in these bytes, and where they leave the script before the rest
abbrev pub Overflows : Mode → List ℕ → List ℕ → Type 0
Overflows m bytes rest = (has_end m bytes ≡ false) × Fits (mode_after m bytes) rest

no_bytes : {X : Type 0} (b : ℕ) (bytes : List ℕ) → b ∷ bytes ≡ [] → X
no_bytes b bytes e = absurd (cc)

mode_both : (m : Mode) (xs ys : List ℕ) → mode_after m (xs ++ ys) ≡ mode_after (mode_after m xs) ys
mode_both m [] ys = refl
mode_both m (x ∷ xs) ys = mode_both (next m x) xs ys

or_assoc : (a b c : Bool) → (a || (b || c)) ≡ ((a || b) || c)
or_assoc true b c = refl
or_assoc false b c = refl

end_both : (m : Mode) (xs ys : List ℕ) → has_end m (xs ++ ys)
    ≡ (has_end m xs || has_end (mode_after m xs) ys)
end_both m [] ys = refl
end_both m (x ∷ xs) ys = ap (λ t. is_end m x || t) (end_both (next m x) xs ys)
    ∙ or_assoc (is_end m x) (has_end (next m x) xs) (has_end (mode_after (next m x) xs) ys)

-- one after the other
both_overflow : (m : Mode) (xs ys rest : List ℕ) → has_end m xs ≡ false
    → Overflows (mode_after m xs) ys rest → Overflows m (xs ++ ys) rest
both_overflow m xs ys rest h k =
    let P : Mode → Type 0 = λ n. Fits n rest in (
      end_both m xs ys ∙ ap (λ t. t || has_end (mode_after m xs) ys) h ∙ k.0,
      subst P (sym (mode_both m xs ys)) k.1,
    )

-- ---- one byte

-- outside texts and comments a byte that is neither a quote nor a `;` nor a dash leads to plain
-- text
pub plain_byte : (b : ℕ) → is_quote b ≡ false → is_dash b ≡ false → next Plain b ≡ Plain
plain_byte b q d = ap (λ t. cond t Quoted (cond (b == 45) Dash Plain)) q
    ∙ ap (λ t. cond t Dash Plain) d

dash_byte : (b : ℕ) → is_quote b ≡ false → is_dash b ≡ false → next Dash b ≡ Plain
dash_byte b q d = ap (λ t. cond t Quoted (cond (b == 45) Comment Plain)) q
    ∙ ap (λ t. cond t Comment Plain) d

step_overflows : (m n : Mode) (b : ℕ) (rest : List ℕ) → is_end m b ≡ false → next m b ≡ n
    → Fits n rest → Overflows m (b ∷ []) rest
step_overflows m n b rest e k h = let P : Mode
    → Type 0 = λ x. Fits x rest in (ap (λ t. t || false) e, subst P (sym k) h)

blank_overflows : (m : Mode) (b : ℕ) (rest : List ℕ) → is_blank b ≡ true → Fits m (b ∷ rest)
    → Overflows m (b ∷ []) rest
blank_overflows Plain b rest e h = step_overflows Plain Plain b rest (not_byte is_blank 59 b e refl)
    (plain_byte b (not_byte is_blank 39 b e refl) (not_byte is_blank 45 b e refl)) tt
blank_overflows Dash b rest e h = step_overflows Dash Plain b rest (not_byte is_blank 59 b e refl)
    (dash_byte b (not_byte is_blank 39 b e refl) (not_byte is_blank 45 b e refl)) tt
blank_overflows Quoted b rest e h = absurd h
blank_overflows Comment b rest e h = no_bytes b rest h

to_plain : (m : Mode) (b : ℕ) (rest : List ℕ) → is_blank b ≡ true → Fits m (b ∷ rest)
    → mode_after m (b ∷ []) ≡ Plain
to_plain Plain b rest e h = plain_byte b (not_byte is_blank 39 b e refl)
    (not_byte is_blank 45 b e refl)
to_plain Dash b rest e h = dash_byte b (not_byte is_blank 39 b e refl)
    (not_byte is_blank 45 b e refl)
to_plain Quoted b rest e h = absurd h
to_plain Comment b rest e h = no_bytes b rest h

-- ---- comments

through_line : (line more : List ℕ) → Each in_line line
    → (has_end Comment (line ++ more) ≡ has_end Comment more)
    × (mode_after Comment (line ++ more) ≡ mode_after Comment more)
through_line [] more h = (refl, refl)
through_line (b ∷ line) more h =
    let k = through_line line more h.1 in
    let same : next Comment b ≡ Comment = not_end (b == 10) h.0 in (
      ap (λ n. has_end n (line ++ more)) same ∙ k.0,
      ap (λ n. mode_after n (line ++ more)) same
          ∙ k.1,
    )
  where
    not_end : (t : Bool) → not t ≡ true → cond t Plain Comment ≡ Comment
    not_end true e = true_false (sym e)
    not_end false e = refl

-- ---- gaps

gap_overflows : (bytes rest : List ℕ) → IsGap bytes rest → (m : Mode) → Fits m (bytes ++ rest)
    → Overflows m bytes rest
gap_overflows bytes rest (no_gap others) m h = (refl, h)
gap_overflows bytes rest (a_blank b more others e g) m h =
    let k = blank_overflows m b (more ++ rest) e h in
    let there : mode_after m (b ∷ []) ≡ Plain = to_plain m b (more ++ rest) e h in
    let P : Mode → Type 0 = λ n. Overflows n more rest in
    both_overflow m (b ∷ []) more rest k.0 (subst P (sym there)
    (gap_overflows more rest g Plain tt))
gap_overflows bytes rest (a_comment line more others e g) Plain h =
    let k = through_line line (10 ∷ more) e in
    let r = gap_overflows more rest g Plain tt in
    let P : Mode → Type 0 = λ n. Fits n rest in
    (k.0 ∙ r.0, subst P (sym k.1) r.1)
gap_overflows bytes rest (a_comment line more others e g) Dash h = true_false h
gap_overflows bytes rest (a_comment line more others e g) Quoted h = absurd h
gap_overflows bytes rest (a_comment line more others e g) Comment h =
    no_bytes 45 (45 ∷ ((line ++ 10 ∷ more) ++ rest)) h
gap_overflows bytes rest (last_comment line e) Plain h =
    let k = through_line line [] e in
    let P : List ℕ → Type 0 = λ l. (has_end Comment l ≡ false) × Fits (mode_after Comment l) [] in
    let Q : Mode → Type 0 = λ n. Fits n [] in
    subst P (append-nil line) (k.0, subst Q (sym k.1) refl)
gap_overflows bytes rest (last_comment line e) Dash h = true_false h
gap_overflows bytes rest (last_comment line e) Quoted h = absurd h
gap_overflows bytes rest (last_comment line e) Comment h = no_bytes 45 (45 ∷ (line ++ [])) h

-- ---- texts

pub through_inside : (inside more : List ℕ) → IsInside inside
    → (has_end Quoted (inside ++ more) ≡ has_end Quoted more)
    × (mode_after Quoted (inside ++ more) ≡ mode_after Quoted more)
through_inside inside more nothing = (refl, refl)
through_inside inside more (a_byte b bytes q h) =
    let k = through_inside bytes more h in
    let same : next Quoted b ≡ Quoted = ap (λ t. cond t Plain Quoted) q in (
      ap (λ n. has_end n (bytes ++ more)) same ∙ k.0,
      ap (λ n. mode_after n (bytes ++ more)) same
          ∙ k.1,
    )
through_inside inside more (a_quote bytes h) = through_inside bytes more h

-- after the opening quote
quote_overflows : (m : Mode) (bytes : List ℕ) → Fits m (39 ∷ bytes)
    → (has_end m (39 ∷ bytes) ≡ has_end Quoted bytes)
    × (mode_after m (39 ∷ bytes) ≡ mode_after Quoted bytes)
quote_overflows Plain bytes h = (refl, refl)
quote_overflows Dash bytes h = (refl, refl)
quote_overflows Quoted bytes h = absurd h
quote_overflows Comment bytes h = no_bytes 39 bytes h

first_quote : (m : Mode) (bytes others : List ℕ) → Fits m (39 ∷ bytes) → Fits m (39 ∷ others)
first_quote Plain bytes others h = tt
first_quote Dash bytes others h = refl
first_quote Quoted bytes others h = h
first_quote Comment bytes others h = no_bytes 39 bytes h

text_overflows : (inside rest : List ℕ) → IsInside inside → (m : Mode)
    → Fits m (39 ∷ ((inside ++ 39 ∷ []) ++ rest)) → Overflows m (39 ∷ (inside ++ 39 ∷ [])) rest
text_overflows inside rest i m h =
    let o = quote_overflows m (inside ++ 39 ∷ [])
    (first_quote m ((inside ++ 39 ∷ []) ++ rest) (inside ++ 39 ∷ []) h) in
    let k = through_inside inside (39 ∷ []) i in
    let P : Mode → Type 0 = λ n. Fits n rest in
    (o.0 ∙ k.0, subst P (sym (o.1 ∙ k.1)) tt)

-- ---- other bytes

dash_next : (b : ℕ) (rest : List ℕ) → is_dash b ≡ true → GapEnds (b ∷ rest) → NoneNext is_dash rest
dash_next b [] d g = tt
dash_next b (c ∷ rest) d g = sym (ap (λ t. t && (c == 45)) d) ∙ g.1

other_overflows : (b : ℕ) (rest : List ℕ) → GapEnds (b ∷ rest) → is_quote b ≡ false
    → is_semicolon b ≡ false → (m : Mode) → Fits m (b ∷ rest) → Overflows m (b ∷ []) rest
other_overflows b rest g q s Plain h = by_test (is_dash b)
    (λ d. step_overflows Plain Dash b rest s (ap (λ t. cond t Quoted (cond (b == 45) Dash Plain)) q
    ∙ ap (λ t. cond t Dash Plain) d) (dash_next b rest d g))
    (λ d. step_overflows Plain Plain b rest s (plain_byte b q d) tt)
other_overflows b rest g q s Dash h = step_overflows Dash Plain b rest s (dash_byte b q h) tt
other_overflows b rest g q s Quoted h = absurd h
other_overflows b rest g q s Comment h = no_bytes b rest h

-- ---- parts

part_overflows : (part rest : List ℕ) → IsPart part rest → (m : Mode) → Fits m (part ++ rest)
    → Overflows m part rest
part_overflows part rest (gap bytes others g) m h = gap_overflows bytes rest g m h
part_overflows part rest (text inside others i q) m h = text_overflows inside rest i m h
part_overflows part rest (other b others k) m h = other_overflows b rest k.0 k.1 k.2 m h

pub parts_overflow : (bytes rest : List ℕ) → AreParts bytes rest → (m : Mode)
    → Fits m (bytes ++ rest) → Overflows m bytes rest
parts_overflow bytes rest (no_part others) m h = (refl, h)
parts_overflow bytes rest (a_part part more others p ps) m h =
    let P : List ℕ → Type 0 = λ l. Fits m l in
    let k = part_overflows part (more ++ rest) p m (subst P (append_assoc part more rest) h) in
    both_overflow m part more rest k.0 (parts_overflow more rest ps (mode_after m part) k.1)

-- ---- statements and tails

ends_there : (m : Mode) (rest : List ℕ) → Fits m (59 ∷ rest) → is_end m 59 ≡ true
ends_there Plain rest h = refl
ends_there Dash rest h = refl
ends_there Quoted rest h = absurd h
ends_there Comment rest h = no_bytes 59 rest h

pub parts_are_statement : (s rest : List ℕ) → AreParts s (59 ∷ rest) → IsStatement s
parts_are_statement s rest h =
    let k = parts_overflow s (59 ∷ rest) h Plain tt in
    record { whole = k.0; closed = ends_there (mode_after Plain s) rest k.1 }

-- a text that does not end goes to the end
pub open_text_stays : (bytes : List ℕ) → HasOpenText bytes → (has_end Plain bytes ≡ false)
    × (mode_after Plain bytes ≡ Quoted)
open_text_stays bytes h =
    let prefix : List ℕ = h.0 in
    let inside : List ℕ = h.1 in
    let k = parts_overflow prefix (39 ∷ inside) h.3 Plain tt in
    let o = quote_overflows (mode_after Plain prefix) inside k.1 in
    let i = through_inside inside [] h.4 in
    let P : List ℕ → Type 0 = λ l. (has_end Plain l ≡ false) × (mode_after Plain l ≡ Quoted) in
    let Q : List ℕ → Type 0 = λ l. (has_end Quoted l ≡ false) × (mode_after Quoted l ≡ Quoted) in
    let j : Q inside = subst Q (append-nil inside) i in
    subst P (sym h.2) (
      end_both Plain prefix (39 ∷ inside) ∙ ap
          (λ t. t || has_end (mode_after Plain prefix) (39 ∷ inside)) k.0 ∙ o.0 ∙ j.0,
      mode_both Plain prefix (39 ∷ inside) ∙ o.1 ∙ j.1,
    )

pub parts_are_tail : (tail : List ℕ) → AreParts tail [] ⊎ HasOpenText tail → IsTail tail
parts_are_tail tail (inl h) = (parts_overflow tail [] h Plain tt).0
parts_are_tail tail (inr h) = (open_text_stays tail h).0

pub no_open_text : (s rest : List ℕ) → AreParts s (59 ∷ rest) → HasOpenText s → ⊥
no_open_text s rest h o = true_false (sym (parts_are_statement s rest h).closed
    ∙ ap (λ m. is_end m 59) (open_text_stays s o).1)
