-- A clean tail is a gap of the lexer.
use Rattle.std.proofs.Common.{◌≡◌, ℕ, Bool, true, false, not, ◌||◌, ◌==◌, List, [], ◌∷◌, refl, ◌∙◌}
use Rattle.lexer_spec.specs.Spaced.{Each, in_line, IsGap, no_gap, a_blank, a_comment}
use Rattle.lexer_spec.specs.Spaced.{last_comment}
use Rattle.script_parse.specs.Script.{is_clean}
use Rattle.script_parse.specs.Pads.{has_line_end, ArePads, none, blank, comment, last}
use Rattle.script_parse.proofs.Padding.{clean_is_pads, pads_are_clean}
use Rattle.script_parse.proofs.BlankTexts.{gap_is_pads}
use Rattle.script_parse_laws.proofs.Bytes.{true_false}

neither : (p : Bool) {q : Bool} → (p || q) ≡ false → (not p ≡ true) × (q ≡ false)
neither true e = true_false e
neither false e = (refl, e)

one_line : (text : List ℕ) → has_line_end text ≡ false → Each in_line text
one_line [] e = tt
one_line (b ∷ text) e = (let h = neither (b == 10) e in (h.0, one_line text h.1))

pads_are_gap : (text : List ℕ) → ArePads text → IsGap text []
pads_are_gap text none = no_gap []
pads_are_gap text (blank b rest e h) = a_blank b rest [] e (pads_are_gap rest h)
pads_are_gap text (comment line rest e h) = a_comment line rest [] (one_line line e)
    (pads_are_gap rest h)
pads_are_gap text (last line e) = last_comment line (one_line line e)

pub clean_is_gap : (tail : List ℕ) → is_clean tail ≡ true → IsGap tail []
clean_is_gap tail e = pads_are_gap tail (clean_is_pads tail e)

pub gap_is_clean : (tail : List ℕ) → IsGap tail [] → is_clean tail ≡ true
gap_is_clean tail h = pads_are_clean tail (gap_is_pads tail [] h)
