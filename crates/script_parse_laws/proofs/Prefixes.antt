-- Parts before others.
use Rattle.std.proofs.Common.{ℕ, List, [], ◌∷◌, ◌++◌, sym, ap, ◌∙◌, subst, append_assoc, append-nil}
use Rattle.script_parse_laws.specs.Parts.{IsPart, AreParts, no_part, a_part, HasOpenText}

pub one_part : (part rest : List ℕ) → IsPart part rest → AreParts part rest
one_part part rest p = let P : List ℕ → Type 0 = λ l. AreParts l rest in
    subst P (append-nil part) (a_part part [] rest p (no_part rest))

pub open_after : (part bytes : List ℕ) → IsPart part bytes → HasOpenText bytes
    → HasOpenText (part ++ bytes)
open_after part bytes p h =
    let P : List ℕ → Type 0 = λ l. IsPart part l in (
      part ++ h.0,
      h.1,
      ap (λ l. part ++ l) h.2 ∙ sym (append_assoc part h.0 (39 ∷ h.1)),
      a_part part h.0 (39 ∷ h.1) (subst P h.2 p) h.3,
      h.4,
    )
