-- A script in parts is the one that the splitter finds.
use Rattle.std.proofs.Common.{◌≡◌, ℕ, List, [], ◌∷◌, ◌++◌, refl, sym, ap, ◌∙◌, inl, inr}
use Rattle.std.specs.Prelude.{◌⊎◌}
use Rattle.script_parse.specs.Joining.{joined, IsStatement, IsTail, Each}
use Rattle.script_parse_laws.specs.Parts.{AreParts, HasOpenText, IsScript}
use Rattle.script_parse_laws.proofs.Bytes.{true_false}
use Rattle.script_parse_laws.proofs.PartModes.{parts_are_statement, parts_are_tail, no_open_text}
use Rattle.script_parse_laws.proofs.PartsFound.{split}

pub script_joined : (script : List ℕ) (statements : List (List ℕ)) (tail : List ℕ)
    → IsScript script statements tail → joined statements tail ≡ script
script_joined script [] tail h = sym h.0
script_joined script (s ∷ statements) tail h =
    ap (λ l. s ++ 59 ∷ l) (script_joined h.0 statements tail h.3) ∙ sym h.1

pub each_statement : (script : List ℕ) (statements : List (List ℕ)) (tail : List ℕ)
    → IsScript script statements tail → Each IsStatement statements
each_statement script [] tail h = tt
each_statement script (s ∷ statements) tail h =
    (parts_are_statement s h.0 h.2, each_statement h.0 statements tail h.3)

pub its_tail : (script : List ℕ) (statements : List (List ℕ)) (tail : List ℕ)
    → IsScript script statements tail → IsTail tail
its_tail script [] tail h = parts_are_tail tail h.1
its_tail script (s ∷ statements) tail h = its_tail h.0 statements tail h.3

pub each_closed : (script : List ℕ) (statements : List (List ℕ)) (tail : List ℕ)
    → IsScript script statements tail → Each (λ s. HasOpenText s → ⊥) statements
each_closed script [] tail h = tt
each_closed script (s ∷ statements) tail h = (
  no_open_text s h.0 h.2,
  each_closed h.0 statements tail h.3,
)

-- ---- and back

statement_parts : (s rest : List ℕ) → IsStatement s → AreParts s (59 ∷ rest)
statement_parts s rest h = of_parts (split (59 ∷ rest) refl refl s h.whole
    (λ e. true_false (sym h.closed ∙ e)))
  where
    of_parts : AreParts s (59 ∷ rest) ⊎ ((59 ∷ rest ≡ []) × HasOpenText s) → AreParts s (59 ∷ rest)
    of_parts (inl p) = p
    of_parts (inr o) = absurd (let e : 59 ∷ rest ≡ [] = o.0 in cc)

tail_parts : (tail : List ℕ) → IsTail tail → AreParts tail [] ⊎ HasOpenText tail
tail_parts tail h = of_parts (split [] tt tt tail h (λ e. none))
  where
    rest : List ℕ
    rest = []

    none : rest ≡ []
    none = refl

    of_parts : AreParts tail [] ⊎ ((rest ≡ []) × HasOpenText tail) → AreParts tail []
        ⊎ HasOpenText tail
    of_parts (inl p) = inl p
    of_parts (inr o) = inr o.1

pub joined_script : (statements : List (List ℕ)) (tail : List ℕ) → Each IsStatement statements
    → IsTail tail → IsScript (joined statements tail) statements tail
joined_script [] tail hs ht = (refl, tail_parts tail ht)
joined_script (s ∷ statements) tail hs ht = (
  joined statements tail,
  refl,
  statement_parts s (joined statements tail) hs.0,
  joined_script statements tail hs.1 ht,
)

-- what none of them has, none of them has by what has it
pub each_without : (statements : List (List ℕ)) {P Q : List ℕ → Type 0} → ((s : List ℕ) → P s → Q s)
    → Each (λ s. Q s → ⊥) statements → Each (λ s. P s → ⊥) statements
each_without [] f h = tt
each_without (s ∷ statements) f h = (λ p. h.0 (f s p), each_without statements f h.1)
