-- The statements of a script begin with those of its prefix.
use Rattle.std.proofs.Common.{◌≡◌, ℕ, true, false, List, [], ◌∷◌, ◌++◌, refl, ap}
use Rattle.std.specs.Prelude.{map, cond}
use Rattle.script_parse.specs.Script.{next, is_end, part_of, parts_from, statements_from}
use Rattle.script_parse.specs.Script.{tail_from}
use Rattle.script_parse.specs.declared.mode.Mode.{Mode}
use Rattle.script_parse.specs.declared.mode.Mode.TheVariants.{Plain}

-- where the bytes after the last `;` leave a script
abbrev pub mode_from : Mode → List ℕ → Mode
mode_from mode [] = mode
mode_from mode (b ∷ bytes) = cond (is_end mode b) (mode_from Plain bytes)
    (mode_from (next mode b) bytes)

abbrev pub mode_after_script : List ℕ → Mode
mode_after_script script = mode_from Plain script

from_prefix : (mode : Mode) (current xs ys : List ℕ)
    → parts_from mode current (xs ++ ys) ≡ parts_from mode current xs
    ++ parts_from (mode_from mode xs) (tail_from mode current xs) ys
from_prefix mode current [] ys = refl
from_prefix mode current (b ∷ xs) ys =
    elim (is_end mode b) as (λ v. map part_of
    (cond v (current ∷ statements_from Plain [] (xs ++ ys))
    (statements_from (next mode b) (current ++ b ∷ []) (xs ++ ys)))
    ≡ map part_of (cond v (current ∷ statements_from Plain [] xs)
    (statements_from (next mode b) (current ++ b ∷ []) xs))
    ++ parts_from (cond v (mode_from Plain xs) (mode_from (next mode b) xs))
    (cond v (tail_from Plain [] xs) (tail_from (next mode b) (current ++ b ∷ []) xs)) ys) [
      | true ↦ ap (λ l. part_of current ∷ l) (from_prefix Plain [] xs ys)
      | false ↦ from_prefix (next mode b) (current ++ b ∷ []) xs ys
    ]

pub parts-append : (xs ys : List ℕ) → parts_from Plain [] (xs ++ ys) ≡ parts_from Plain [] xs
    ++ parts_from (mode_after_script xs) (tail_from Plain [] xs) ys
parts-append xs ys = from_prefix Plain [] xs ys
