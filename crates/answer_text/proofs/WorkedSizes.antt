-- Worked rows: the lines of lifelines that have ended and of those that live.
use Rattle.std.proofs.Common.{◌≡◌, ℕ, List, [], ◌∷◌, codes, refl}
use Rattle.std.specs.Prelude.{Option, Some, None}
use Rattle.std.specs.Fmt.{digits}
use Rattle.smo_ops_spec.specs.Sizes.{Size, Written}
use Rattle.answer_text.specs.Texts.{size_text, sizes_text}

-- of one column
abbrev cells : ℕ → Written
cells n = record { cells = n; bytes = 9 }

abbrev lifeline : List ℕ → ℕ → Option ℕ → ℕ → List Written → Size
lifeline table first last keys columns = record {
  table = table;
  first = first;
  last = last;
  keys =
      keys;
  columns = columns;
}

-- t was renamed to u in version 2, and version 4, the newest, made z
renamed : sizes_text 4 (lifeline (codes "t") 1 (Some 1) 1 (cells 1 ∷ cells 2 ∷ [])
    ∷ lifeline (codes "u") 2 None 1 (cells 1 ∷ cells 1 ∷ [])
    ∷ lifeline (codes "z") 4 None 0 (cells 0 ∷ []) ∷ [])
    ≡ codes "size t 1 1 1 3\nsize u 2 4 1 2\nsize z 4 4 0 0\nend 3\n"
unfolding sizes_text size_text digits
renamed = refl

no_lifeline : sizes_text 0 [] ≡ codes "end 0\n"
unfolding sizes_text digits
no_lifeline = refl
