-- The text of the condition that only a row meets, from its first cell on.
use Rattle.std.specs.Prelude.{◌≡◌, ◌++◌, false, true, codes, List, [], ◌∷◌}
use Rattle.std.proofs.Common.{refl, sym, append-nil}
use Rattle.smo_parse.specs.TreeTexts.{test_text, more_tests_text}
use Rattle.smo_parse.specs.Texts.{cond_text}
use Rattle.version_export_past_spec.specs.Rows.{Cell, has_cell, have_cells, is_row_of}

pub row_text : (c : Cell) (cells : List Cell) → cond_text (is_row_of (c ∷ cells))
    ≡ test_text false true (has_cell c) ++ more_tests_text false (codes " AND ") (have_cells cells)
row_text c [] = sym (append-nil (test_text false true (has_cell c)))
row_text c (d ∷ cells) = refl
