-- What a line tells, and the others after it.
use Rattle.std.proofs.Common.{◌≡◌, ℕ, ◌+◌, Bool, true, false, List, [], ◌∷◌, ◌++◌, refl, sym, ap}
use Rattle.std.proofs.Common.{append-nil, arith}
use Rattle.script_cli_sample.specs.Summary.{is_error_line, is_end, error_count, end_lines}

module _ (line : List ℕ) (lines : List (List ℕ)) where
  errors_by : (b : Bool) → is_error_line line ≡ b → error_count (line ∷ lines)
      ≡ error_count (line ∷ []) + error_count lines
  errors_by true e = rw e (omega arith)
  errors_by false e = rw e (omega arith)

  pub errors_more : error_count (line ∷ lines) ≡ error_count (line ∷ []) + error_count lines
  errors_more = errors_by (is_error_line line) refl

  ends_by : (b : Bool) → is_end line ≡ b → end_lines (line ∷ lines) ≡ end_lines (line ∷ [])
      ++ end_lines lines
  ends_by true e = rw e (ap (λ (l : List ℕ). l ++ end_lines lines) (sym (append-nil line)))
  ends_by false e = rw e

  pub ends_more : end_lines (line ∷ lines) ≡ end_lines (line ∷ []) ++ end_lines lines
  ends_more = ends_by (is_end line) refl
