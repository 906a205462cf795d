-- The pairs that are left, one place further on.
use Rattle.std.specs.Prelude.{◌≡◌, ℕ, ◌<◌, ◌≤◌, ◌+◌, cond, List, [], ◌∷◌, ◌++◌}
use Rattle.std.specs.Prelude.{drop, length}
use Rattle.std.proofs.Common.{refl, sym, ap, subst, ◌∙◌, get_or, arith}
use Rattle.std.proofs.Math.Seq.{drop-cons}
use Rattle.std.proofs.Math.Numerals.{add-one}
use Rattle.std.proofs.lemmas.List.{drop_all}
use Rattle.relations_spec.specs.Spans.{Span, span}
use Rattle.prima_base.specs.declared.timed_row.TimedRow.{TimedRow}
use Rattle.temporal_lang_types.specs.declared.relation.Relation.{Relation}
use Rattle.prima_base_rows.specs.Rows.{vec_of}
use Rattle.period_join.specs.Relations.{relates}
use Rattle.period_join.specs.Pairs.{with_each, pairs_from, with_rest}

drop_next : (rows : List TimedRow) (i : ℕ) (d : TimedRow) → i < length rows
    → drop i rows ≡ get_or rows i d ∷ drop (i + 1) rows
drop_next rows i d h = rw add-one (drop-cons rows i d h)

module _ (relation : Relation) where
  -- the next place on the right is related, or it is not
  pub with_next : (i : ℕ) (p : Span) (right : List TimedRow) (j : ℕ) (d : TimedRow)
      → j < length right → with_each relation i p j (drop j right)
      ≡ cond (relates relation p (get_or right j d).period)
      ((i, j) ∷ with_each relation i p (j + 1) (drop (j + 1) right))
      (with_each relation i p (j + 1) (drop (j + 1) right))
  with_next i p right j d h = rw (drop_next right j d h) refl

  pub with_none : (i : ℕ) (p : Span) (right : List TimedRow) (j : ℕ) → length right ≤ j
      → with_each relation i p j (drop j right) ≡ []
  with_none i p right j h = rw (drop_all j right h) refl

  -- what is left at a place on the left that is there
  pub rest_next : (i j : ℕ) (left right : List TimedRow) (d : TimedRow) → i < length left
      → with_rest relation i j (drop i left) right
      ≡ with_each relation i (get_or left i d).period j (drop j right)
      ++ pairs_from relation (i + 1) (drop (i + 1) left) right
  rest_next i j left right d h = rw (drop_next left i d h) refl

  pub rest_none : (i j : ℕ) (left right : List TimedRow) → length left ≤ i
      → with_rest relation i j (drop i left) right ≡ []
  rest_none i j left right h = rw (drop_all i left h) refl

  -- with nothing done on the right, all pairs are left
  pub rest_all : (i : ℕ) (left right : List TimedRow)
      → with_rest relation i 0 left right ≡ pairs_from relation i left right
  rest_all i [] right = refl
  rest_all i (p ∷ left) right = refl

  -- the next pair is handed out
  pub given : (i j n : ℕ) (p : Span) (left right : List TimedRow) (d : TimedRow) → i < length left
      → p ≡ (get_or left i d).period → with_each relation i p j (drop j right)
      ≡ (i, n) ∷ with_each relation i p (n + 1) (drop (n + 1) right)
      → with_rest relation i j (drop i left) right
      ≡ (i, n) ∷ with_rest relation i (n + 1) (drop i left) right
  given i j n p left right d h e f =
      let g = subst (λ (w : Span). with_each relation i w j (drop j right)
      ≡ (i, n) ∷ with_each relation i w (n + 1) (drop (n + 1) right)) e f in
      rest_next i j left right d h
      ∙ ap (λ (w : List (ℕ × ℕ)). w ++ pairs_from relation (i + 1) (drop (i + 1) left) right) g
      ∙ ap (λ (w : List (ℕ × ℕ)). (i, n) ∷ w) (sym (rest_next i (n + 1) left right d h))

  -- a place on the left is done
  pub passed : (i j : ℕ) (p : Span) (left right : List TimedRow) (d : TimedRow) → i < length left
      → p ≡ (get_or left i d).period → with_each relation i p j (drop j right) ≡ []
      → with_rest relation i j (drop i left) right
      ≡ with_rest relation (i + 1) 0 (drop (i + 1) left) right
  passed i j p left right d h e f =
      let g = subst (λ (w : Span). with_each relation i w j (drop j right) ≡ []) e f in
      rest_next i j left right d h
      ∙ ap (λ (w : List (ℕ × ℕ)). w ++ pairs_from relation (i + 1) (drop (i + 1) left) right) g
      ∙ sym (rest_all (i + 1) (drop (i + 1) left) right)

-- a row where there is none
abbrev pub no_row : TimedRow
no_row = record { values = vec_of [] (omega arith); period = span 0 0 }
