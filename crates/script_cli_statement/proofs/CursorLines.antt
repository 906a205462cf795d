-- How the lines of open cursors, put one after the other, add up.
use Rattle.std.proofs.Common.{◌≡◌, ◌<◌, ◌≤◌, ◌+◌, ℕ, List, [], ◌∷◌, ◌++◌, length, drop}
use Rattle.std.proofs.Common.{get_or, sym, ap, ◌∙◌, append-nil, append_assoc, slice_get, arith}
use Rattle.std.specs.Prelude.{zero, suc, Option, Some, None, map}
use Rattle.std.specs.Option.{option_map}
use Rattle.std.specs.List.{flat_map}
use Rattle.std.proofs.lemmas.List.{length-map, drop_all}
use Rattle.answer_text.specs.Texts.{count_text}
use Rattle.answer_text.specs.SessionTexts.{line_of_cursor, cursors_text}
use Rattle.answer_text.proofs.Listed as listed
use Rattle.sessions.specs.SessionStates.{Cursors}
use Rattle.sessions.specs.declared.cursor.CursorLine.{CursorLine}
use Rattle.sessions.specs.Lines.{line_of, line_seen}

module _ (cursors : Cursors) where
  abbrev pub all : List (ℕ × List ℕ × ℕ × ℕ)
  all = map line_of cursors

  abbrev pub lines : List (ℕ × List ℕ × ℕ × ℕ) → List ℕ
  lines cs = flat_map line_of_cursor cs

  abbrev pub whole : List ℕ
  whole = cursors_text all

  pub all_lines : whole ≡ lines all ++ count_text (length all)
  unfolding cursors_text
  all_lines = λ i. lines all ++ count_text (length all)

  module _ (i : ℕ) (line : ℕ × List ℕ × ℕ × ℕ) (sent : List ℕ) (l : i < length all)
      (is : line ≡ get_or all i line) (e : lines all ≡ sent ++ lines (drop i all)) where
    pub next_lines : lines all ≡ (sent ++ line_of_cursor line) ++ lines (drop (i + 1) all)
    next_lines = listed.sent_own line_of_cursor all i line sent l is e

    pub next_text : whole ≡ sent ++ (line_of_cursor line
        ++ (lines (drop (i + 1) all) ++ count_text (length all)))
    next_text = all_lines ∙ ap (λ t. t ++ count_text (length all)) next_lines
        ∙ append_assoc (sent ++ line_of_cursor line) (lines (drop (i + 1) all))
        (count_text (length all))
        ∙ append_assoc sent (line_of_cursor line)
        (lines (drop (i + 1) all) ++ count_text (length all))

  pub last_text : (i n : ℕ) (sent : List ℕ) → length cursors ≤ i → n ≡ length cursors
      → lines all ≡ sent ++ lines (drop i all) → whole ≡ sent ++ count_text n
  last_text i n sent l c e =
      let so_many = length-map cursors line_of in
      let end : length all ≤ i = omega (arith, l, so_many) in
      all_lines ∙ ap (λ t. t ++ count_text (length all))
      (e ∙ ap (λ cs. sent ++ lines cs) (drop_all i all end) ∙ append-nil sent)
      ∙ ap (λ k. sent ++ count_text k) (so_many ∙ sym c)

  -- the line that is told stands in its place
  pub here : (i : ℕ) (r : Option CursorLine) (line : CursorLine) → r ≡ Some line
      → option_map line_seen r ≡ option_map line_of (slice_get cursors i)
      → (i < length all) × (line_seen line ≡ get_or all i (line_seen line))
  here i r line is e = by cursors i (ap (option_map line_seen) (sym is) ∙ e)
    where
      by : (cs : Cursors) (i : ℕ) → Some (line_seen line) ≡ option_map line_of (slice_get cs i)
          → (i < length (map line_of cs)) × (line_seen line ≡ get_or (map line_of cs) i
          (line_seen line))
      by [] i h = absurd (cc)
      by (c ∷ cs) zero h = (omega arith, cc)
      by (c ∷ cs) (suc i) h = let k = by cs i h in (omega (arith, k.0), k.1)

  -- where none is told, none is left
  pub none_here : (i : ℕ) (r : Option CursorLine) → r ≡ None
      → option_map line_seen r ≡ option_map line_of (slice_get cursors i) → length cursors ≤ i
  none_here i r is e = by cursors i (ap (option_map line_seen) (sym is) ∙ e)
    where
      by : (cs : Cursors) (i : ℕ) → None ≡ option_map line_of (slice_get cs i) → length cs ≤ i
      by [] i h = omega arith
      by (c ∷ cs) zero h = absurd (cc)
      by (c ∷ cs) (suc i) h = let k = by cs i h in omega (arith, k)
