-- The lines of entries that a cursor kept.
use Rattle.std.proofs.Common.{◌≡◌, ◌<◌, ◌≤◌, ◌+◌, ℕ, List, ◌++◌, length, drop, get_or}
use Rattle.std.proofs.Common.{sym, ap, ◌∙◌, append_assoc, append-nil}
use Rattle.std.specs.Prelude.{Bool, map}
use Rattle.std.specs.List.{flat_map}
use Rattle.std.proofs.lemmas.List.{length-map, drop_all}
use Rattle.sessions.specs.declared.vault.KeptRow.{KeptRow}
use Rattle.sessions.specs.Kept.{kept_entry, kept_entries}
use Rattle.answer_text.specs.Texts.{row_text, listing_text, count_text}
use Rattle.answer_text.proofs.Listed as listed

module _ (told : Bool) (rows : List KeptRow) where
  abbrev pub lines : List KeptRow → List ℕ
  lines rs = flat_map (row_text told) (map kept_entry rs)

  abbrev pub whole : List ℕ
  whole = listing_text told (kept_entries rows)

  pub all_lines : whole ≡ lines rows ++ count_text (length rows)
  unfolding listing_text
  all_lines = ap (λ n. lines rows ++ count_text n) (length-map rows kept_entry)

  module _ (i : ℕ) (row : KeptRow) (sent : List ℕ) (l : i < length rows)
      (is : row ≡ get_or rows i row) (e : lines rows ≡ sent ++ lines (drop i rows)) where
    pub next_lines : lines rows
        ≡ (sent ++ row_text told (kept_entry row)) ++ lines (drop (i + 1) rows)
    next_lines = listed.sent_text (row_text told) kept_entry rows i row sent l is e

    pub next_text : whole ≡ sent ++ (row_text told (kept_entry row)
        ++ (lines (drop (i + 1) rows) ++ count_text (length rows)))
    next_text = all_lines ∙ ap (λ t. t ++ count_text (length rows)) next_lines
        ∙ append_assoc (sent ++ row_text told (kept_entry row)) (lines (drop (i + 1) rows))
        (count_text (length rows))
        ∙ append_assoc sent (row_text told (kept_entry row))
        (lines (drop (i + 1) rows) ++ count_text (length rows))

  pub last_text : (i n : ℕ) (sent : List ℕ) → length rows ≤ i → n ≡ length rows
      → lines rows ≡ sent ++ lines (drop i rows) → whole ≡ sent ++ count_text n
  last_text i n sent l c e = all_lines ∙ ap (λ t. t ++ count_text (length rows))
      (e ∙ ap (λ rs. sent ++ lines rs) (drop_all i rows l) ∙ append-nil sent)
      ∙ ap (λ k. sent ++ count_text k) (sym c)
