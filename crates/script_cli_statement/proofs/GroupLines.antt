-- The lines of groups.
use Rattle.std.proofs.Common.{◌≡◌, ◌<◌, ◌≤◌, ◌+◌, ℕ, List, [], ◌∷◌, ◌++◌, length, drop, get_or}
use Rattle.std.proofs.Common.{sym, ap, ◌∙◌, append_assoc, append-nil}
use Rattle.std.specs.Prelude.{Bool, map}
use Rattle.std.specs.List.{flat_map}
use Rattle.std.proofs.lemmas.List.{length-map, drop_all}
use Rattle.prima_base.specs.declared.agg_row.AggRow.{AggRow}
use Rattle.prima_base.specs.Groups.{group_shown, groups_shown}
use Rattle.answer_text.specs.Texts.{aggregate_text, aggregates_text, count_text}
use Rattle.answer_text.proofs.Listed as listed

module _ (told : Bool) (rows : List AggRow) where
  abbrev pub lines : List AggRow → List ℕ
  lines rs = flat_map (aggregate_text told) (map group_shown rs)

  abbrev pub whole : List ℕ
  whole = aggregates_text told (groups_shown rows)

  pub all_lines : whole ≡ lines rows ++ count_text (length rows)
  unfolding aggregates_text
  all_lines = ap (λ n. lines rows ++ count_text n) (length-map rows group_shown)

  module _ (i : ℕ) (row : AggRow) (sent : List ℕ) (l : i < length rows)
      (is : row ≡ get_or rows i row) (e : lines rows ≡ sent ++ lines (drop i rows)) where
    pub next_lines : lines rows
        ≡ (sent ++ aggregate_text told (group_shown row)) ++ lines (drop (i + 1) rows)
    next_lines = listed.sent_text (aggregate_text told) group_shown rows i row sent l is e

    pub next_text : whole ≡ sent ++ (aggregate_text told (group_shown row)
        ++ (lines (drop (i + 1) rows) ++ count_text (length rows)))
    next_text = all_lines ∙ ap (λ t. t ++ count_text (length rows)) next_lines
        ∙ append_assoc (sent ++ aggregate_text told (group_shown row)) (lines (drop (i + 1) rows))
        (count_text (length rows))
        ∙ append_assoc sent (aggregate_text told (group_shown row))
        (lines (drop (i + 1) rows) ++ count_text (length rows))

  pub last_text : (i n : ℕ) (sent : List ℕ) → length rows ≤ i → n ≡ length rows
      → lines rows ≡ sent ++ lines (drop i rows) → whole ≡ sent ++ count_text n
  last_text i n sent l c e = all_lines ∙ ap (λ t. t ++ count_text (length rows))
      (e ∙ ap (λ rs. sent ++ lines rs) (drop_all i rows l) ∙ append-nil sent)
      ∙ ap (λ k. sent ++ count_text k) (sym c)
