-- One pass over rows, by their places.
use Rattle.std.proofs.Common.{◌≡◌, ◌<◌, ◌+◌, ℕ, true, List, [], ◌∷◌, length, get_or, drop, refl, ap}
use Rattle.std.proofs.Common.{arith}
use Rattle.std.specs.Prelude.{◌&&◌}
use Rattle.std.proofs.Math.ListN.{drop_of_length-le}
use Rattle.std.proofs.lemmas.List.{drop_more}
use Rattle.relations_spec.specs.Spans.{Span}
use Rattle.prima_base.specs.declared.timed_row.TimedRow.{TimedRow}
use Rattle.coalesce.specs.Listed.{is_inside, is_after, are_after, is_listing}

module _ (slice : Span) where
  pub first_is : (rows : List TimedRow) (d : TimedRow) → 0 < length rows
      → is_listing slice rows ≡ (is_inside slice (get_or rows 0 d).period
      && are_after slice (get_or rows 0 d) (drop 1 rows))
  first_is [] d h = absurd (omega arith)
  first_is (a ∷ rest) d h = refl

  pub next_is : (rows : List TimedRow) (a d : TimedRow) (n : ℕ) → n < length rows
      → are_after slice a (drop n rows) ≡ (is_inside slice (get_or rows n d).period
      && is_after a (get_or rows n d) && are_after slice (get_or rows n d) (drop (n + 1) rows))
  next_is rows a d n h = ap (are_after slice a) (drop_more rows n d h)

  pub none_after : (rows : List TimedRow) (a : TimedRow) (n : ℕ) → length rows ≡ n
      → are_after slice a (drop n rows) ≡ true
  none_after rows a n h = ap (are_after slice a) (drop_of_length-le rows (omega arith))
