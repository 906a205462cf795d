-- The keys of a table: for each id the period in which it has a row.
use Rattle.std.specs.Prelude.{◌≡◌, ℕ, ◌<◌, List, length, slice_index_or}
use Rattle.relations_spec.specs.Spans.{Span, forever}

abbrev pub no_span : Span
no_span = record { start = 0; end = 0 }

abbrev pub IsOpen : List Span → ℕ → Type 0
IsOpen keys id = (id < length keys) × ((slice_index_or keys id no_span).end ≡ forever)

abbrev pub ended_at : ℕ → Span → Span
ended_at stamp p = record { start = p.start; end = stamp }
