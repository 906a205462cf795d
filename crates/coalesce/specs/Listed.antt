-- Rows that are the list of what they hold as they stand.
use Rattle.std.specs.Prelude.{Bool, true, ◌&&◌, nat_le, nat_lt, List, [], ◌∷◌}
use Rattle.std.specs.Ordering.{is_lt, nat_cmp, ordering_then}
use Rattle.relations_spec.specs.Spans.{Span}
use Rattle.prima_base.specs.declared.timed_row.TimedRow.{TimedRow}
use Rattle.prima_base.specs.Timed.{vals_cmp}

-- the period has moments, and all of them are moments of the slice
abbrev pub is_inside : Span → Span → Bool
is_inside slice p = nat_le slice.start p.start && nat_lt p.start p.end && nat_le p.end slice.end

-- the second is of a later row, or of the same row after a gap
abbrev pub is_after : TimedRow → TimedRow → Bool
is_after a b = is_lt (ordering_then (vals_cmp a.values.items b.values.items)
    (nat_cmp a.period.end b.period.start))

-- each is inside the slice, and after the one before it
abbrev pub are_after : Span → TimedRow → List TimedRow → Bool
are_after slice a [] = true
are_after slice a (b ∷ rest) = is_inside slice b.period && is_after a b && are_after slice b rest

abbrev pub is_listing : Span → List TimedRow → Bool
is_listing slice [] = true
is_listing slice (a ∷ rest) = is_inside slice a.period && are_after slice a rest
