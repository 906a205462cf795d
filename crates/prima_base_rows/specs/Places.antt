-- Places of rows in a list of values.
use Rattle.std.specs.Prelude.{ℕ, ◌≤◌, ◌+◌, List, take, drop, length, map, All}
use Rattle.std.specs.declared.cmp.Ordering.{Ordering}
use Rattle.std.specs.declared.vec.Vec.{Vec}
use Rattle.std.specs.declared.alloc.Global.{Global}
use Rattle.std.specs.Ordering.{nat_cmp, ordering_then}
use Rattle.prima_base.specs.declared.value.Val.{Val}
use Rattle.prima_base.specs.declared.timed_row.TimedRow.{TimedRow}
use Rattle.prima_base.specs.Timed.{vals_cmp}
use Rattle.prima_base_rows.specs.declared.place.RowPlace.{RowPlace}
use Rattle.prima_base_rows.specs.declared.rows.TimedRows.TheInside.{Inside}
use Rattle.prima_base_rows.specs.Rows.{Rows, part_of}

-- the values that stand there
abbrev pub values_at : List Val → RowPlace → List Val
values_at values place = take place.len (drop place.start values)

-- by row, then start, then end
abbrev pub place_cmp : List Val → RowPlace → RowPlace → Ordering
place_cmp values a b = ordering_then (vals_cmp (values_at values a) (values_at values b))
    (ordering_then (nat_cmp a.period.start b.period.start) (nat_cmp a.period.end b.period.end))

-- the place lies inside the list
abbrev pub IsInside : List Val → RowPlace → Type 0
IsInside values place = place.start + place.len ≤ length values

-- the place of the same values, where so many others stand before them
abbrev pub moved : ℕ → RowPlace → RowPlace
moved before place = record place { start = before + place.start }

-- the row that stands there
abbrev pub row_at : Vec Val Global → RowPlace → TimedRow
row_at values place = part_of values place.start place.len place.period

-- each of the places has a row
abbrev pub rows_at_places : Inside → Rows
rows_at_places a = record { items = map (row_at a.values) a.places.items }

abbrev pub AreInside : Inside → Type 0
AreInside a = All (IsInside a.values.items) a.places.items
