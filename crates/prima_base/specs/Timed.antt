-- Rows with periods, as entries of a relation that changes over time.
use Rattle.std.specs.Prelude.{ℕ, List, map}
use Rattle.std.specs.declared.cmp.Ordering.{Ordering}
use Rattle.std.specs.Ordering.{nat_cmp, ordering_then}
use Rattle.std.specs.Cmp.Lexicographic.{slice_cmp}
use Rattle.relations_spec.specs.Timed.{Entry, at}
use Rattle.prima_base.specs.declared.value.Value.{Value}
use Rattle.prima_base.specs.declared.value.Val.{Val}
use Rattle.prima_base.specs.declared.timed_row.TimedRow.{TimedRow}
use Rattle.prima_base.specs.Order.{value_cmp, row_cmp, shown}

-- the row that is shown, with its period
abbrev pub entry_of : TimedRow → Entry (List Value)
entry_of t = record { item = map shown t.values.items; period = t.period }

abbrev pub entries_of : List TimedRow → List (Entry (List Value))
entries_of rows = map entry_of rows

-- the relation of the rows whose period has the moment
abbrev pub rows_at : List TimedRow → ℕ → List (List Value)
rows_at rows m = at row_cmp (entries_of rows) m

-- Vals are compared by the values that they show
abbrev pub vals_cmp : List Val → List Val → Ordering
vals_cmp a b = slice_cmp (λ x y. value_cmp (shown x) (shown y)) a b

-- by row, then start, then end
abbrev pub timed_cmp : TimedRow → TimedRow → Ordering
timed_cmp a b = ordering_then (vals_cmp a.values.items b.values.items)
    (ordering_then (nat_cmp a.period.start b.period.start) (nat_cmp a.period.end b.period.end))
