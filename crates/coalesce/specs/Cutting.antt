-- Rows and entries, cut to a slice.
use Rattle.std.specs.Prelude.{ℕ, List, ◌++◌, take, drop, Option, Some, None, if◌then◌else◌}
use Rattle.std.specs.List.{filter_map}
use Rattle.relations_spec.specs.Spans.{Span, common}
use Rattle.relations_spec.specs.Timed.{Entry}
use Rattle.prima_base.specs.Keeping.{keeps_all}
use Rattle.prima_base.specs.declared.keep.Keep.{Keep}
use Rattle.prima_base.specs.declared.timed_row.TimedRow.{TimedRow}

abbrev pub with_period : TimedRow → Option Span → Option TimedRow
with_period row None = None
with_period row (Some p) = Some (record row { period = p })

-- a row, if it has a moment of the slice
abbrev pub cut_row : Span → TimedRow → Option TimedRow
cut_row slice row = with_period row (common row.period slice)

abbrev pub entry_with : {X : Type 0} → X → Option Span → Option (Entry X)
entry_with x None = None
entry_with x (Some p) = Some (record { item = x; period = p })

-- an entry, if it has a moment of the slice
abbrev pub cut_entry : {X : Type 0} → Span → Entry X → Option (Entry X)
cut_entry slice e = entry_with e.item (common e.period slice)

-- a row, if its period meets each of the conditions
abbrev pub kept_row : List Keep → TimedRow → Option TimedRow
kept_row conditions row = if keeps_all conditions row.period then Some row else None

-- what the list stands for: what is kept, and the rest, not yet looked at
unfoldable pub left : {E : Type 0} → (E → Option E) → ℕ → ℕ → List E → List E
left f kept next rows = take kept rows ++ filter_map f (drop next rows)
