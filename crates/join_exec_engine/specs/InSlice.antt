-- Entries in their moments of a slice.
use Rattle.std.specs.Prelude.{List}
use Rattle.std.specs.List.{flat_map}
use Rattle.relations_spec.specs.Spans.{Span, common}
use Rattle.relations_spec.specs.Timed.{Entry}
use Rattle.prima_base.specs.declared.value.Value.{Value}
use Rattle.join_exec_spec.specs.Choosing.{in_period}

-- an entry in the moments that it has of the slice, and none where it has none
abbrev pub in_slice : Span → Entry (List Value) → List (Entry (List Value))
in_slice slice e = in_period e.item (common slice e.period)

abbrev pub all_in_slice : Span → List (Entry (List Value)) → List (Entry (List Value))
all_in_slice slice entries = flat_map (in_slice slice) entries
