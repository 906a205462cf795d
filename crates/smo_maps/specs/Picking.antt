-- Where the values of a made row stand in the one or two rows that it is made of.
use Rattle.std.specs.Prelude.{ℕ, suc, List, [], ◌∷◌, Option, Some, None, pos, is_some, slice_get}
use Rattle.std.specs.Prelude.{map, if◌then◌else◌}
use Rattle.std.specs.Option.{unwrap_or, option_map}
use Rattle.prima_base.specs.declared.value.Value.{Value}
use Rattle.prima_base.specs.declared.value.Value.TheVariants.{Int}
use Rattle.prima_base.specs.Columns.{Column}
use Rattle.smo_ops_spec.specs.OneRow.{Row, same}
use Rattle.smo_maps.specs.declared.source.Source.{Source}

-- the place of the first column with the name; none where there is no such column
abbrev pub place_of : List Column → List ℕ → Option ℕ
place_of [] name = None
place_of (c ∷ columns) name = if same c.0 name then Some 0
    else option_map suc (place_of columns name)

-- where the columns of two rows have the name
abbrev pub source_of : List Column → List Column → List ℕ → Source
source_of cs ds name = record { first = place_of cs name; second = place_of ds name }

-- what a row has at a place; a number where it has no such place
abbrev pub value_at : Row → Option ℕ → Value
value_at row None = Int (pos 0)
value_at row (Some i) = unwrap_or (slice_get row i) (Int (pos 0))

-- what stands at the source: in the first row where it has a place there, and else in the second
abbrev pub picked_value : Row → Row → Source → Value
picked_value a b s = if is_some s.first then value_at a s.first else value_at b s.second

abbrev pub picked_row : List Source → Row → Row → Row
picked_row sources a b = map (picked_value a b) sources
