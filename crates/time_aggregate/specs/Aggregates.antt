-- What groups of rows have at a moment: how many rows, the least and the greatest value of an
-- output, and the sum of an output.
use Rattle.std.specs.Prelude.{ℕ, ◌-◌, ℤ, pos, ◌+ℤ◌, Bool, List, [], ◌∷◌, map, length, take}
use Rattle.std.specs.Prelude.{slice_index_or}
use Rattle.std.specs.List.{filter}
use Rattle.std.specs.Ordering.{is_eq}
use Rattle.std.specs.declared.cmp.Ordering.{Ordering}
use Rattle.relations_spec.specs.Sets.{set_of}
use Rattle.relations_spec.specs.Spans.{Span}
use Rattle.relations_spec.specs.Timed.{Entry}
use Rattle.relations_spec.specs.Listing.{IsListing}
use Rattle.prima_base.specs.declared.value.Value.{Value}
use Rattle.prima_base.specs.declared.value.Value.TheVariants.{Int, Text}
use Rattle.prima_base.specs.Order.{value_cmp, row_cmp}
use Rattle.prima_base.specs.Groups.{Amount, count, one, sum, Group}
use Rattle.temporal_lang_types.specs.declared.agg_item.AggItem.{AggItem}
use Rattle.temporal_lang_types.specs.declared.agg_item.AggItem.TheVariants.{Count, Min, Max, Sum}

abbrev pub Row : Type 0
Row = List Value

-- the value of the row at a place, which is counted from 1
abbrev pub cell : ℕ → Row → Value
cell place row = slice_index_or row (place - 1) (Int (pos 0))

abbrev pub cells : ℕ → List Row → List Value
cells place rows = map (cell place) rows

-- the number of an INT
abbrev pub number : Value → ℤ
number (Int n) = n
number (Text t) = pos 0

-- numbers of members, added up
abbrev pub total_by : {X : Type 0} → (X → ℤ) → List X → ℤ
total_by f [] = pos 0
total_by f (x ∷ xs) = f x +ℤ total_by f xs

-- the first and the last of values
abbrev pub first_of : List Value → Value
first_of [] = Int (pos 0)
first_of (v ∷ values) = v

abbrev pub last_of : List Value → Value
last_of [] = Int (pos 0)
last_of (v ∷ []) = v
last_of (v ∷ w ∷ values) = last_of (w ∷ values)

-- the least and the greatest of values: the first and the last of them, put in order
unfoldable pub least : List Value → Value
least values = first_of (set_of value_cmp values)

unfoldable pub greatest : List Value → Value
greatest values = last_of (set_of value_cmp values)

-- what an aggregate has of rows
abbrev pub amount_of : AggItem → List Row → Amount
amount_of Count rows = count (length rows)
amount_of (Min place) rows = one (least (cells place rows))
amount_of (Max place) rows = one (greatest (cells place rows))
amount_of (Sum place) rows = sum (total_by number (cells place rows))

abbrev pub amounts_of : List AggItem → List Row → List Amount
amounts_of items rows = map (λ item. amount_of item rows) items

-- the rows that begin with these values
abbrev pub begins_with : ℕ → List Value → Row → Bool
begins_with g key row = is_eq (row_cmp (take g row) key)

abbrev pub rows_of : ℕ → List Value → List Row → List Row
rows_of g key rows = filter (begins_with g key) rows

-- the group of these first values
abbrev pub group_of : ℕ → List AggItem → List Row → List Value → Group
group_of g items rows key = record { key = key; amounts = amounts_of items (rows_of g key rows) }

-- the groups of rows that have a row, by their first values, ascending
abbrev pub keys_of : ℕ → List Row → List (List Value)
keys_of g rows = set_of row_cmp (map (take g) rows)

unfoldable pub groups : ℕ → List AggItem → List Row → List Group
groups g items rows = map (group_of g items rows) (keys_of g rows)

-- groups are in order by their first values alone: at each moment there is one of each
abbrev pub group_cmp : Group → Group → Ordering
group_cmp a b = row_cmp a.key b.key

-- the one list of the groups of what holds in the slice: each group with what the aggregates have
-- of it, as long as that stays the same; ascending by group, then start
abbrev pub IsAggregated : ℕ → List AggItem → (ℕ → List Row) → Span → List (Entry Group) → Type 0
IsAggregated g items relation slice entries = IsListing group_cmp
    (λ m. groups g items (relation m)) slice entries
