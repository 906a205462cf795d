-- The list of what aggregates have of the groups of rows, over time.
use Rattle.std.specs.Prelude.{ℕ, List, [], ◌∷◌, Bool, true, false, ◌&&◌, Option, Some, None, map}
use Rattle.std.specs.Prelude.{nat_lt, pos, take}
use Rattle.std.specs.List.{filter, flat_map}
use Rattle.std.specs.Ordering.{nat_cmp}
use Rattle.relations_spec.specs.Sets.{set_of}
use Rattle.relations_spec.specs.Spans.{forever}
use Rattle.relations_spec.specs.Timed.{Entry, at}
use Rattle.prima_base.specs.declared.value.Value.{Value}
use Rattle.prima_base.specs.declared.value.Value.TheVariants.{Int}
use Rattle.prima_base.specs.Order.{value_eq, row_cmp}
use Rattle.prima_base.specs.Groups.{Amount, count, one, sum, Group}
use Rattle.temporal_lang_types.specs.declared.agg_item.AggItem.{AggItem}
use Rattle.time_aggregate.specs.Aggregates.{Row, amounts_of, rows_of}
use Rattle.time_aggregate.specs.Lasting.{Step, lasting}

-- both are the same
abbrev pub same_amount : Amount → Amount → Bool
same_amount (count n) (count m) = value_eq (Int (pos n)) (Int (pos m))
same_amount (count n) (one w) = false
same_amount (count n) (sum m) = false
same_amount (one v) (count m) = false
same_amount (one v) (one w) = value_eq v w
same_amount (one v) (sum m) = false
same_amount (sum n) (count m) = false
same_amount (sum n) (one w) = false
same_amount (sum n) (sum m) = value_eq (Int n) (Int m)

abbrev pub same_amounts : List Amount → List Amount → Bool
same_amounts [] [] = true
same_amounts [] (b ∷ bs) = false
same_amounts (a ∷ others) [] = false
same_amounts (a ∷ others) (b ∷ bs) = same_amount a b && same_amounts others bs

-- what the aggregates have of a group of rows; none where it has no row
abbrev pub amounts_if : List AggItem → List Row → Option (List Amount)
amounts_if items [] = None
amounts_if items (row ∷ rows) = Some (amounts_of items (row ∷ rows))

-- the moments, above the first, at which entries begin and end to hold, in order
abbrev pub is_inner : ℕ → Bool
is_inner m = nat_lt 0 m && nat_lt m forever

abbrev pub both_ends : {X : Type 0} → Entry X → List ℕ
both_ends e = e.period.start ∷ e.period.end ∷ []

abbrev pub turns : {X : Type 0} → List (Entry X) → List ℕ
turns entries = set_of nat_cmp (filter is_inner (flat_map both_ends entries))

-- what they have of the group of these first values, at the first moment and from each turn on
abbrev pub step_of_group : ℕ → List AggItem → List (Entry Row) → List Value → ℕ
    → Step (List Amount)
step_of_group g items entries key m = record {
  moment = m;
  there = amounts_if items (rows_of g key (at row_cmp entries m));
}

abbrev pub steps_of_group : ℕ → List AggItem → List (Entry Row) → List Value
    → List (Step (List Amount))
steps_of_group g items entries key =
    map (step_of_group g items entries key) (0 ∷ turns entries)

-- a group, with the periods in which what the aggregates have of it stays the same
abbrev pub of_group : List Value → Entry (List Amount) → Entry Group
of_group key e = record { item = record { key = key; amounts = e.item }; period = e.period }

abbrev pub entries_of_group : ℕ → List AggItem → List (Entry Row) → List Value
    → List (Entry Group)
entries_of_group g items entries key =
    map (of_group key) (lasting same_amounts None (steps_of_group g items entries key))

-- the groups of all rows, by their first values, ascending
abbrev pub all_keys : ℕ → List (Entry Row) → List (List Value)
all_keys g entries = set_of row_cmp (map (λ (e : Entry Row). take g e.item) entries)

-- what the aggregates have of the groups of the rows that hold at each moment: each group with its
-- longest periods, by group, then start
unfoldable pub aggregated : ℕ → List AggItem → List (Entry Row) → List (Entry Group)
aggregated g items entries = flat_map (entries_of_group g items entries) (all_keys g entries)
