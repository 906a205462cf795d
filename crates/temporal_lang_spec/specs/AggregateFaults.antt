-- What is wrong with an AGGREGATE: what is wrong with its query, but that the aggregates are looked
-- at before the first loss. The outputs are those of the first branch.
use Rattle.std.specs.Prelude.{ℕ, ◌-◌, List, [], ◌∷◌, ◌++◌, ◌&&◌, Bool, true, false, map, length}
use Rattle.std.specs.Prelude.{nat_le, get_or, Option, Some, None}
use Rattle.prima_base.specs.declared.value.ColType.{ColType}
use Rattle.prima_base.specs.declared.value.ColType.TheVariants.{Int, Text}
use Rattle.prima_base.specs.declared.refusal.Refusal.TheVariants.{NoOutput, NotANumber}
use Rattle.schema_catalog.specs.Tables.{Tables}
use Rattle.smo_ops_spec.specs.First.{unless, where_so, first_refusal}
use Rattle.smo_ops_spec.specs.Checks.{Fault}
use Rattle.smo_ops_spec.specs.Past.{Past, tables_of}
use Rattle.temporal_lang_types.specs.declared.agg_item.AggItem.{AggItem}
use Rattle.temporal_lang_types.specs.declared.agg_item.AggItem.TheVariants.{Count, Min, Max, Sum}
use Rattle.temporal_lang_types.specs.Queries.{PlainQuery}
use Rattle.temporal_lang_spec.specs.Atoms.{branches_with_atoms}
use Rattle.temporal_lang_spec.specs.Checking.{output_kinds, excess_of, excess_fault, query_tests}
use Rattle.temporal_lang_spec.specs.Accepted.{version_fault, loss_fault}
use Rattle.temporal_lang_spec.specs.Losing.{first_lost}

-- the types of the outputs of the first of several branches
abbrev pub first_of_kinds : List (List (Option ColType)) → List (Option ColType)
first_of_kinds [] = []
first_of_kinds (kinds ∷ others) = kinds

-- a place is that of one of so many outputs, from 1
abbrev pub place_fault : ℕ → ℕ → Fault
place_fault outputs place =
    unless (nat_le 1 place && nat_le place outputs) (NoOutput place outputs)

abbrev pub item_fault : ℕ → AggItem → Fault
item_fault outputs Count = None
item_fault outputs (Min place) = place_fault outputs place
item_fault outputs (Max place) = place_fault outputs place
item_fault outputs (Sum place) = place_fault outputs place

-- the output is a TEXT
abbrev pub is_text : Option ColType → Bool
is_text (Some Text) = true
is_text (Some Int) = false
is_text None = false

-- a sum is one of INTs
abbrev pub sum_fault : List (Option ColType) → AggItem → Fault
sum_fault kinds (Sum place) = where_so (is_text (get_or kinds (place - 1) None)) (NotANumber place)
sum_fault kinds Count = None
sum_fault kinds (Min place) = None
sum_fault kinds (Max place) = None

-- how many outputs make the group, and then the sums
abbrev pub group_tests : List (Option ColType) → List AggItem → ℕ → List Fault
group_tests kinds items group = unless (nat_le group (length kinds)) (NoOutput group (length kinds))
    ∷ map (sum_fault kinds) items

-- the places of the aggregates before them
abbrev pub aggregate_tests : List (Option ColType) → List AggItem → ℕ → List Fault
aggregate_tests kinds items group = map (item_fault (length kinds)) items
    ++ group_tests kinds items group

-- those of an aggregate over the tables of the query's version
abbrev pub aggregate_tests_over : Tables → List AggItem → ℕ → PlainQuery → List Fault
aggregate_tests_over tables items group query = aggregate_tests
    (first_of_kinds (map (output_kinds tables) (branches_with_atoms tables query.branches))) items
    group

-- the refusal of an aggregate over the tables of its version, but for losses
abbrev pub aggregate_fault : Tables → List AggItem → ℕ → PlainQuery → Fault
aggregate_fault tables items group query = first_refusal (excess_fault (excess_of query)
    ∷ (query_tests tables query ++ aggregate_tests_over tables items group query))

-- all tests but that for a loss
abbrev pub aggregate_checks : Past → List AggItem → ℕ → PlainQuery → List Fault
aggregate_checks past items group query = excess_fault (excess_of query)
    ∷ version_fault past query.version ∷ (query_tests (tables_of past query.version) query
    ++ aggregate_tests_over (tables_of past query.version) items group query)

abbrev pub tests_of_aggregate : Past → List AggItem → ℕ → PlainQuery → List Fault
tests_of_aggregate past items group query = aggregate_checks past items group query
    ++ loss_fault past.versions (first_lost past query) ∷ []

abbrev pub fault_of_aggregate : Past → List AggItem → ℕ → PlainQuery → Fault
fault_of_aggregate past items group query =
    first_refusal (tests_of_aggregate past items group query)
