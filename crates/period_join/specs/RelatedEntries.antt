-- The pairs of entries of two lists whose periods are related.
use Rattle.std.specs.Prelude.{◌≡◌, ◌↔◌, ℕ, List, true, map, slice_index_or}
use Rattle.std.specs.List.{filter, flat_map}
use Rattle.std.specs.Ordering.{ordering_then}
use Rattle.std.specs.declared.cmp.Ordering.{Ordering}
use Rattle.relations_spec.specs.Listing.{entry_cmp}
use Rattle.relations_spec.specs.Sets.{In, Ascends}
use Rattle.relations_spec.specs.Timed.{Entry}
use Rattle.prima_base.specs.Order.{row_cmp}
use Rattle.prima_base.specs.declared.value.Value.{Value}
use Rattle.prima_base.specs.declared.timed_row.TimedRow.{TimedRow}
use Rattle.prima_base.specs.Timed.{entry_of}
use Rattle.temporal_lang_types.specs.declared.relation.Relation.{Relation}
use Rattle.period_join.specs.Relations.{relates}

-- the entry with each of the others to whose period its own is related
abbrev pub related_to : {X : Type 0} → Relation → List (Entry X) → Entry X
    → List (Entry X × Entry X)
related_to relation others e =
    map (λ f. (e, f)) (filter (λ f. relates relation e.period f.period) others)

-- all related pairs, by the left entry, then the right one
abbrev pub related_entries : {X : Type 0} → Relation → List (Entry X) → List (Entry X)
    → List (Entry X × Entry X)
related_entries relation left right = flat_map (related_to relation right) left

-- by the left entry, then the right one
abbrev pub pair_cmp : Entry (List Value) × Entry (List Value)
    → Entry (List Value) × Entry (List Value) → Ordering
pair_cmp p q = ordering_then (entry_cmp row_cmp p.0 q.0) (entry_cmp row_cmp p.1 q.1)

-- these are all pairs of an entry of each list whose periods are related, and no others; they
-- ascend, so that each is there once
pub record AreRelated (relation : Relation) (left right : List (Entry (List Value)))
    (pairs : List (Entry (List Value) × Entry (List Value))) : Type 0 where
  pub members : (e f : Entry (List Value)) → In (e, f) pairs
      ↔ (In e left × In f right × (relates relation e.period f.period ≡ true))
  pub ascending : Ascends pair_cmp pairs

-- the entries that two lists of rows show at a pair of places
abbrev pub entries_at : TimedRow → List TimedRow → List TimedRow → ℕ × ℕ
    → Entry (List Value) × Entry (List Value)
entries_at d left right pair = (
  entry_of (slice_index_or left pair.0 d),
  entry_of (slice_index_or right pair.1 d),
)
