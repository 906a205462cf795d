-- The groups of rows.
use Rattle.std.specs.Prelude.{◌↔◌, ℕ, ◌<◌, ◌≤◌, List, [], ◌∷◌}
use Rattle.std.proofs.Common.{refl, sym, subst, inl}
use Rattle.relations_spec.specs.Sets.{In, Ascends, set_of}
use Rattle.relations_spec.specs.Spans.{Span, always, forever}
use Rattle.relations_spec.specs.Timed.{Entry, at}
use Rattle.relations_spec.specs.Listing.{IsListing}
use Rattle.prima_base.specs.Order.{row_cmp}
use Rattle.prima_base.specs.OrderLaws.{row_exact}
use Rattle.temporal_lang_types.specs.declared.agg_item.AggItem.{AggItem}
use Rattle.prima_base.specs.Groups.{Group}
use Rattle.time_aggregate.specs.Aggregates.{Row, IsAggregated, groups, group_cmp}
use Rattle.time_aggregate.proofs.SliceLaws.{at_is, at_inside, lists_itself, listing_inside}

-- a group that is there has a row
pub group_has_row : (g : ℕ) (items : List AggItem) (rows : List Row) (x : Group)
    → In x (groups g items rows) → (row : Row) × In row rows
unfolding groups set_of
group_has_row g items [] x h = absurd h
group_has_row g items (row ∷ rows) x h = (row, inl refl)

pub listing_itself : (relation : ℕ → List Row) (slice : Span) (entries : List (Entry Row))
    → slice.end ≤ forever → IsListing row_cmp relation slice entries
    → IsListing row_cmp (at row_cmp entries) always entries
listing_itself relation slice entries b p = lists_itself row_cmp row_exact relation slice entries p
    b

pub told_of_slice : (g : ℕ) (items : List AggItem) (relation : ℕ → List Row) (slice : Span)
    (entries : List (Entry Row)) (told : List (Entry Group)) → slice.end ≤ forever
    → ((m : ℕ) → Ascends row_cmp (relation m)) → IsListing row_cmp relation slice entries
    → IsAggregated g items (at row_cmp entries) always told
    → IsAggregated g items relation slice told
told_of_slice g items relation slice entries told b s p t =
    listing_inside (λ m. groups g items (at row_cmp entries m)) (λ m. groups g items (relation m))
    slice b agree inside group_cmp told t
  where
    agree : (x : Group) (m : ℕ) → slice.start ≤ m → m < slice.end
        → In x (groups g items (at row_cmp entries m)) ↔ In x (groups g items (relation m))
    agree x m u v =
        let e = at_is row_cmp row_exact relation slice entries p s m u v in (
          λ h. subst (λ (w : List Row). In x (groups g items w)) e h,
          λ h. subst (λ (w : List Row). In x (groups g items w)) (sym e) h,
        )

    inside : (x : Group) (m : ℕ) → In x (groups g items (at row_cmp entries m))
        → (slice.start ≤ m) × (m < slice.end)
    inside x m h =
        let r = group_has_row g items (at row_cmp entries m) x h in
        at_inside row_cmp row_exact relation slice entries p r.0 m r.1
