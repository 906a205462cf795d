use Rattle.std.proofs.Common.{◌≡◌, sym, subst, ◌∙◌, List, true}
use Rattle.std.specs.List.Sorted.{IsPermutation}
use Rattle.std.proofs.lemmas.List.Sorted.{IsPermutation-trans}
use Rattle.relations_spec.specs.Listing.{IsListing}
use Rattle.prima_base.specs.Order.{row_cmp}
use Rattle.prima_base.specs.Timed.{rows_at, entries_of}
use Rattle.prima_base.specs.declared.timed_row.TimedRow.{TimedRow}
use Rattle.coalesce.proofs.Sorted.{coalesced}
use Rattle.coalesce.proofs.Values.{have_values, moved_have_values, listed_have_values}
use Rattle.coalesce.proofs.Listed.{same_at, unlisted_at}
use Rattle.coalesce.proofs.Unmoved.{unmoved, unjoined_listing}
use Rattle.coalesce.proofs.coalesce_in_place.Goals as goal
use Rattle.coalesce.proofs.coalesce_in_place.Goals.{After-is_listing-2, After-join_sorted}

-- sorting by groups moves rows, and so does sorting all
moved : (c : After-join_sorted) → IsPermutation c.cut_rows.new.rows.items c.sort.new.self.items
moved c = IsPermutation-trans _ _ _ c.sort_groups.ensures c.sort.ensures.permutation

listed : (c : After-join_sorted) → IsListing row_cmp (rows_at c.args.rows.now.items) c.args.slice
    (entries_of c.join_sorted.new.rows.items)
listed c =
    subst (λ (l : List TimedRow). IsListing row_cmp (rows_at c.args.rows.now.items) c.args.slice
    (entries_of l)) (sym c.join_sorted.ensures)
    (coalesced c.args.rows.now.items c.cut_rows.new.rows.items c.sort.new.self.items
    c.args.slice c.cut_rows.ensures (moved c) c.sort.ensures.sorted)

pub returns-clause-listing : goal.returns-clause-listing
returns-clause-listing c = listed (goal.at.returns-clause-listing c).After-join_sorted

pub returns-clause-same : goal.returns-clause-same
returns-clause-same c = same_at c.args.rows.now.items c.join_sorted.new.rows.items c.args.slice
    (listed (goal.at.returns-clause-same c).After-join_sorted)

pub returns-clause-inside : goal.returns-clause-inside
returns-clause-inside c = unlisted_at (rows_at c.args.rows.now.items) c.args.slice
    (entries_of c.join_sorted.new.rows.items)
    (listed (goal.at.returns-clause-inside c).After-join_sorted)

pub returns-clause-values : goal.returns-clause-values
returns-clause-values c = have_values c.args.rows.now.items c.cut_rows.new.rows.items
    c.sort.new.self.items _ c.args.slice c.cut_rows.ensures
    (moved (goal.at.returns-clause-values c).After-join_sorted) c.join_sorted.ensures

pub returns-then-is_listing-clause-listing : goal.returns-then-is_listing-clause-listing
returns-then-is_listing-clause-listing c = unmoved c.args.slice c.args.rows.now.items
    (sym c.is_listing.ensures ∙ c.if-is_listing.true)

pub returns-then-is_listing-clause-inside : goal.returns-then-is_listing-clause-inside
returns-then-is_listing-clause-inside c = unlisted_at (rows_at c.args.rows.now.items) c.args.slice
    (entries_of c.args.rows.now.items)
    (unmoved c.args.slice c.args.rows.now.items (sym c.is_listing.ensures ∙ c.if-is_listing.true))

pub returns-then-is_listing-clause-values : goal.returns-then-is_listing-clause-values
returns-then-is_listing-clause-values c = listed_have_values c.args.slice c.args.rows.now.items
    (sym c.is_listing.ensures ∙ c.if-is_listing.true)

-- ---- the groups in order are the list

listed_groups : (c : After-is_listing-2) → c.is_listing-2.result ≡ true
    → IsListing row_cmp (rows_at c.args.rows.now.items) c.args.slice
    (entries_of c.sort_groups.new.rows.items)
listed_groups c found = unjoined_listing c.args.rows.now.items c.cut_rows.new.rows.items
    c.sort_groups.new.rows.items c.args.slice c.cut_rows.ensures c.sort_groups.ensures
    (sym c.is_listing-2.ensures ∙ found)

pub returns-then-is_listing-2-clause-listing : goal.returns-then-is_listing-2-clause-listing
returns-then-is_listing-2-clause-listing c =
    listed_groups (goal.at.returns-then-is_listing-2-clause-listing c).After-is_listing-2
    c.if-is_listing-2.true

pub returns-then-is_listing-2-clause-same : goal.returns-then-is_listing-2-clause-same
returns-then-is_listing-2-clause-same c = same_at c.args.rows.now.items _ c.args.slice
    (listed_groups (goal.at.returns-then-is_listing-2-clause-same c).After-is_listing-2
    c.if-is_listing-2.true)

pub returns-then-is_listing-2-clause-inside : goal.returns-then-is_listing-2-clause-inside
returns-then-is_listing-2-clause-inside c = unlisted_at (rows_at c.args.rows.now.items)
    c.args.slice _
    (listed_groups (goal.at.returns-then-is_listing-2-clause-inside c).After-is_listing-2
    c.if-is_listing-2.true)

pub returns-then-is_listing-2-clause-values : goal.returns-then-is_listing-2-clause-values
returns-then-is_listing-2-clause-values c = moved_have_values c.args.rows.now.items
    c.cut_rows.new.rows.items c.sort_groups.new.rows.items c.args.slice c.cut_rows.ensures
    c.sort_groups.ensures
