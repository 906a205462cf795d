-- Rows that are inside a slice, each after the one before it, are the list of what they hold.
use Rattle.std.proofs.Common.{◌≡◌, ◌<◌, Bool, true, false, List, [], ◌∷◌, refl, ap, ◌∙◌, subst}
use Rattle.std.proofs.Common.{inl, inr, arith}
use Rattle.std.specs.Prelude.{◌&&◌, cond, nat_le}
use Rattle.std.specs.Ordering.{is_lt, is_eq, nat_cmp, ordering_then}
use Rattle.std.specs.declared.cmp.Ordering.{Ordering}
use Rattle.std.specs.declared.cmp.Ordering.TheVariants.{Less, Equal, Greater}
use Rattle.std.proofs.lemmas.Bool.Decides.{nat_tests}
use Rattle.relations_spec.specs.Sets.{In}
use Rattle.relations_spec.specs.Spans.{Span}
use Rattle.relations_spec.specs.Timed.{Entry}
use Rattle.relations_spec.specs.Listing.{IsListing}
use Rattle.relations_spec.proofs.SetLaws.{in_map}
use Rattle.prima_base.specs.declared.value.Value.{Value}
use Rattle.prima_base.specs.declared.timed_row.TimedRow.{TimedRow}
use Rattle.prima_base.specs.Order.{row_cmp}
use Rattle.prima_base.specs.OrderLaws.{row_exact}
use Rattle.prima_base.specs.Timed.{entry_of, entries_of, rows_at}
use Rattle.std.specs.List.{filter_map}
use Rattle.std.specs.List.Sorted.{IsPermutation}
use Rattle.coalesce.specs.Cutting.{cut_row}
use Rattle.coalesce.specs.Joining.{touch_entries, join_entries, into, merged}
use Rattle.coalesce.specs.Listed.{is_inside, is_after, are_after, is_listing}
use Rattle.coalesce.proofs.Cut.{Within}
use Rattle.coalesce.proofs.Joined.{NotAfter, Ordered, merged_listing}
use Rattle.coalesce.proofs.Sorted.{vals_as_rows, joined_rows, joined_listing}

both : (a b : Bool) → (a && b) ≡ true → (a ≡ true) × (b ≡ true)
both true b e = (refl, e)
both false b e = absurd (cc)

-- inside, and after the one before it, and so are the others
parts : (a b c : Bool) → (a && b && c) ≡ true → (a ≡ true) × (b ≡ true) × (c ≡ true)
parts true true c e = (refl, refl, e)
parts true false c e = absurd (cc)
parts false b c e = absurd (cc)

within : (slice : Span) (e : Entry (List Value)) → is_inside slice e.period ≡ true
    → Within slice e
within slice e h = record {
  from = grind (arith, nat_tests);
  lasting = grind (arith, nat_tests);
  to = grind (arith, nat_tests);
}

-- ---- one after the other

Apart : TimedRow → TimedRow → Type 0
Apart a b = (a.period.start < a.period.end
    → NotAfter row_cmp row_exact (entry_of a) (entry_of b))
    × (touch_entries row_cmp (entry_of a) (entry_of b) ≡ false)

apart : (a b : TimedRow) → is_after a b ≡ true → Apart a b
unfolding Apart
apart a b h = step (row_cmp (entry_of a).item (entry_of b).item) refl
    (subst (λ r. is_lt (ordering_then r (nat_cmp a.period.end b.period.start)) ≡ true)
    (vals_as_rows a b) h)
  where
    step : (r : Ordering) → row_cmp (entry_of a).item (entry_of b).item ≡ r
        → is_lt (ordering_then r (nat_cmp a.period.end b.period.start)) ≡ true
        → (a.period.start < a.period.end
        → NotAfter row_cmp row_exact (entry_of a) (entry_of b))
        × ((is_eq r && nat_le b.period.start a.period.end) ≡ false)
    step Less q k = ((λ l. inl q), refl)
    step Equal q k = (
      (λ l. inr (
        row_exact.same (entry_of a).item (entry_of b).item q,
        grind (arith, nat_tests),
      )),
      grind (arith, nat_tests),
    )
    step Greater q k = absurd (cc)

-- ---- all of them

each_within : (slice : Span) (a : TimedRow) (rest : List TimedRow)
    → is_inside slice a.period ≡ true → are_after slice a rest ≡ true
    → (e : Entry (List Value)) → In e (entries_of (a ∷ rest)) → Within slice e
each_within slice a [] i h e (inl q) =
    subst (λ (w : Entry (List Value)). Within slice w) q (within slice (entry_of a) i)
each_within slice a [] i h e (inr k) = absurd k
each_within slice a (b ∷ rest) i h e (inl q) =
    subst (λ (w : Entry (List Value)). Within slice w) q (within slice (entry_of a) i)
each_within slice a (b ∷ rest) i h e (inr k) =
    let p = parts (is_inside slice b.period) (is_after a b) (are_after slice b rest) h in
    each_within slice b rest p.0 p.2 e k

in_order : (slice : Span) (a : TimedRow) (rest : List TimedRow)
    → is_inside slice a.period ≡ true → are_after slice a rest ≡ true
    → Ordered row_cmp row_exact (entries_of (a ∷ rest))
unfolding Apart
in_order slice a [] i h = tt
in_order slice a (b ∷ rest) i h =
    let p = parts (is_inside slice b.period) (is_after a b) (are_after slice b rest) h in (
      (apart a b p.1).0 (within slice (entry_of a) i).lasting,
      in_order slice b rest p.0 p.2,
    )

unjoined : (slice : Span) (a : TimedRow) (rest : List TimedRow) → are_after slice a rest ≡ true
    → into (touch_entries row_cmp) join_entries (entry_of a) (entries_of rest)
    ≡ entries_of (a ∷ rest)
unfolding Apart
unjoined slice a [] h = refl
unjoined slice a (b ∷ rest) h =
    let p = parts (is_inside slice b.period) (is_after a b) (are_after slice b rest) h in
    ap (λ (t : Bool). cond t
    (into (touch_entries row_cmp) join_entries (join_entries (entry_of a) (entry_of b))
    (entries_of rest))
    (entry_of a ∷ into (touch_entries row_cmp) join_entries (entry_of b) (entries_of rest)))
    (apart a b p.1).1
    ∙ ap (λ (l : List (Entry (List Value))). entry_of a ∷ l) (unjoined slice b rest p.2)

in_order_all : (slice : Span) (rows : List TimedRow) → is_listing slice rows ≡ true
    → Ordered row_cmp row_exact (entries_of rows)
in_order_all slice [] h = tt
in_order_all slice (a ∷ rest) h =
    let p = both (is_inside slice a.period) (are_after slice a rest) h in
    in_order slice a rest p.0 p.1

unjoined_all : (slice : Span) (rows : List TimedRow) → is_listing slice rows ≡ true
    → merged (touch_entries row_cmp) join_entries (entries_of rows) ≡ entries_of rows
unjoined_all slice [] h = refl
unjoined_all slice (a ∷ rest) h =
    unjoined slice a rest (both (is_inside slice a.period) (are_after slice a rest) h).1

within_all : (slice : Span) (rows : List TimedRow) → is_listing slice rows ≡ true
    → (e : Entry (List Value)) → In e (entries_of rows) → Within slice e
within_all slice [] h e k = absurd k
within_all slice (a ∷ rest) h e k =
    let p = both (is_inside slice a.period) (are_after slice a rest) h in
    each_within slice a rest p.0 p.1 e k

pub lasts_each : (slice : Span) (rows : List TimedRow) → is_listing slice rows ≡ true
    → (row : TimedRow) → In row rows → row.period.start < row.period.end
lasts_each slice rows h row m =
    (within_all slice rows h (entry_of row) (in_map entry_of row rows m)).lasting

pub unmoved : (slice : Span) (rows : List TimedRow) → is_listing slice rows ≡ true
    → IsListing row_cmp (rows_at rows) slice (entries_of rows)
unmoved slice rows h = subst (IsListing row_cmp (rows_at rows) slice) (unjoined_all slice rows h)
    (merged_listing row_cmp row_exact slice (entries_of rows) (in_order_all slice rows h)
    (within_all slice rows h))

-- what is cut and put in order, where nothing of it is to be joined
pub unjoined_listing : (old cut sorted : List TimedRow) (slice : Span)
    → cut ≡ filter_map (cut_row slice) old → IsPermutation cut sorted
    → is_listing slice sorted ≡ true → IsListing row_cmp (rows_at old) slice (entries_of sorted)
unjoined_listing old cut sorted slice is p h =
    subst (IsListing row_cmp (rows_at old) slice)
    (joined_rows sorted ∙ unjoined_all slice sorted h)
    (joined_listing old cut sorted slice is p (in_order_all slice sorted h))
