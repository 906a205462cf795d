-- What a sort keeps, and the order that it makes.
use Rattle.std.proofs.Common.{◌≡◌, ◌<◌, ◌≤◌, ◌+◌, ℕ, zero, suc, false, List, [], ◌∷◌, length}
use Rattle.std.proofs.Common.{get_or, refl, sym, ap, ◌∙◌, arith, subst, inl, inr}
use Rattle.std.specs.Prelude.{Contains}
use Rattle.std.specs.Ordering.{ordering_then, nat_cmp, is_lt}
use Rattle.std.specs.declared.cmp.Ordering.{Ordering}
use Rattle.std.specs.declared.cmp.Ordering.TheVariants.{Less, Equal, Greater}
use Rattle.std.specs.List.{filter_map}
use Rattle.std.specs.List.Sorted.{IsPermutation}
use Rattle.std.specs.Cmp.Derive.Mapped.{lex_map}
use Rattle.std.proofs.lemmas.List.Sorted.{Contains-permutation, IsPermutation-sym}
use Rattle.std.proofs.lemmas.List.Sorted.{IsPermutation-map}
use Rattle.std.proofs.lemmas.Bool.Decides.{nat_tests}
use Rattle.relations_spec.specs.Sets.{In}
use Rattle.relations_spec.specs.Spans.{Span}
use Rattle.relations_spec.specs.Timed.{Entry, at}
use Rattle.relations_spec.specs.Listing.{IsListing, Covered}
use Rattle.relations_spec.proofs.ListingLaws.{listing_same}
use Rattle.prima_base.specs.declared.timed_row.TimedRow.{TimedRow}
use Rattle.prima_base.specs.Order.{row_cmp, value_cmp, shown}
use Rattle.prima_base.specs.OrderLaws.{row_exact}
use Rattle.prima_base.specs.Timed.{entry_of, entries_of, rows_at, vals_cmp, timed_cmp}
use Rattle.coalesce.specs.Cutting.{cut_row, cut_entry}
use Rattle.coalesce.specs.Joining.{merged, touch_rows, join_rows, touch_entries, join_entries}
use Rattle.coalesce.proofs.Rows.{map_merged}
use Rattle.coalesce.proofs.Cut.{each_within, in_cut, from_cut, cut_entries}
use Rattle.coalesce.proofs.Joined.{NotAfter, Ordered, covered_at, merged_listing}

-- membership, by place
contains_more : {X : Type 0} (x : X) (xs : List X) (e : X) → Contains xs e → Contains (x ∷ xs) e
contains_more x xs e (k, kl, is) = (suc k, omega arith, is)

contains_in : {X : Type 0} (xs : List X) (e : X) → In e xs → Contains xs e
contains_in [] e m = absurd m
contains_in {X} (x ∷ xs) e (inl i) = (0, omega arith, i)
contains_in (x ∷ xs) e (inr m) = contains_more x xs e (contains_in xs e m)

in_place : {X : Type 0} (xs : List X) (k : ℕ) (e : X) → k < length xs → get_or xs k e ≡ e → In e xs
in_place [] k e kl is = absurd (omega arith)
in_place (x ∷ xs) zero e kl is = inl is
in_place (x ∷ xs) (suc k) e kl is = inr (in_place xs k e (omega arith) is)

pub in_moved : {X : Type 0} (xs ys : List X) → IsPermutation xs ys → (e : X) → In e xs → In e ys
in_moved xs ys p e m = let c = Contains-permutation xs ys e p (contains_in xs e m) in
    in_place ys c.0 e c.1 c.2

covered_moved : {X : Type 0} (xs ys : List (Entry X)) → IsPermutation xs ys → (x : X) (m : ℕ)
    → Covered xs x m → Covered ys x m
covered_moved xs ys p x m c = (c.0, in_moved xs ys p c.0 c.1, c.2, c.3, c.4)

-- rows are compared as entries are
pub vals_as_rows : (a b : TimedRow) → vals_cmp a.values.items b.values.items
    ≡ row_cmp (entry_of a).item (entry_of b).item
vals_as_rows a b = sym (lex_map shown value_cmp a.values.items b.values.items)

-- the ends do not matter
without_ends : (r s e : Ordering) → is_lt (ordering_then r (ordering_then s e)) ≡ false
    → is_lt (ordering_then r s) ≡ false
without_ends Less s e h = h
without_ends Equal Less e h = h
without_ends Equal Equal e h = refl
without_ends Equal Greater e h = h
without_ends Greater s e h = h

not_after : (a b : TimedRow) → is_lt (timed_cmp b a) ≡ false
    → NotAfter row_cmp row_exact (entry_of a) (entry_of b)
not_after a b h =
    step (row_cmp (entry_of b).item (entry_of a).item) refl
    (subst (λ r. is_lt (ordering_then r (nat_cmp b.period.start a.period.start)) ≡ false)
    (vals_as_rows b a)
    (without_ends (vals_cmp b.values.items a.values.items) (nat_cmp b.period.start a.period.start)
    (nat_cmp b.period.end a.period.end) h))
  where
    step : (r : Ordering) → row_cmp (entry_of b).item (entry_of a).item ≡ r
        → is_lt (ordering_then r (nat_cmp b.period.start a.period.start)) ≡ false
        → NotAfter row_cmp row_exact (entry_of a) (entry_of b)
    step Less q k = absurd (cc)
    step Equal q k = inr (
      sym (row_exact.same (entry_of b).item (entry_of a).item q),
      grind (arith, nat_tests),
    )
    step Greater q k = inl (row_exact.turn (entry_of b).item (entry_of a).item q)

pub ordered : (rows : List TimedRow) → ((k : ℕ) (d : TimedRow) → 0 ≤ k → k + 1 < length rows
    → is_lt (timed_cmp (get_or rows (k + 1) d) (get_or rows k d)) ≡ false)
    → Ordered row_cmp row_exact (entries_of rows)
ordered [] f = tt
ordered (x ∷ []) f = tt
ordered (x ∷ (y ∷ rest)) f = (
  not_after x y (f 0 x (omega arith) (omega arith)),
  ordered (y ∷ rest) (λ k d z kl.
      let e : suc k + 1 ≡ suc (k + 1) = omega arith in
      subst (λ m. is_lt (timed_cmp (get_or (x ∷ (y ∷ rest)) m d) (get_or (y ∷ rest) k d)) ≡ false) e
      (f (suc k) d (omega arith) (omega arith))),
)

-- joins of rows are joins of their entries
pub joined_rows : (rows : List TimedRow) → entries_of (merged touch_rows join_rows rows)
    ≡ merged (touch_entries row_cmp) join_entries (entries_of rows)
joined_rows = map_merged entry_of touch_rows join_rows (touch_entries row_cmp) join_entries
    (λ a b. rw (vals_as_rows a b) refl) (λ a b. refl)

-- what is cut and put in order, joined
pub joined_listing : (old cut sorted : List TimedRow) (slice : Span)
    → cut ≡ filter_map (cut_row slice) old → IsPermutation cut sorted
    → Ordered row_cmp row_exact (entries_of sorted)
    → IsListing row_cmp (rows_at old) slice (entries_of (merged touch_rows join_rows sorted))
joined_listing old cut sorted slice is p in_order =
    let es = entries_of old in
    let cs = filter_map (cut_entry slice) es in
    let ss = entries_of sorted in
    let cs_is : entries_of cut ≡ cs = ap entries_of is ∙ cut_entries slice old in
    let q : IsPermutation cs ss = subst (λ l. IsPermutation l ss) cs_is
    (IsPermutation-map entry_of cut sorted p) in
    let q' = IsPermutation-sym cs ss q in
    let l : IsListing row_cmp (at row_cmp ss) slice
    (merged (touch_entries row_cmp) join_entries ss) =
    merged_listing row_cmp row_exact slice ss in_order
    (λ e m. each_within slice es e (in_moved ss cs q' e m)) in
    let r : IsListing row_cmp (at row_cmp es) slice
    (merged (touch_entries row_cmp) join_entries ss) =
    listing_same row_cmp (at row_cmp ss) (at row_cmp es) slice
    (merged (touch_entries row_cmp) join_entries ss) (λ x m a b. (
      λ h. (covered_at row_cmp row_exact es x m).1
          (from_cut slice x m es (covered_moved ss cs q' x m
          ((covered_at row_cmp row_exact ss x m).0 h))),
      λ h. (covered_at row_cmp row_exact ss x m).1
          (covered_moved cs ss q x m (in_cut slice x m es a b
          ((covered_at row_cmp row_exact es x m).0 h))),
    ))
    l in
    subst (IsListing row_cmp (at row_cmp es) slice) (sym (joined_rows sorted)) r

pub coalesced : (old cut sorted : List TimedRow) (slice : Span)
    → cut ≡ filter_map (cut_row slice) old → IsPermutation cut sorted
    → ((k : ℕ) (d : TimedRow) → 0 ≤ k → k + 1 < length sorted
    → is_lt (timed_cmp (get_or sorted (k + 1) d) (get_or sorted k d)) ≡ false)
    → IsListing row_cmp (rows_at old) slice (entries_of (merged touch_rows join_rows sorted))
coalesced old cut sorted slice is p f =
    joined_listing old cut sorted slice is p (ordered sorted f)
