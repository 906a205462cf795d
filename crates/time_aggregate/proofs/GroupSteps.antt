-- One group more is listed.
use Rattle.std.specs.Prelude.{◌≡◌, ℕ, ◌+◌, ◌-◌, ◌<◌, ◌≤◌, Bool, true, false, cond, List, []}
use Rattle.std.specs.Prelude.{◌∷◌, ◌++◌, map, length, take, drop, slice_range}
use Rattle.std.proofs.Common.{refl, sym, ap, subst, ◌∙◌, suc, zero, get_or, arith}
use Rattle.std.specs.declared.cmp.Ordering.TheVariants.{Less}
use Rattle.std.proofs.lemmas.List.{take_all, length-take, get_or-take}
use Rattle.relations_spec.specs.Sets.{In, set_of}
use Rattle.relations_spec.specs.Spans.{covers, always}
use Rattle.relations_spec.specs.Timed.{Entry, held_at}
use Rattle.relations_spec.specs.Listing.{IsListing}
use Rattle.relations_spec.proofs.SetLaws.{from_map, in_left, in_right}
use Rattle.relations_spec.proofs.ListingLaws.{listing_same}
use Rattle.prima_base.specs.declared.value.Value.{Value}
use Rattle.prima_base.specs.declared.timed_row.TimedRow.{TimedRow}
use Rattle.prima_base.specs.Order.{row_cmp, shown}
use Rattle.prima_base.specs.OrderLaws.{row_exact}
use Rattle.prima_base.specs.Timed.{entry_of, entries_of, rows_at}
use Rattle.temporal_lang_types.specs.declared.agg_item.AggItem.{AggItem}
use Rattle.prima_base.specs.Groups.{Group}
use Rattle.time_aggregate.specs.Aggregates.{Row, group_cmp, groups, group_of, keys_of}
use Rattle.time_aggregate.specs.Aggregates.{IsAggregated}
use Rattle.time_aggregate.specs.Turns.{rows_shown, row_at}
use Rattle.time_aggregate.proofs.JoinedGroups.{map_join, key_in, both_groups, both_listings}
use Rattle.time_aggregate.proofs.ShownRows.{shown_at, part_at}
use Rattle.time_aggregate.proofs.TurnSteps.{slice_length}
use Rattle.time_aggregate.proofs.Defaults.{no_row}
use Rattle.time_aggregate.proofs.Sweeping.{held_shown, place_of}
use Rattle.time_aggregate.proofs.Grouping.{IsApart, held_is_at}

take_parts : {X : Type 0} (n m : ℕ) (xs : List X)
    → take (n + m) xs ≡ take n xs ++ take m (drop n xs)
take_parts zero m xs = let e : 0 + m ≡ m = omega arith in rw e refl
take_parts {X} (suc n) m [] =
    let e : suc n + m ≡ suc (n + m) = omega arith in
    rw e (sym (Rattle.std.proofs.lemmas.List.take_all m [] (omega arith)))
take_parts {X} (suc n) m (x ∷ xs) =
    let e : suc n + m ≡ suc (n + m) = omega arith in
    rw e (ap (λ (w : List X). x ∷ w) (take_parts n m xs))

parts : {X : Type 0} (xs : List X) (start end : ℕ) → start ≤ end
    → take end xs ≡ take start xs ++ slice_range xs start end
parts xs start end h =
    let e : start + (end - start) ≡ end = omega arith in
    rw e at (take_parts start (end - start) xs)

held_join : (xs ys : List (Entry Row)) (m : ℕ) → held_at (xs ++ ys) m ≡ held_at xs m ++ held_at ys m
held_join [] ys m = refl
held_join (x ∷ xs) ys m =
    let e = held_join xs ys m in
    elim (covers x.period m) as (λ (b : Bool). cond b (x.item ∷ held_at (xs ++ ys) m)
    (held_at (xs ++ ys) m) ≡ cond b (x.item ∷ held_at xs m) (held_at xs m) ++ held_at ys m) [
      | true ↦ ap (λ (w : List Row). x.item ∷ w) e
      | false ↦ e
    ]

-- the key of a group that is there is what one of its rows begins with
group_key : (g : ℕ) (items : List AggItem) (rows : List Row) (x : Group)
    → In x (groups g items rows) → (row : Row) × In row rows × (take g row ≡ x.key)
unfolding groups
group_key g items rows x m =
    let h = from_map (group_of g items rows) x (keys_of g rows) m in
    let k = key_in g items h.0 rows h.1 in
    (k.0, k.1, k.2 ∙ ap (λ (w : Group). w.key) h.2)

-- rows of the first part, and of the next one, by their places
in_first : (rows : List TimedRow) (start : ℕ) (x : Row) → start ≤ length rows
    → In x (rows_shown (take start rows)) → (k : ℕ) × (k < start)
    × (row_at (rows_shown rows) k ≡ x)
in_first rows start x l m =
    let h = from_map (λ (r : TimedRow). map shown r.values.items) x (take start rows) m in
    let p = place_of h.0 (take start rows) h.1 in
    let n = length-take start rows in
    let q = p.1 in
    let e : get_or rows p.0 no_row ≡ h.0 = sym (get_or-take start rows p.0 no_row (omega arith))
    ∙ p.2 no_row in (
      p.0,
      omega arith,
      shown_at rows p.0 no_row (omega arith)
          ∙ ap (λ (r : TimedRow). map shown r.values.items) e ∙ h.2,
    )

pub in_part : (rows : List TimedRow) (start end : ℕ) (x : Row) → start ≤ end → end ≤ length rows
    → In x (rows_shown (slice_range rows start end)) → (k : ℕ) × (start ≤ k) × (k < end)
    × (row_at (rows_shown rows) k ≡ x)
in_part rows start end x s l m =
    let h = from_map (λ (r : TimedRow). map shown r.values.items) x (slice_range rows start end)
    m in
    let p = place_of h.0 (slice_range rows start end) h.1 in
    let n = slice_length rows start end s l in
    let q = p.1 in (
      start + p.0,
      omega arith,
      omega arith,
      part_at rows start end p.0 no_row s l q
          ∙ ap (λ (r : TimedRow). map shown r.values.items) (p.2 no_row) ∙ h.2,
    )

-- rows of a part are rows of the whole
pub part_in : (rows : List TimedRow) (start end : ℕ) (row : TimedRow) → start ≤ end
    → In row (slice_range rows start end) → In row rows
part_in rows start end row s m =
    let e = parts rows start end s in
    let t : take end rows ++ drop end rows ≡ rows =
    Rattle.std.proofs.lemmas.List.take-append-drop end rows in
    subst (λ (w : List TimedRow). In row w) t (in_left row (take end rows) (drop end rows)
    (subst (λ (w : List TimedRow). In row w) (sym e) (in_right row (take start rows)
    (slice_range rows start end) m)))

abbrev pub BothKnown : ℕ → List AggItem → List TimedRow → List (Entry Group) → Type 0
BothKnown g items rows entries = IsListing group_cmp
    (λ m. groups g items (held_at (entries_of rows) m)) always entries

pub none_told : (g : ℕ) (items : List AggItem) → BothKnown g items [] []
unfolding groups set_of
none_told g items = record {
  each = λ e m. absurd m;
  complete = λ x m a b i. absurd i;
  ascending = tt;
}

abbrev told_part : ℕ → List AggItem → List TimedRow → ℕ → List Group
told_part g items rows m = groups g items (held_at (entries_of rows) m)

held_before : (g : ℕ) (rows : List TimedRow) (start end : ℕ) (m n : ℕ) → start ≤ end
    → end ≤ length rows → IsApart g rows start
    → (row other : Row) → In row (held_at (entries_of (take start rows)) m)
    → In other (held_at (entries_of (slice_range rows start end)) n)
    → row_cmp (take g row) (take g other) ≡ Less
held_before g rows start end m n s l apart row other i j =
    let a = in_first rows start row (omega arith) (held_shown (take start rows) m row i) in
    let b = in_part rows start end other s l
    (held_shown (slice_range rows start end) n other j) in
    let k = b.2 in
    subst (λ (w : Row). row_cmp (take g w) (take g other) ≡ Less) a.2
    (subst (λ (w : Row). row_cmp (take g (row_at (rows_shown rows) a.0)) (take g w) ≡ Less) b.3
    (apart a.0 b.0 a.1 b.1 (omega arith)))

told_parts : (g : ℕ) (items : List AggItem) (rows : List TimedRow) (start end m : ℕ)
    → start ≤ end → end ≤ length rows → IsApart g rows start
    → told_part g items (take end rows) m ≡ told_part g items (take start rows) m
    ++ told_part g items (slice_range rows start end) m
told_parts g items rows start end m s l apart =
    ap (λ (w : List TimedRow). told_part g items w m) (parts rows start end s)
    ∙ ap (λ (w : List (Entry Row)). groups g items (held_at w m))
    (map_join entry_of (take start rows) (slice_range rows start end))
    ∙ ap (λ (w : List Row). groups g items w)
    (held_join (entries_of (take start rows)) (entries_of (slice_range rows start end)) m)
    ∙ both_groups g items (held_at (entries_of (take start rows)) m)
    (held_at (entries_of (slice_range rows start end)) m)
    (held_before g rows start end m m s l apart)

pub told_more : (g : ℕ) (items : List AggItem) (rows : List TimedRow) (start end : ℕ)
    (es fs : List (Entry Group)) → start ≤ end → end ≤ length rows → IsApart g rows start
    → BothKnown g items (take start rows) es → BothKnown g items (slice_range rows start end) fs
    → BothKnown g items (take end rows) (es ++ fs)
told_more g items rows start end es fs s l apart p q =
    listing_same group_cmp (λ m. told_part g items (take start rows) m
    ++ told_part g items (slice_range rows start end) m) (told_part g items (take end rows))
    always (es ++ fs) (λ x m a b. (let e = told_parts g items rows start end m s l apart in (
      λ i. subst (λ (w : List Group). In x w) (sym e) i,
      λ i. subst (λ (w : List Group). In x w) e i,
    )))
    (both_listings group_cmp (λ x e. row_exact.apart x.key e)
    (told_part g items (take start rows)) (told_part g items (slice_range rows start end)) always
    (λ x y m n i j.
    let a = group_key g items (held_at (entries_of (take start rows)) m) x i in
    let b = group_key g items (held_at (entries_of (slice_range rows start end)) n) y j in
    subst (λ (w : List Value). row_cmp w y.key ≡ Less) a.2
    (subst (λ (w : List Value). row_cmp (take g a.0) w ≡ Less) b.2
    (held_before g rows start end m n s l apart a.0 b.0 a.1 b.1))) es fs p q)

pub told_all : (g : ℕ) (items : List AggItem) (rows : List TimedRow) (n : ℕ)
    (es : List (Entry Group)) → length rows ≤ n
    → IsListing row_cmp (rows_at rows) always (entries_of rows) → BothKnown g items (take n rows) es
    → IsAggregated g items (rows_at rows) always es
told_all g items rows n es l p q =
    listing_same group_cmp (told_part g items rows) (λ m. groups g items (rows_at rows m)) always
    es (λ x m a b. (let e = ap (λ (w : List Row). groups g items w) (held_is_at rows m p) in (
      λ i. subst (λ (w : List Group). In x w) (sym e) i,
      λ i. subst (λ (w : List Group). In x w) e i,
    )))
    (subst (λ (w : List TimedRow). BothKnown g items w es) (take_all n rows l) q)
