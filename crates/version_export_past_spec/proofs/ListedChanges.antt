-- The rows that a relation gains and loses at a moment are those that begin and end in its listing.
use Rattle.std.specs.Prelude.{◌≡◌, ◌==◌, ◌<◌, ◌-◌, ◌⊎◌, ℕ, Bool, true, false, not, cond, List, []}
use Rattle.std.specs.Prelude.{◌∷◌, map}
use Rattle.std.proofs.Common.{refl, sym, ap, subst, inl, inr, arith}
use Rattle.std.proofs.lemmas.Bool.Decides.{nat_tests}
use Rattle.std.specs.List.{filter}
use Rattle.std.specs.declared.cmp.Ordering.TheVariants.{Less}
use Rattle.relations_spec.specs.Sets.{In, Ascends, has}
use Rattle.relations_spec.specs.Spans.{Span}
use Rattle.relations_spec.specs.Timed.{Entry}
use Rattle.relations_spec.specs.Listing.{IsListing, entry_cmp}
use Rattle.relations_spec.proofs.SetLaws.{in_map, from_map, in_filter, from_filter, before_in}
use Rattle.relations_spec.proofs.SetLaws.{below_each}
use Rattle.relations_spec.proofs.SetLaws.{one_list}
use Rattle.relations_spec.proofs.ListingLaws.{at_or_above, less_entry, one_entry, EntryLess}
use Rattle.prima_base.specs.Order.{row_cmp}
use Rattle.prima_base.specs.OrderLaws.{row_exact}
use Rattle.smo_ops_spec.specs.OneRow.{Row, Relation}
use Rattle.smo_ops_spec.specs.Effects.{gained_rows}
use Rattle.smo_ops_spec.proofs.RelationLaws.{filter_ascends}
use Rattle.version_export_past_spec.specs.Listed.{begun_at, ended_at}
use Rattle.version_export_past_spec.proofs.TableChanges.{in_gained, from_gained}

same_number : (m n : ℕ) → (m == n) ≡ true → m ≡ n
same_number m n e = grind (arith, nat_tests, e)

number_same : (m n : ℕ) → m ≡ n → (m == n) ≡ true
number_same m n e = grind (arith, nat_tests, e)

module _ (relation : ℕ → Relation) (slice : Span) (entries : List (Entry Row))
    (h : IsListing row_cmp relation slice entries)
    (ascends : (m : ℕ) → Ascends row_cmp (relation m)) where
  -- what of the list passes a test, where no two of these have one item, has ascending items
  items_ascend : (p : Entry Row → Bool) (es : List (Entry Row))
      → ((e : Entry Row) → In e es → In e entries) → Ascends (entry_cmp row_cmp) es
      → ((e f : Entry Row) → In e entries → In f entries → p e ≡ true → p f ≡ true
      → e.item ≡ f.item → e.period.start < f.period.start → ⊥)
      → Ascends row_cmp (map (λ (e : Entry Row). e.item) (filter p es))
  items_ascend p [] all a apart = tt
  items_ascend p (e ∷ es) all a apart =
      step (items_ascend p es (λ f m. all f (inr m)) a.1 apart) (p e) refl
    where
      less : (f : Entry Row) → p e ≡ true → p f ≡ true → In f es → row_cmp e.item f.item ≡ Less
      less f q r m = by (less_entry row_cmp row_exact e f
          (before_in (entry_cmp row_cmp) e f es a.0 m))
        where
          by : EntryLess row_cmp row_exact e f → row_cmp e.item f.item ≡ Less
          by (inl l) = l
          by (inr l) = absurd (apart e f (all e (inl refl)) (all f (inr m)) q r l.0 l.1)

      step : Ascends row_cmp (map (λ (f : Entry Row). f.item) (filter p es)) → (b : Bool) → p e ≡ b
          → Ascends row_cmp (map (λ (f : Entry Row). f.item)
          (cond b (e ∷ filter p es) (filter p es)))
      step more false q = more
      step more true q = (
        below_each row_cmp e.item (map (λ (f : Entry Row). f.item) (filter p es)) (λ x m.
            (let k = from_map (λ (f : Entry Row). f.item) x (filter p es) m in
            let g = from_filter p k.0 es k.1 in
            subst (λ (y : Row). row_cmp e.item y ≡ Less) k.2 (less k.0 q g.1 g.0))),
        more,
      )

  module _ (m : ℕ) (after : slice.start < m) (before : m < slice.end) where
    -- ---- what begins

    begins_apart : (e f : Entry Row) → In e entries → In f entries
        → (e.period.start == m) ≡ true → (f.period.start == m) ≡ true → e.item ≡ f.item
        → e.period.start < f.period.start → ⊥
    begins_apart e f i j p q same l =
        let a = same_number e.period.start m p in
        let b = same_number f.period.start m q in
        absurd (omega (arith, a, b, l))

    begun_there : (x : Row) → In x (gained_rows (relation (m - 1)) (relation m))
        → In x (begun_at entries m)
    begun_there x i =
        let g = from_gained (relation (m - 1)) (relation m) x i in
        let c = h.complete x m (omega (arith, after)) before g.0 in
        let e : Entry Row = c.0 in
        let k = h.each e c.1 in
        let starts : (e.period.start ≡ m) ⊎ (e.period.start < m) =
        at_or_above e.period.start m c.3 in
        elim starts [
          | inl s ↦ subst (λ (y : Row). In y (begun_at entries m)) c.2
              (in_map (λ (f : Entry Row). f.item) e
              (filter (λ (f : Entry Row). f.period.start == m) entries)
              (in_filter (λ (f : Entry Row). f.period.start == m) e entries c.1
              (number_same e.period.start m s)))
          | inr l ↦ absurd (g.1 (subst (λ (y : Row). In y (relation (m - 1))) c.2
              (k.holds (m - 1) (omega (arith, l)) (let z = c.4 in omega (arith, z, l)))))
        ]

    begun_back : (x : Row) → In x (begun_at entries m)
        → In x (gained_rows (relation (m - 1)) (relation m))
    begun_back x i =
        let k = from_map (λ (f : Entry Row). f.item) x
        (filter (λ (f : Entry Row). f.period.start == m) entries) i in
        let e : Entry Row = k.0 in
        let g = from_filter (λ (f : Entry Row). f.period.start == m) e entries k.1 in
        let s : e.period.start ≡ m = same_number e.period.start m g.1 in
        let r = h.each e g.0 in
        let lasting = r.lasting in
        subst (λ (y : Row). In y (gained_rows (relation (m - 1)) (relation m))) k.2
        (in_gained (relation (m - 1)) (relation m) e.item
        (r.holds m (omega (arith, s)) (omega (arith, s, lasting)))
        (elim (r.begins) [
          | inl z ↦ (λ n. absurd (omega (arith, z, s, after)))
          | inr n ↦ (λ y. n (subst (λ (t : ℕ). In e.item (relation (t - 1))) (sym s) y))
        ]))

    pub begun_is : gained_rows (relation (m - 1)) (relation m) ≡ begun_at entries m
    begun_is = one_list row_cmp row_exact (gained_rows (relation (m - 1)) (relation m))
        (begun_at entries m)
        (filter_ascends (λ row. not (has row_cmp row (relation (m - 1)))) (relation m) (ascends m))
        (items_ascend (λ (f : Entry Row). f.period.start == m) entries (λ e i. i) h.ascending
        begins_apart)
        (record { there = begun_there; back = begun_back })

    -- ---- what ends

    ends_apart : (e f : Entry Row) → In e entries → In f entries
        → (e.period.end == m) ≡ true → (f.period.end == m) ≡ true → e.item ≡ f.item
        → e.period.start < f.period.start → ⊥
    ends_apart e f i j p q same l =
        let a = same_number e.period.end m p in
        let b = same_number f.period.end m q in
        let k = (h.each f j).lasting in
        let is : f ≡ e = one_entry row_cmp row_exact relation slice f e (h.each f j) (h.each e i)
        (sym same) (omega (arith, l)) (omega (arith, a, b, k)) in
        let s : f.period.start ≡ e.period.start = ap (λ (g : Entry Row). g.period.start) is in
        absurd (omega (arith, s, l))

    ended_there : (x : Row) → In x (gained_rows (relation m) (relation (m - 1)))
        → In x (ended_at entries m)
    ended_there x i =
        let g = from_gained (relation m) (relation (m - 1)) x i in
        let c = h.complete x (m - 1) (omega (arith, after)) (omega (arith, before, after)) g.0 in
        let e : Entry Row = c.0 in
        let k = h.each e c.1 in
        let low = c.4 in
        let ends : (m ≡ e.period.end) ⊎ (m < e.period.end) =
        at_or_above m e.period.end (omega (arith, low, after)) in
        elim ends [
          | inl s ↦ subst (λ (y : Row). In y (ended_at entries m)) c.2
              (in_map (λ (f : Entry Row). f.item) e
              (filter (λ (f : Entry Row). f.period.end == m) entries)
              (in_filter (λ (f : Entry Row). f.period.end == m) e entries c.1
              (number_same e.period.end m (sym s))))
          | inr l ↦ absurd (g.1 (subst (λ (y : Row). In y (relation m)) c.2
              (k.holds m (let z = c.3 in omega (arith, z)) l)))
        ]

    ended_back : (x : Row) → In x (ended_at entries m)
        → In x (gained_rows (relation m) (relation (m - 1)))
    ended_back x i =
        let k = from_map (λ (f : Entry Row). f.item) x
        (filter (λ (f : Entry Row). f.period.end == m) entries) i in
        let e : Entry Row = k.0 in
        let g = from_filter (λ (f : Entry Row). f.period.end == m) e entries k.1 in
        let s : e.period.end ≡ m = same_number e.period.end m g.1 in
        let r = h.each e g.0 in
        let lasting = r.lasting in
        subst (λ (y : Row). In y (gained_rows (relation m) (relation (m - 1)))) k.2
        (in_gained (relation m) (relation (m - 1)) e.item
        (r.holds (m - 1) (omega (arith, s, lasting)) (omega (arith, s, lasting)))
        (elim (r.ends) [
          | inl z ↦ (λ n. absurd (omega (arith, z, s, before)))
          | inr n ↦ (λ y. n (subst (λ (t : ℕ). In e.item (relation t)) (sym s) y))
        ]))

    pub ended_is : gained_rows (relation m) (relation (m - 1)) ≡ ended_at entries m
    ended_is = one_list row_cmp row_exact (gained_rows (relation m) (relation (m - 1)))
        (ended_at entries m)
        (filter_ascends (λ row. not (has row_cmp row (relation m))) (relation (m - 1))
        (ascends (m - 1)))
        (items_ascend (λ (f : Entry Row). f.period.end == m) entries (λ e i. i) h.ascending
        ends_apart)
        (record { there = ended_there; back = ended_back })
