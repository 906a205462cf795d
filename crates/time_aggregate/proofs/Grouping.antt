-- Rows in the order of a listing, group after group.
use Rattle.std.specs.Prelude.{◌≡◌, ℕ, ◌+◌, ◌-◌, ◌<◌, ◌≤◌, ◌⊎◌, Bool, true, false, cond, List, []}
use Rattle.std.specs.Prelude.{◌∷◌}
use Rattle.std.specs.Prelude.{◌++◌, map, length, take, drop, slice_range}
use Rattle.std.proofs.Common.{refl, sym, ap, subst, ◌∙◌, inl, inr, suc, zero, arith}
use Rattle.std.specs.Ordering.{nat_cmp, ordering_then, is_gt}
use Rattle.std.specs.declared.cmp.Ordering.{Ordering}
use Rattle.std.specs.declared.cmp.Ordering.TheVariants.{Less, Equal, Greater}
use Rattle.relations_spec.specs.Sets.{In, Ascends, BeforeAll}
use Rattle.relations_spec.specs.Spans.{covers, always}
use Rattle.relations_spec.specs.Timed.{Entry, held_at, at}
use Rattle.relations_spec.specs.Listing.{IsListing, entry_cmp}
use Rattle.relations_spec.proofs.SetLaws.{below_each, before_in, set_itself}
use Rattle.relations_spec.proofs.Held.{from_held, covers_is}
use Rattle.relations_spec.proofs.ListingLaws.{less_entry, one_entry}
use Rattle.prima_base.specs.declared.value.Value.{Value}
use Rattle.prima_base.specs.declared.timed_row.TimedRow.{TimedRow}
use Rattle.prima_base.specs.Order.{row_cmp, value_cmp}
use Rattle.prima_base.specs.OrderLaws.{row_exact}
use Rattle.prima_base.specs.Timed.{entries_of, rows_at}
use Rattle.time_aggregate.specs.Aggregates.{Row}
use Rattle.time_aggregate.specs.Turns.{rows_shown, row_at}

-- what a listing holds at a moment, in its own order, is the relation
held_ascends : (entries all : List (Entry Row)) (m : ℕ)
    → IsListing row_cmp (at row_cmp all) always all
    → ((e : Entry Row) → In e entries → In e all) → Ascends (entry_cmp row_cmp) entries
    → Ascends row_cmp (held_at entries m)
held_ascends [] all m p i a = tt
held_ascends (e ∷ entries) all m p i a =
    step (held_ascends entries all m p (λ f k. i f (inr k)) a.1) (covers e.period m) refl
  where
    less : covers e.period m ≡ true → (x : Row) → In x (held_at entries m)
        → row_cmp e.item x ≡ Less
    less c x h =
        let f = from_held entries x m h in
        let l = less_entry row_cmp row_exact e f.0
        (before_in (entry_cmp row_cmp) e f.0 entries a.0 f.1) in
        let q = (covers_is e.period m).0 c in
        let r = (covers_is f.0.period m).0 f.3 in
        elim l [
          | inl w ↦ subst (λ (v : Row). row_cmp e.item v ≡ Less) f.2 w
          | inr w ↦ absurd (
              let b = p.each e (i e (inl refl)) in
              let g = p.each f.0 (i f.0 (inr f.1)) in
              let q1 = q.1 in
              let r0 = r.0 in
              let s = w.1 in
              let same = one_entry row_cmp row_exact (at row_cmp all) always f.0 e g b (sym w.0)
              (omega arith) (omega arith) in
              let z = ap (λ (v : Entry Row). v.period.start) same in
              omega arith)
        ]

    step : Ascends row_cmp (held_at entries m) → (b : Bool) → covers e.period m ≡ b
        → Ascends row_cmp (cond b (e.item ∷ held_at entries m) (held_at entries m))
    step more true c = (below_each row_cmp e.item (held_at entries m) (less c), more)
    step more false c = more

pub held_is_at : (rows : List TimedRow) (m : ℕ)
    → IsListing row_cmp (rows_at rows) always (entries_of rows)
    → rows_at rows m ≡ held_at (entries_of rows) m
unfolding at
held_is_at rows m p = set_itself row_cmp row_exact (held_at (entries_of rows) m)
    (held_ascends (entries_of rows) (entries_of rows) m p (λ e i. i) p.ascending)

-- rows in order begin in order
begins_order : (g : ℕ) (a b : Row) → is_gt (row_cmp a b) ≡ false
    → is_gt (row_cmp (take g a) (take g b)) ≡ false
begins_order zero a b h = refl
begins_order (suc g) [] [] h = refl
begins_order (suc g) [] (y ∷ b) h = refl
begins_order (suc g) (x ∷ a) [] h = absurd (cc)
begins_order (suc g) (x ∷ a) (y ∷ b) h = step (value_cmp x y) h (begins_order g a b)
  where
    step : (o : Ordering) → is_gt (ordering_then o (row_cmp a b)) ≡ false
        → (is_gt (row_cmp a b) ≡ false → is_gt (row_cmp (take g a) (take g b)) ≡ false)
        → is_gt (ordering_then o (row_cmp (take g a) (take g b))) ≡ false
    step Less k f = refl
    step Equal k f = f k
    step Greater k f = k

not_greater : (a b : List Value) → is_gt (row_cmp a b) ≡ false → (row_cmp a b ≡ Less) ⊎ (a ≡ b)
not_greater a b h = step (row_cmp a b) refl h
  where
    step : (o : Ordering) → row_cmp a b ≡ o → is_gt o ≡ false → (row_cmp a b ≡ Less) ⊎ (a ≡ b)
    step Less q k = inl q
    step Equal q k = inr (row_exact.same a b q)
    step Greater q k = absurd (cc)

-- two places of a listing
rows_order : (rows : List TimedRow) → Ascends (entry_cmp row_cmp) (entries_of rows) → (i j : ℕ)
    → i < j → j < length rows
    → is_gt (row_cmp (row_at (rows_shown rows) i) (row_at (rows_shown rows) j)) ≡ false
rows_order [] a i j h l = absurd (omega arith)
rows_order (r ∷ rows) a i zero h l = absurd (omega arith)
rows_order (r ∷ rows) a (suc i) (suc j) h l = rows_order rows a.1 i j (omega arith) (omega arith)
rows_order (r ∷ rows) a zero (suc j) h l = first rows a.0 j (omega arith)
  where
    first : (rest : List TimedRow) → BeforeAll (entry_cmp row_cmp)
        (Rattle.prima_base.specs.Timed.entry_of r) (entries_of rest) → (k : ℕ) → k < length rest
        → is_gt (row_cmp (Rattle.std.specs.Prelude.map Rattle.prima_base.specs.Order.shown
        r.values.items) (row_at (rows_shown rest) k)) ≡ false
    first [] b k m = absurd (omega arith)
    first (s ∷ rest) b zero m = least (less_entry row_cmp row_exact
        (Rattle.prima_base.specs.Timed.entry_of r) (Rattle.prima_base.specs.Timed.entry_of s) b.0)
      where
        least : ((row_cmp (map Rattle.prima_base.specs.Order.shown r.values.items)
            (map Rattle.prima_base.specs.Order.shown s.values.items) ≡ Less)
            ⊎ ((map Rattle.prima_base.specs.Order.shown r.values.items
            ≡ map Rattle.prima_base.specs.Order.shown s.values.items)
            × (r.period.start < s.period.start)))
            → is_gt (row_cmp (map Rattle.prima_base.specs.Order.shown r.values.items)
            (map Rattle.prima_base.specs.Order.shown s.values.items)) ≡ false
        least (inl q) = rw q refl
        least (inr q) = rw (subst (λ (w : Row). row_cmp
            (map Rattle.prima_base.specs.Order.shown r.values.items) w ≡ Equal) q.0
            (Rattle.relations_spec.proofs.SetLaws.cmp_itself row_cmp row_exact
            (map Rattle.prima_base.specs.Order.shown r.values.items))) refl
    first (s ∷ rest) b (suc k) m = first rest b.1 k (omega arith)

-- the groups before this place come before those from it on
abbrev pub IsApart : ℕ → List TimedRow → ℕ → Type 0
IsApart g rows start = (i j : ℕ) → i < start → start ≤ j → j < length rows
    → row_cmp (take g (row_at (rows_shown rows) i)) (take g (row_at (rows_shown rows) j)) ≡ Less

pub apart_more : (g : ℕ) (rows : List TimedRow) (start end : ℕ)
    → Ascends (entry_cmp row_cmp) (entries_of rows) → IsApart g rows start → start < end
    → ((k : ℕ) → start ≤ k → k < end → take g (row_at (rows_shown rows) k)
    ≡ take g (row_at (rows_shown rows) start))
    → (end < length rows → take g (row_at (rows_shown rows) end)
    ≡ take g (row_at (rows_shown rows) start) → ⊥) → IsApart g rows end
apart_more g rows start end a p h same other i j u v w =
    elim (Rattle.relations_spec.proofs.ListingLaws.at_or_below i start) [
      | inl k ↦ p i j k (omega arith) w
      | inr k ↦ (
          let e = same i k u in
          let n = begins_order g (row_at (rows_shown rows) i) (row_at (rows_shown rows) end)
          (rows_order rows a i end u (omega arith)) in
          let l : row_cmp (take g (row_at (rows_shown rows) i))
          (take g (row_at (rows_shown rows) end)) ≡ Less = elim (not_greater
          (take g (row_at (rows_shown rows) i)) (take g (row_at (rows_shown rows) end)) n) [
            | inl q ↦ q
            | inr q ↦ absurd (other (omega arith) (sym q ∙ e))
          ] in
          elim (Rattle.relations_spec.proofs.ListingLaws.at_or_above end j v) [
            | inl q ↦ subst (λ (m : ℕ). row_cmp (take g (row_at (rows_shown rows) i))
                (take g (row_at (rows_shown rows) m)) ≡ Less) q l
            | inr q ↦ elim (not_greater (take g (row_at (rows_shown rows) end))
                (take g (row_at (rows_shown rows) j)) (begins_order g (row_at (rows_shown rows) end)
                (row_at (rows_shown rows) j) (rows_order rows a end j q w))) [
                  | inl z ↦ row_exact.trans (take g (row_at (rows_shown rows) i))
                      (take g (row_at (rows_shown rows) end)) (take g (row_at (rows_shown rows) j))
                      l z
                  | inr z ↦ subst (λ (m : List Value).
                      row_cmp (take g (row_at (rows_shown rows) i)) m ≡ Less) z l
                ]
          ])
    ]
