-- Listings of a slice, and of all of time.
use Rattle.std.specs.Prelude.{◌≡◌, ◌↔◌, ℕ, ◌-◌, ◌<◌, ◌≤◌, ◌⊎◌, List}
use Rattle.std.proofs.Common.{sym, subst, inl, inr, arith}
use Rattle.std.specs.declared.cmp.Ordering.{Ordering}
use Rattle.relations_spec.specs.Sets.{In, Ascends, IsExact}
use Rattle.relations_spec.specs.Spans.{Span, always, forever}
use Rattle.relations_spec.specs.Timed.{Entry, at}
use Rattle.relations_spec.specs.Listing.{IsEntry, IsListing}
use Rattle.relations_spec.proofs.SetLaws.{one_list}
use Rattle.relations_spec.proofs.Held.{in_at, at_ascends, held_is_covered}
use Rattle.relations_spec.proofs.ListingLaws.{at_or_above}

-- a relation inside the slice, and one that agrees with it there and is empty elsewhere
module _ {X : Type 0} (f h : ℕ → List X) (slice : Span) (below : slice.end ≤ forever)
    (agree : (x : X) (m : ℕ) → slice.start ≤ m → m < slice.end → In x (f m) ↔ In x (h m))
    (inside : (x : X) (m : ℕ) → In x (f m) → (slice.start ≤ m) × (m < slice.end)) where
  entry_inside : (e : Entry X) → IsEntry f always e → IsEntry h slice e
  entry_inside e p =
      let last = p.lasting in
      let one = inside e.item e.period.start (p.holds e.period.start (omega arith) last) in
      let from = one.0 in
      let end = inside e.item (e.period.end - 1)
      (p.holds (e.period.end - 1) (omega arith) (omega arith)) in
      let to : e.period.end ≤ slice.end = (let k = end.1 in omega arith) in
      record {
        lasting = last;
        from = from;
        to = to;
        holds = λ m a b. (agree e.item m (omega arith) (omega arith)).0 (p.holds m a b);
        begins = begins last from to (at_or_above slice.start e.period.start from) p.begins;
        ends = ends last from to (at_or_above e.period.end slice.end to) p.ends;
      }
    where
      begins : e.period.start < e.period.end → slice.start ≤ e.period.start
          → e.period.end ≤ slice.end
          → (slice.start ≡ e.period.start) ⊎ (slice.start < e.period.start)
          → (e.period.start ≡ 0) ⊎ (¬ In e.item (f (e.period.start - 1)))
          → (e.period.start ≡ slice.start) ⊎ (¬ In e.item (h (e.period.start - 1)))
      begins a b c (inl k) w = inl (sym k)
      begins a b c (inr k) (inl w) = absurd (omega arith)
      begins a b c (inr k) (inr w) = inr (λ m.
          w ((agree e.item (e.period.start - 1) (omega arith) (omega arith)).1 m))

      ends : e.period.start < e.period.end → slice.start ≤ e.period.start
          → e.period.end ≤ slice.end
          → (e.period.end ≡ slice.end) ⊎ (e.period.end < slice.end)
          → (e.period.end ≡ forever) ⊎ (¬ In e.item (f e.period.end))
          → (e.period.end ≡ slice.end) ⊎ (¬ In e.item (h e.period.end))
      ends a b c (inl k) w = inl k
      ends a b c (inr k) (inl w) = absurd (omega arith)
      ends a b c (inr k) (inr w) = inr (λ m. w ((agree e.item e.period.end (omega arith) k).1 m))

  pub listing_inside : (cmp : X → X → Ordering) (entries : List (Entry X))
      → IsListing cmp f always entries → IsListing cmp h slice entries
  listing_inside cmp entries p = record {
    each = λ e m. entry_inside e (p.each e m);
    complete = λ x m a b i. p.complete x m (omega arith) (omega arith) ((agree x m a b).1 i);
    ascending = p.ascending;
  }

  entry_outside : (e : Entry X) → IsEntry h slice e → IsEntry f always e
  entry_outside e p =
      let last = p.lasting in
      let from = p.from in
      let to = p.to in
      record {
        lasting = last;
        from = omega arith;
        to = omega arith;
        holds = λ m a b. (agree e.item m (omega arith) (omega arith)).1 (p.holds m a b);
        begins = begins last from to p.begins;
        ends = ends last from to p.ends;
      }
    where
      none_before : slice.start ≡ e.period.start → (0 ≡ e.period.start) ⊎ (0 < e.period.start)
          → (e.period.start ≡ 0) ⊎ (¬ In e.item (f (e.period.start - 1)))
      none_before k (inl w) = inl (sym w)
      none_before k (inr w) = inr (λ m.
          let o = (inside e.item (e.period.start - 1) m).0 in absurd (omega arith))

      begins : e.period.start < e.period.end → slice.start ≤ e.period.start
          → e.period.end ≤ slice.end
          → (e.period.start ≡ slice.start) ⊎ (¬ In e.item (h (e.period.start - 1)))
          → (e.period.start ≡ 0) ⊎ (¬ In e.item (f (e.period.start - 1)))
      begins a b c (inl k) = none_before (sym k) (at_or_above 0 e.period.start (omega arith))
      begins a b c (inr w) = inr (λ m.
          let o = inside e.item (e.period.start - 1) m in
          w ((agree e.item (e.period.start - 1) o.0 o.1).0 m))

      ends : e.period.start < e.period.end → slice.start ≤ e.period.start
          → e.period.end ≤ slice.end
          → (e.period.end ≡ slice.end) ⊎ (¬ In e.item (h e.period.end))
          → (e.period.end ≡ forever) ⊎ (¬ In e.item (f e.period.end))
      ends a b c (inl k) = inr (λ m.
          let o = (inside e.item e.period.end m).1 in absurd (omega arith))
      ends a b c (inr w) = inr (λ m.
          let o = inside e.item e.period.end m in
          w ((agree e.item e.period.end o.0 o.1).0 m))

  pub listing_outside : (cmp : X → X → Ordering) (entries : List (Entry X))
      → IsListing cmp h slice entries → IsListing cmp f always entries
  listing_outside cmp entries p = record {
    each = λ e m. entry_outside e (p.each e m);
    complete = λ x m a b i. (let o = inside x m i in
        p.complete x m o.0 o.1 ((agree x m o.0 o.1).0 i));
    ascending = p.ascending;
  }

-- what the entries of a listing hold at a moment
module _ {X : Type 0} (cmp : X → X → Ordering) (o : IsExact cmp) (relation : ℕ → List X)
    (slice : Span) (entries : List (Entry X)) (p : IsListing cmp relation slice entries) where
  pub at_agrees : (x : X) (m : ℕ) → slice.start ≤ m → m < slice.end
      → In x (at cmp entries m) ↔ In x (relation m)
  at_agrees x m a b = (there, back)
    where
      there : In x (at cmp entries m) → In x (relation m)
      there h =
          let c = (held_is_covered entries x m).0 ((in_at cmp o entries x m).0 h) in
          subst (λ (w : X). In w (relation m)) c.2 ((p.each c.0 c.1).holds m c.3 c.4)

      back : In x (relation m) → In x (at cmp entries m)
      back h = (in_at cmp o entries x m).1 ((held_is_covered entries x m).1 (p.complete x m a b h))

  pub at_inside : (x : X) (m : ℕ) → In x (at cmp entries m)
      → (slice.start ≤ m) × (m < slice.end)
  at_inside x m h =
      let c = (held_is_covered entries x m).0 ((in_at cmp o entries x m).0 h) in
      let e = p.each c.0 c.1 in
      let from = e.from in
      let to = e.to in
      let k = c.3 in
      let l = c.4 in
      (omega arith, omega arith)

  pub lists_itself : slice.end ≤ forever → IsListing cmp (at cmp entries) always entries
  lists_itself b = listing_outside (at cmp entries) relation slice b at_agrees at_inside cmp entries
      p

  pub at_is : ((m : ℕ) → Ascends cmp (relation m)) → (m : ℕ) → slice.start ≤ m → m < slice.end
      → at cmp entries m ≡ relation m
  at_is s m a b = one_list cmp o (at cmp entries m) (relation m) (at_ascends cmp o entries m) (s m)
      (record { there = λ x. (at_agrees x m a b).0; back = λ x. (at_agrees x m a b).1 })
