-- The listing of what holds inside a slice alone, for all moments, is the listing of it for the
-- slice.
use Rattle.std.specs.Prelude.{◌≡◌, ℕ, ◌-◌, ◌<◌, ◌≤◌, ◌⊎◌, List, []}
use Rattle.std.proofs.Common.{sym, subst, inl, inr, arith}
use Rattle.std.specs.declared.cmp.Ordering.{Ordering}
use Rattle.relations_spec.specs.Sets.{In}
use Rattle.relations_spec.specs.Spans.{Span, always, forever}
use Rattle.relations_spec.specs.Timed.{Entry}
use Rattle.relations_spec.specs.Listing.{IsEntry, IsListing}
use Rattle.relations_spec.proofs.ListingLaws.{at_or_above, at_or_below}

module _ {X : Type 0} (cmp : X → X → Ordering) (r f : ℕ → List X) (slice : Span)
    (limit : slice.end ≤ forever)
    (inside : (m : ℕ) → slice.start ≤ m → m < slice.end → r m ≡ f m)
    (before : (m : ℕ) → m < slice.start → r m ≡ [])
    (after : (m : ℕ) → slice.end ≤ m → m < forever → r m ≡ []) where
  none : (x : X) (m : ℕ) → r m ≡ [] → In x (r m) → ⊥
  none x m e h = subst (λ (xs : List X). In x xs) e h

  there : (x : X) (m : ℕ) → slice.start ≤ m → m < slice.end → In x (r m) → In x (f m)
  there x m a b h = subst (λ (xs : List X). In x xs) (inside m a b) h

  back : (x : X) (m : ℕ) → slice.start ≤ m → m < slice.end → In x (f m) → In x (r m)
  back x m a b h = subst (λ (xs : List X). In x xs) (sym (inside m a b)) h

  module _ (e : Entry X) (h : IsEntry r always e) where
    starts : slice.start ≤ e.period.start
    starts = step (at_or_below e.period.start slice.start)
      where
        step : (e.period.start < slice.start) ⊎ (slice.start ≤ e.period.start)
            → slice.start ≤ e.period.start
        step (inl l) = absurd (none e.item e.period.start (before e.period.start l)
            (h.holds e.period.start (omega arith) h.lasting))
        step (inr l) = l

    stops : e.period.end ≤ slice.end
    stops = step (at_or_below slice.end e.period.end)
      where
        lasting : e.period.start < e.period.end
        lasting = h.lasting

        to : e.period.end ≤ forever
        to = h.to

        step : (slice.end < e.period.end) ⊎ (e.period.end ≤ slice.end) → e.period.end ≤ slice.end
        step (inl l) = absurd (none e.item (e.period.end - 1)
            (after (e.period.end - 1) (omega arith) (omega arith))
            (h.holds (e.period.end - 1) (omega arith) (omega arith)))
        step (inr l) = l

    begins : (e.period.start ≡ slice.start) ⊎ (¬ In e.item (f (e.period.start - 1)))
    begins = step h.begins (at_or_above slice.start e.period.start starts)
      where
        lasting : e.period.start < e.period.end
        lasting = h.lasting

        last : e.period.end ≤ slice.end
        last = stops

        first : slice.start ≤ e.period.start
        first = starts

        step : (e.period.start ≡ 0) ⊎ (¬ In e.item (r (e.period.start - 1)))
            → (slice.start ≡ e.period.start) ⊎ (slice.start < e.period.start)
            → (e.period.start ≡ slice.start) ⊎ (¬ In e.item (f (e.period.start - 1)))
        step a (inl same) = inl (sym same)
        step (inl z) (inr l) = inl (omega (arith, z, l))
        step (inr n) (inr l) = inr (λ k. n (back e.item (e.period.start - 1) (omega (arith, l))
            (omega (arith, l, last, lasting)) k))

    ends : (e.period.end ≡ slice.end) ⊎ (¬ In e.item (f e.period.end))
    ends = step h.ends (at_or_above e.period.end slice.end stops)
      where
        lasting : e.period.start < e.period.end
        lasting = h.lasting

        first : slice.start ≤ e.period.start
        first = starts

        step : (e.period.end ≡ forever) ⊎ (¬ In e.item (r e.period.end))
            → (e.period.end ≡ slice.end) ⊎ (e.period.end < slice.end)
            → (e.period.end ≡ slice.end) ⊎ (¬ In e.item (f e.period.end))
        step a (inl same) = inl same
        step (inl z) (inr l) = inl (omega (arith, z, l, limit))
        step (inr n) (inr l) = inr (λ k. n (back e.item e.period.end (omega (arith, first, lasting))
            l k))

    each : IsEntry f slice e
    each = record {
      lasting = h.lasting;
      from = starts;
      to = stops;
      holds = λ m a b. there e.item m (let s = starts in omega arith) (let s = stops in omega arith)
          (h.holds m a b);
      begins = begins;
      ends = ends;
    }

  pub sliced : (entries : List (Entry X)) → IsListing cmp r always entries
      → IsListing cmp f slice entries
  sliced entries h = record {
    each = λ e m. each e (h.each e m);
    complete = λ x m a b k. h.complete x m (omega arith) (omega arith) (back x m a b k);
    ascending = h.ascending;
  }
