-- What changes over time has one list of its longest periods.
use Rattle.std.specs.Prelude.{◌≡◌, ◌↔◌, ℕ, ◌-◌, ◌<◌, ◌≤◌, ◌⊎◌, List}
use Rattle.std.proofs.Common.{refl, sym, ap, subst, ◌∙◌, inl, inr, arith}
use Rattle.std.specs.Ordering.{nat_cmp, ordering_then}
use Rattle.std.specs.declared.cmp.Ordering.{Ordering}
use Rattle.std.specs.declared.cmp.Ordering.TheVariants.{Less, Equal, Greater}
use Rattle.std.proofs.lemmas.Bool.Decides.{nat_tests}
use Rattle.relations_spec.specs.Sets.{In, IsExact}
use Rattle.relations_spec.specs.Spans.{Span, span}
use Rattle.relations_spec.specs.Timed.{Entry}
use Rattle.relations_spec.specs.Listing.{IsEntry, IsListing, entry_cmp}
use Rattle.relations_spec.proofs.SetLaws.{one_list_of, cmp_itself}

pub nat_less : (m n : ℕ) → m < n → nat_cmp m n ≡ Less
nat_less m n h = grind (arith, nat_tests)

pub less_nat : (m n : ℕ) → nat_cmp m n ≡ Less → m < n
less_nat m n h = grind (arith, nat_tests)

pub at_or_above : (m n : ℕ) → m ≤ n → (m ≡ n) ⊎ (m < n)
at_or_above m n h = grind arith

pub at_or_below : (m n : ℕ) → (m < n) ⊎ (n ≤ m)
at_or_below m n = grind arith

abbrev pub made : {X : Type 0} → X → ℕ → ℕ → Entry X
made x from to = record { item = x; period = span from to }

-- two entries of the same parts
pub same_entry : {X : Type 0} (e f : Entry X) → e.item ≡ f.item → e.period.start ≡ f.period.start
    → e.period.end ≡ f.period.end → e ≡ f
same_entry {X} e f p q r =
    ap (λ (x : X). made x e.period.start e.period.end) p
    ∙ ap (λ (s : ℕ). made f.item s e.period.end) q
    ∙ ap (λ (t : ℕ). made f.item f.period.start t) r

-- the order of entries
module _ {X : Type 0} (cmp : X → X → Ordering) (o : IsExact cmp) where
  -- by item, then start
  abbrev pub EntryLess : Entry X → Entry X → Type 0
  EntryLess a b = (cmp a.item b.item ≡ Less) ⊎ ((a.item ≡ b.item)
      × (a.period.start < b.period.start))

  pub entry_less : (a b : Entry X) → EntryLess a b → entry_cmp cmp a b ≡ Less
  entry_less a b (inl e) = rw e refl
  entry_less a b (inr h) =
      let e : cmp a.item b.item ≡ Equal = subst (λ (w : X). cmp a.item w ≡ Equal) h.0
      (cmp_itself cmp o a.item) in
      rw e (nat_less a.period.start b.period.start h.1)

  pub less_entry : (a b : Entry X) → entry_cmp cmp a b ≡ Less → EntryLess a b
  less_entry a b e = step (cmp a.item b.item) refl e
    where
      step : (r : Ordering) → cmp a.item b.item ≡ r
          → ordering_then r (nat_cmp a.period.start b.period.start) ≡ Less → EntryLess a b
      step Less q h = inl q
      step Equal q h = inr (o.same a.item b.item q, less_nat a.period.start b.period.start h)
      step Greater q h = absurd (cc)

  pub entry_trans : (a b c : Entry X) → entry_cmp cmp a b ≡ Less → entry_cmp cmp b c ≡ Less
      → entry_cmp cmp a c ≡ Less
  entry_trans a b c p q = entry_less a c (step (less_entry a b p) (less_entry b c q))
    where
      step : EntryLess a b → EntryLess b c → EntryLess a c
      step (inl h) (inl k) = inl (o.trans a.item b.item c.item h k)
      step (inl h) (inr k) = inl (subst (λ (w : X). cmp a.item w ≡ Less) k.0 h)
      step (inr h) (inl k) = inl (subst (λ (w : X). cmp w c.item ≡ Less) (sym h.0) k)
      step (inr h) (inr k) = inr (h.0 ∙ k.0, omega arith)

  pub entry_apart : (a : Entry X) → entry_cmp cmp a a ≡ Less → ⊥
  entry_apart a p = step (less_entry a a p)
    where
      step : EntryLess a a → ⊥
      step (inl h) = o.apart a.item h
      step (inr h) = absurd (omega arith)

  -- two entries of one item that have a moment in common
  module _ (relation : ℕ → List X) (slice : Span) where
    starts_first : (e f : Entry X) → IsEntry relation slice e → IsEntry relation slice f
        → e.item ≡ f.item → e.period.start < f.period.end → f.period.start < e.period.start → ⊥
    starts_first e f p q i over under = step p.begins
      where
        step : (e.period.start ≡ slice.start) ⊎ (¬ In e.item (relation (e.period.start - 1))) → ⊥
        step (inl h) = let k = q.from in absurd (omega arith)
        step (inr h) = h (subst (λ (w : X). In w (relation (e.period.start - 1))) (sym i)
            (q.holds (e.period.start - 1) (omega arith) (omega arith)))

    ends_first : (e f : Entry X) → IsEntry relation slice e → IsEntry relation slice f
        → e.item ≡ f.item → f.period.start ≤ e.period.end → e.period.end < f.period.end → ⊥
    ends_first e f p q i over under = step p.ends
      where
        step : (e.period.end ≡ slice.end) ⊎ (¬ In e.item (relation e.period.end)) → ⊥
        step (inl h) = let k = q.to in absurd (omega arith)
        step (inr h) = h (subst (λ (w : X). In w (relation e.period.end)) (sym i)
            (q.holds e.period.end over under))

    no_less : (m n : ℕ) → (m < n → ⊥) → (n < m → ⊥) → m ≡ n
    no_less m n f g = elim (at_or_below m n) [
      | inl h ↦ absurd (f h)
      | inr h ↦ elim (at_or_above n m h) [ inl e ↦ sym e | inr k ↦ absurd (g k) ]
    ]

    pub one_entry : (e f : Entry X) → IsEntry relation slice e → IsEntry relation slice f
        → e.item ≡ f.item → f.period.start ≤ e.period.start → e.period.start < f.period.end → e ≡ f
    one_entry e f p q i under over =
        let le = p.lasting in
        let lf = q.lasting in
        let s : e.period.start ≡ f.period.start =
        no_less e.period.start f.period.start (λ h. absurd (omega arith))
        (λ h. starts_first e f p q i over h) in
        let t : e.period.end ≡ f.period.end =
        no_less e.period.end f.period.end (λ h. ends_first e f p q i (omega arith) h)
        (λ h. ends_first f e q p (sym i) (omega arith) h) in
        same_entry e f i s t

    -- an entry of one list is one of the other
    in_other : (a b : List (Entry X)) → IsListing cmp relation slice a
        → IsListing cmp relation slice b → (e : Entry X) → In e a → In e b
    in_other a b p q e m =
        let h = p.each e m in
        let last = h.lasting in
        let to = h.to in
        let r = q.complete e.item e.period.start h.from (omega arith)
        (h.holds e.period.start (omega arith) last) in
        let is : e ≡ r.0 = one_entry e r.0 h (q.each r.0 r.1) (sym r.2) r.3 r.4 in
        subst (λ (w : Entry X). In w b) (sym is) r.1

    pub one_listing : (a b : List (Entry X)) → IsListing cmp relation slice a
        → IsListing cmp relation slice b → a ≡ b
    one_listing a b p q = one_list_of (entry_cmp cmp) entry_trans entry_apart a b p.ascending
        q.ascending (record { there = in_other a b p q; back = in_other b a q p })

-- relations that agree inside the slice have the same list
module _ {X : Type 0} (f g : ℕ → List X) (slice : Span) (agree : (x : X) (m : ℕ) → slice.start ≤ m
    → m < slice.end → In x (f m) ↔ In x (g m)) where
  entry_agrees : (e : Entry X) → IsEntry f slice e → IsEntry g slice e
  entry_agrees e p =
      let last = p.lasting in
      let from = p.from in
      let to = p.to in
      record {
        lasting = p.lasting;
        from = p.from;
        to = p.to;
        holds = λ m a b. (agree e.item m (omega arith) (omega arith)).0 (p.holds m a b);
        begins = begins from last to (at_or_above slice.start e.period.start from) p.begins;
        ends = ends from last to (at_or_above e.period.end slice.end to) p.ends;
      }
    where
      begins : slice.start ≤ e.period.start → e.period.start < e.period.end
          → e.period.end ≤ slice.end → (slice.start ≡ e.period.start)
          ⊎ (slice.start < e.period.start)
          → (e.period.start ≡ slice.start) ⊎ (¬ In e.item (f (e.period.start - 1)))
          → (e.period.start ≡ slice.start) ⊎ (¬ In e.item (g (e.period.start - 1)))
      begins a b c (inl k) h = inl (sym k)
      begins a b c (inr k) (inl h) = inl h
      begins a b c (inr k) (inr h) = inr (λ m.
          h ((agree e.item (e.period.start - 1) (omega arith) (omega arith)).1 m))

      ends : slice.start ≤ e.period.start → e.period.start < e.period.end → e.period.end ≤ slice.end
          → (e.period.end ≡ slice.end) ⊎ (e.period.end < slice.end)
          → (e.period.end ≡ slice.end) ⊎ (¬ In e.item (f e.period.end)) → (e.period.end ≡ slice.end)
          ⊎ (¬ In e.item (g e.period.end))
      ends a b c (inl k) h = inl k
      ends a b c (inr k) (inl h) = inl h
      ends a b c (inr k) (inr h) = inr (λ m. h ((agree e.item e.period.end (omega arith) k).1 m))

pub listing_same : {X : Type 0} (cmp : X → X → Ordering) (f g : ℕ → List X) (slice : Span)
    (entries : List (Entry X))
    → ((x : X) (m : ℕ) → slice.start ≤ m → m < slice.end → In x (f m) ↔ In x (g m))
    → IsListing cmp f slice entries → IsListing cmp g slice entries
listing_same cmp f g slice entries agree p = record {
  each = λ e m. entry_agrees f g slice agree e (p.each e m);
  complete = λ x m a b h. p.complete x m a b ((agree x m a b).1 h);
  ascending = p.ascending;
}
