-- At most one list tells of groups, which are in order by their keys alone.
use Rattle.std.specs.Prelude.{◌≡◌, ℕ, ◌-◌, ◌<◌, ◌≤◌, ◌⊎◌, List}
use Rattle.std.proofs.Common.{sym, subst, inl, inr, arith}
use Rattle.relations_spec.specs.Sets.{In}
use Rattle.relations_spec.specs.Spans.{Span}
use Rattle.relations_spec.specs.Timed.{Entry}
use Rattle.relations_spec.specs.Listing.{IsEntry, IsListing, entry_cmp}
use Rattle.relations_spec.proofs.SetLaws.{one_list_of}
use Rattle.relations_spec.proofs.ListingLaws.{at_or_above, at_or_below, same_entry, entry_trans}
use Rattle.relations_spec.proofs.ListingLaws.{entry_apart}
use Rattle.prima_base.specs.declared.value.Value.{Value}
use Rattle.prima_base.specs.Order.{row_cmp}
use Rattle.prima_base.specs.OrderLaws.{row_exact}
use Rattle.prima_base.specs.Groups.{Group}
use Rattle.time_aggregate.specs.Aggregates.{group_cmp}

module _ {X : Type 0} (relation : ℕ → List X) (slice : Span) where
  starts_first : (e f : Entry X) → IsEntry relation slice e → IsEntry relation slice f
      → e.item ≡ f.item → e.period.start < f.period.end → f.period.start < e.period.start → ⊥
  starts_first e f p q i over under = step p.begins
    where
      step : (e.period.start ≡ slice.start) ⊎ (¬ In e.item (relation (e.period.start - 1))) → ⊥
      step (inl h) = let k = q.from in absurd (omega arith)
      step (inr h) = h (subst (λ (w : X). In w (relation (e.period.start - 1))) (sym i)
          (q.holds (e.period.start - 1) (omega arith) (omega arith)))

  ends_first : (e f : Entry X) → IsEntry relation slice e → IsEntry relation slice f
      → e.item ≡ f.item → f.period.start ≤ e.period.end → e.period.end < f.period.end → ⊥
  ends_first e f p q i over under = step p.ends
    where
      step : (e.period.end ≡ slice.end) ⊎ (¬ In e.item (relation e.period.end)) → ⊥
      step (inl h) = let k = q.to in absurd (omega arith)
      step (inr h) = h (subst (λ (w : X). In w (relation e.period.end)) (sym i)
          (q.holds e.period.end over under))

  no_less : (m n : ℕ) → (m < n → ⊥) → (n < m → ⊥) → m ≡ n
  no_less m n f g = elim (at_or_below m n) [
    | inl h ↦ absurd (f h)
    | inr h ↦ elim (at_or_above n m h) [ inl e ↦ sym e | inr k ↦ absurd (g k) ]
  ]

  one_period : (e f : Entry X) → IsEntry relation slice e → IsEntry relation slice f
      → e.item ≡ f.item → f.period.start ≤ e.period.start → e.period.start < f.period.end → e ≡ f
  one_period e f p q i under over =
      let le = p.lasting in
      let lf = q.lasting in
      let s : e.period.start ≡ f.period.start =
      no_less e.period.start f.period.start (λ h. absurd (omega arith))
      (λ h. starts_first e f p q i over h) in
      let t : e.period.end ≡ f.period.end =
      no_less e.period.end f.period.end (λ h. ends_first e f p q i (omega arith) h)
      (λ h. ends_first f e q p (sym i) (omega arith) h) in
      same_entry e f i s t

abbrev keyed : Entry Group → Entry (List Value)
keyed e = record { item = e.item.key; period = e.period }

module _ (relation : ℕ → List Group) (slice : Span) where
  in_other : (a b : List (Entry Group)) → IsListing group_cmp relation slice a
      → IsListing group_cmp relation slice b → (e : Entry Group) → In e a → In e b
  in_other a b p q e m =
      let h = p.each e m in
      let last = h.lasting in
      let to = h.to in
      let r = q.complete e.item e.period.start h.from (omega arith)
      (h.holds e.period.start (omega arith) last) in
      let is : e ≡ r.0 = one_period relation slice e r.0 h (q.each r.0 r.1) (sym r.2) r.3 r.4 in
      subst (λ (w : Entry Group). In w b) (sym is) r.1

  pub one_told : (a b : List (Entry Group)) → IsListing group_cmp relation slice a
      → IsListing group_cmp relation slice b → a ≡ b
  one_told a b p q = one_list_of (entry_cmp group_cmp)
      (λ x y z. entry_trans row_cmp row_exact (keyed x) (keyed y) (keyed z))
      (λ x. entry_apart row_cmp row_exact (keyed x)) a b p.ascending q.ascending
      (record { there = in_other a b p q; back = in_other b a q p })
