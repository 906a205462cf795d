-- Entries of a listing that are kept are a listing of what they hold.
use Rattle.std.specs.Prelude.{◌≡◌, ℕ, ◌-◌, ◌<◌, ◌≤◌, ◌⊎◌, Bool, true, false, cond, List, [], ◌∷◌}
use Rattle.std.specs.List.{filter}
use Rattle.std.proofs.Common.{refl, sym, subst, ◌∙◌, inl, inr, arith}
use Rattle.std.specs.declared.cmp.Ordering.{Ordering}
use Rattle.relations_spec.specs.Sets.{In, Ascends, IsExact}
use Rattle.relations_spec.specs.Spans.{Span, always, forever}
use Rattle.relations_spec.specs.Timed.{Entry, at}
use Rattle.relations_spec.specs.Listing.{IsEntry, IsListing, Covered, entry_cmp}
use Rattle.relations_spec.proofs.SetLaws.{from_filter, below_each, before_in}
use Rattle.relations_spec.proofs.ListingLaws.{at_or_above}
use Rattle.relations_spec.proofs.Held.{in_at, held_is_covered}

filter_ascends : {X : Type 0} (cmp : X → X → Ordering) (p : X → Bool) (xs : List X)
    → Ascends cmp xs → Ascends cmp (filter p xs)
filter_ascends cmp p [] a = tt
filter_ascends {X} cmp p (x ∷ xs) a = step (p x) (filter_ascends cmp p xs a.1)
  where
    step : (b : Bool) → Ascends cmp (filter p xs)
        → Ascends cmp (cond b (x ∷ filter p xs) (filter p xs))
    step true r = (
      below_each cmp x (filter p xs) (λ y m.
          before_in cmp x y xs a.0 (from_filter p y xs m).0),
      r,
    )
    step false r = r

module _ {X : Type 0} (cmp : X → X → Ordering) (o : IsExact cmp) (relation : ℕ → List X)
    (slice : Span) (entries : List (Entry X)) (lists : IsListing cmp relation slice entries)
    (keep : Entry X → Bool) (most : slice.end ≤ forever) where
  abbrev rest : List (Entry X)
  rest = filter keep entries

  covered : (x : X) (m : ℕ) → In x (at cmp rest m) → Covered rest x m
  covered x m h = (held_is_covered rest x m).0 ((in_at cmp o rest x m).0 h)

  -- what another entry holds at a moment, the relation has there
  held : (x : X) (m : ℕ) (c : Covered rest x m) → In x (relation m)
  held x m c = subst (λ (w : X). In w (relation m)) c.2
      ((lists.each c.0 (from_filter keep c.0 entries c.1).0).holds m c.3 c.4)

  each_kept : (e : Entry X) → In e rest → IsEntry (at cmp rest) always e
  each_kept e m =
      let q = lists.each e (from_filter keep e entries m).0 in
      let last = q.lasting in
      let to = q.to in
      record {
        lasting = last;
        from = omega arith;
        to = omega (arith, to, most);
        holds = λ k a b. (in_at cmp o rest e.item k).1 ((held_is_covered rest e.item k).1
            (e, m, refl, a, b));
        begins = elim (at_or_above 0 e.period.start (omega arith)) [
          | inl z ↦ inl (sym z)
          | inr z ↦ inr (λ h. before z q.begins (covered e.item (e.period.start - 1) h))
        ];
        ends = inr (λ h. after q.ends (covered e.item e.period.end h));
      }
    where
      before : 0 < e.period.start → (e.period.start ≡ slice.start)
          ⊎ (¬ In e.item (relation (e.period.start - 1)))
          → Covered rest e.item (e.period.start - 1) → ⊥
      before z (inl h) c =
          let f = (lists.each c.0 (from_filter keep c.0 entries c.1).0).from in
          let k = c.3 in
          absurd (omega (arith, f, k, h, z))
      before z (inr h) c = h (held e.item (e.period.start - 1) c)

      after : (e.period.end ≡ slice.end) ⊎ (¬ In e.item (relation e.period.end))
          → Covered rest e.item e.period.end → ⊥
      after (inl h) c =
          let t = (lists.each c.0 (from_filter keep c.0 entries c.1).0).to in
          let k = c.4 in
          absurd (omega (arith, t, k, h))
      after (inr h) c = h (held e.item e.period.end c)

  pub kept_lists : IsListing cmp (at cmp rest) always rest
  kept_lists = record {
    each = each_kept;
    complete = λ x m a b h. covered x m h;
    ascending = filter_ascends (entry_cmp cmp) keep entries lists.ascending;
  }
