-- Tallies after one turn more.
use Rattle.std.specs.Prelude.{◌≡◌, ℕ, ◌+◌, ◌<◌, ◌≤◌, ℤ, pos, ◌+ℤ◌, List, [], ◌∷◌, ◌++◌}
use Rattle.std.specs.Prelude.{map, length, slice_set}
use Rattle.std.proofs.Common.{refl, sym, ap, subst, ◌∙◌, inl, inr, suc, get_or, arith}
use Rattle.std.proofs.Common.{length-append}
use Rattle.std.proofs.lemmas.Int.{ints}
use Rattle.std.proofs.lemmas.List.{get_or-set_same, get_or-set_other, length-set}
use Rattle.relations_spec.proofs.ListingLaws.{at_or_above}
use Rattle.temporal_lang_types.specs.declared.agg_item.AggItem.{AggItem}
use Rattle.time_aggregate.specs.declared.tally.Tally.{Tally}
use Rattle.time_aggregate.specs.declared.turn.Turn.{Turn}
use Rattle.time_aggregate.specs.declared.sweep.Held.{Held}
use Rattle.time_aggregate.specs.Aggregates.{Row}
use Rattle.time_aggregate.specs.Turns.{weigh, weighed, signed, row_at}
use Rattle.time_aggregate.specs.Tallies.{IsTally, IsHeld, Turned, AreTurned, IsWithin, weight}
use Rattle.time_aggregate.specs.Tallies.{has_value, counted}
use Rattle.time_aggregate.proofs.Weighing.{total_join}

pub each_more : {X : Type 0} (R : X → X → Type 0) (initial now : List X) (i : ℕ) (u : X)
    → i < length initial → length now ≡ length initial
    → ((k : ℕ) (d : X) → k < i → k < length initial → R (get_or initial k d) (get_or now k d))
    → ((k : ℕ) (d : X) → i ≤ k → get_or now k d ≡ get_or initial k d)
    → ((d : X) → R (get_or initial i d) u)
    → (length (slice_set now i u) ≡ length initial)
    × ((k : ℕ) (d : X) → k < i + 1 → k < length initial
    → R (get_or initial k d) (get_or (slice_set now i u) k d))
    × ((k : ℕ) (d : X) → i + 1 ≤ k → get_or (slice_set now i u) k d ≡ get_or initial k d)
each_more {X} R initial now i u h l a b c = (
  length-set now i u ∙ l,
  λ k d p q. elim (at_or_above k i (omega arith)) [
    | inl e ↦ (
        let s : get_or (slice_set now i u) k d ≡ u =
        rw e (get_or-set_same now i u d (omega arith)) in
        let r = subst (λ (n : ℕ). R (get_or initial n d) u) (sym e) (c d) in
        subst (λ (w : X). R (get_or initial k d) w) (sym s) r)
    | inr e ↦ (
        let s : get_or (slice_set now i u) k d ≡ get_or now k d =
        get_or-set_other now i k u d (λ w. omega arith) in
        subst (λ (w : X). R (get_or initial k d) w) (sym s) (a k d e q))
  ],
  λ k d p. get_or-set_other now i k u d (λ w. omega arith) ∙ b k d (omega arith),
)

pub items_same : (xs ys : List Tally) → length ys ≡ length xs
    → ((k : ℕ) (d : Tally) → k < length xs → (get_or ys k d).item ≡ (get_or xs k d).item)
    → map (λ (t : Tally). t.item) ys ≡ map (λ (t : Tally). t.item) xs
items_same [] [] l s = refl
items_same [] (y ∷ ys) l s = absurd (omega arith)
items_same (x ∷ xs) [] l s = absurd (omega arith)
items_same (x ∷ xs) (y ∷ ys) l s =
    let h = s 0 x (omega arith) in
    let t = items_same xs ys (omega arith) (λ k d p. s (suc k) d (omega arith)) in
    cc

-- one turn more is weighed
weigh_more : (f : ℕ → ℤ) (done : List Turn) (t : Turn)
    → weigh f (done ++ t ∷ []) ≡ weigh f done +ℤ signed t.opens (f t.place)
weigh_more f done t =
    let j = total_join (weighed f) done (t ∷ []) in omega (arith, ints)

pub tally_more : (rows : List Row) (done : List Turn) (t : Turn) (before after : Tally)
    → IsTally rows done before → Turned (row_at rows t.place) t.opens before after
    → IsTally rows (done ++ t ∷ []) after
tally_more rows done t before after p q = record {
  sum = (
      let w = weigh_more (λ place. weight before.item (row_at rows place)) done t in
      let s = p.sum in
      let u = q.sum in
      let e : after.sum ≡ weigh (λ place. weight before.item (row_at rows place)) (done ++ t ∷ []) =
      omega (arith, ints) in
      subst (λ (i : AggItem). after.sum ≡ weigh (λ place. weight i (row_at rows place))
      (done ++ t ∷ [])) (sym q.item) e);
  within = (
      let l : length (done ++ t ∷ []) ≡ length done + 1 = length-append done (t ∷ []) in
      subst (λ (n : ℕ). IsWithin n after.sum) (sym l) (q.within (length done) p.within));
  counts = λ v. (
      let w = weigh_more (λ place. has_value before.item v (row_at rows place)) done t in
      let s = p.counts v in
      let u = q.counts v in
      let e : counted after.counts v ≡ weigh (λ place. has_value before.item v (row_at rows place))
      (done ++ t ∷ []) = omega (arith, ints) in
      subst (λ (i : AggItem). counted after.counts v
      ≡ weigh (λ place. has_value i v (row_at rows place)) (done ++ t ∷ [])) (sym q.item) e);
  zero = q.zero p.zero;
}

pub held_more : (wanted : List AggItem) (rows : List Row) (done : List Turn) (t : Turn)
    (before after : Held) → IsHeld wanted rows done before
    → after.count ≡ before.count +ℤ signed t.opens (pos 1)
    → AreTurned (row_at rows t.place) t.opens before.tallies.items after.tallies.items
    → IsHeld wanted rows (done ++ t ∷ []) after
held_more wanted rows done t before after p c q = record {
  count = c ∙ ap (λ (n : ℤ). n +ℤ signed t.opens (pos 1)) p.count
      ∙ sym (weigh_more (λ place. pos 1) done t);
  wanted_is = items_same before.tallies.items after.tallies.items q.0 (λ k d h. (q.1 k d h).item)
      ∙ p.wanted_is;
  each = λ k d h. (let l = q.0 in tally_more rows done t (get_or before.tallies.items k d)
      (get_or after.tallies.items k d) (p.each k d (omega arith)) (q.1 k d (omega arith)));
}
