-- The related pairs are all of them, in order.
use Rattle.std.specs.Prelude.{◌≡◌, ◌↔◌, ℕ, ◌<◌, ◌+◌, Bool, true, false, cond, List}
use Rattle.std.specs.Prelude.{[], ◌∷◌, length}
use Rattle.std.proofs.Common.{refl, sym, ap, inl, inr, suc, zero, get_or, arith}
use Rattle.std.specs.declared.cmp.Ordering.TheVariants.{Less}
use Rattle.relations_spec.specs.Spans.{Span}
use Rattle.relations_spec.specs.Sets.{In, Ascends}
use Rattle.relations_spec.proofs.SetLaws.{in_left, in_right, in_append, below_each, ascends_append}
use Rattle.relations_spec.proofs.ListingLaws.{nat_less}
use Rattle.prima_base.specs.declared.timed_row.TimedRow.{TimedRow}
use Rattle.temporal_lang_types.specs.declared.relation.Relation.{Relation}
use Rattle.period_join.specs.Relations.{relates}
use Rattle.period_join.proofs.Steps.{no_row}
use Rattle.period_join.specs.Pairs.{with_each, pairs_from, related, place_cmp, IsPair}

-- a pair of this left place and a right one so many behind `j`
pub record IsWith (relation : Relation) (i : ℕ) (p : Span) (j : ℕ) (right : List TimedRow)
    (d : TimedRow) (pair : ℕ × ℕ) : Type 0 where
  pub place : pair.0 ≡ i
  pub behind : ℕ
  pub next : pair.1 ≡ j + behind
  pub there : behind < length right
  pub relates : relates relation p (get_or right behind d).period ≡ true

module _ (relation : Relation) (d : TimedRow) where
  from_with : (i : ℕ) (p : Span) (j : ℕ) (right : List TimedRow) (pair : ℕ × ℕ)
      → In pair (with_each relation i p j right) → IsWith relation i p j right d pair
  from_with i p j [] pair m = absurd m
  from_with i p j (q ∷ right) pair m = step (relates relation p q.period) refl m
      (from_with i p (j + 1) right pair)
    where
      later : IsWith relation i p (j + 1) right d pair → IsWith relation i p j (q ∷ right) d pair
      later w =
          let e = w.next in
          let t = w.there in
          record {
            place = w.place;
            behind = suc w.behind;
            next = omega arith;
            there = omega arith;
            relates = w.relates;
          }

      step : (b : Bool) → relates relation p q.period ≡ b
          → In pair (cond b ((i, j) ∷ with_each relation i p (j + 1) right)
          (with_each relation i p (j + 1) right))
          → (In pair (with_each relation i p (j + 1) right)
          → IsWith relation i p (j + 1) right d pair)
          → IsWith relation i p j (q ∷ right) d pair
      step true e (inl h) f = record {
        place = sym (ap (λ (w : ℕ × ℕ). w.0) h);
        behind = 0;
        next = (let g : j ≡ pair.1 = ap (λ (w : ℕ × ℕ). w.1) h in omega arith);
        there = omega arith;
        relates = e;
      }
      step true e (inr h) f = later (f h)
      step false e h f = later (f h)

  in_with : (i : ℕ) (p : Span) (j : ℕ) (right : List TimedRow) (k : ℕ) → k < length right
      → relates relation p (get_or right k d).period ≡ true
      → In (i, j + k) (with_each relation i p j right)
  in_with i p j [] k h e = absurd (omega arith)
  in_with i p j (q ∷ right) zero h e =
      let g : j + 0 ≡ j = omega arith in rw (e, g) (inl refl)
  in_with i p j (q ∷ right) (suc k) h e =
      let g : j + suc k ≡ (j + 1) + k = omega arith in
      let m = in_with i p (j + 1) right k (omega arith) e in
      rw g (elim (relates relation p q.period) as (λ (b : Bool).
      In (i, (j + 1) + k) (cond b ((i, j) ∷ with_each relation i p (j + 1) right)
      (with_each relation i p (j + 1) right))) [ true ↦ inr m | false ↦ m ])

  -- a pair of a left place so many behind `i` and a right one
  from_pairs : (i : ℕ) (left right : List TimedRow) (pair : ℕ × ℕ)
      → In pair (pairs_from relation i left right) → (k : ℕ) × (pair.0 ≡ i + k)
      × (k < length left) × (pair.1 < length right)
      × (relates relation (get_or left k d).period (get_or right pair.1 d).period ≡ true)
  from_pairs i [] right pair m = absurd m
  from_pairs i (p ∷ left) right pair m =
      elim (in_append pair (with_each relation i p.period 0 right)
      (pairs_from relation (i + 1) left right) m) [
        | inl a ↦ (
            let w = from_with i p.period 0 right pair a in
            let e = w.next in
            let t = w.there in
            let l = w.place in
            let f : pair.1 ≡ w.behind = omega arith in
            (0, omega arith, omega arith, omega arith, rw f w.relates))
        | inr b ↦ (
            let w = from_pairs (i + 1) left right pair b in
            let e = w.1 in
            let t = w.2 in
            (suc w.0, omega arith, omega arith, w.3, w.4))
      ]

  in_pairs : (i : ℕ) (left right : List TimedRow) (k j : ℕ) → k < length left → j < length right
      → relates relation (get_or left k d).period (get_or right j d).period ≡ true
      → In (i + k, j) (pairs_from relation i left right)
  in_pairs i [] right k j h t e = absurd (omega arith)
  in_pairs i (p ∷ left) right zero j h t e =
      let f : i + 0 ≡ i = omega arith in
      let g : 0 + j ≡ j = omega arith in
      let m = rw g at (in_with i p.period 0 right j t e) in
      rw f (in_left (i, j) (with_each relation i p.period 0 right)
      (pairs_from relation (i + 1) left right) m)
  in_pairs i (p ∷ left) right (suc k) j h t e =
      let f : i + suc k ≡ (i + 1) + k = omega arith in
      let m = in_pairs (i + 1) left right k j (omega arith) t e in
      rw f (in_right ((i + 1) + k, j) (with_each relation i p.period 0 right)
      (pairs_from relation (i + 1) left right) m)

  before_same : (a b : ℕ × ℕ) → a.0 ≡ b.0 → a.1 < b.1 → place_cmp a b ≡ Less
  before_same a b e h = grind arith

  before_later : (a b : ℕ × ℕ) → a.0 < b.0 → place_cmp a b ≡ Less
  before_later a b h = rw (nat_less a.0 b.0 h) refl

  with_ascends : (i : ℕ) (p : Span) (j : ℕ) (right : List TimedRow)
      → Ascends place_cmp (with_each relation i p j right)
  with_ascends i p j [] = tt
  with_ascends i p j (q ∷ right) =
      elim (relates relation p q.period) as (λ (b : Bool).
      Ascends place_cmp (cond b ((i, j) ∷ with_each relation i p (j + 1) right)
      (with_each relation i p (j + 1) right))) [
        | true ↦ (
          below_each place_cmp (i, j) (with_each relation i p (j + 1) right) (λ z m.
              let w = from_with i p (j + 1) right z m in
              let e = w.next in
              before_same (i, j) z (sym w.place) (omega arith)),
          with_ascends i p (j + 1) right,
        )
        | false ↦ with_ascends i p (j + 1) right
      ]

  pairs_ascend : (i : ℕ) (left right : List TimedRow)
      → Ascends place_cmp (pairs_from relation i left right)
  pairs_ascend i [] right = tt
  pairs_ascend i (p ∷ left) right = ascends_append place_cmp (with_each relation i p.period 0 right)
      (pairs_from relation (i + 1) left right) (with_ascends i p.period 0 right)
      (pairs_ascend (i + 1) left right) (λ x y m n.
      let w = from_with i p.period 0 right x m in
      let a = w.place in
      let v = from_pairs (i + 1) left right y n in
      let b = v.1 in
      before_later x y (omega arith))

pub all_there : (relation : Relation) (left right : List TimedRow) (pair : ℕ × ℕ)
    → In pair (related relation left right) ↔ IsPair relation left right pair
all_there relation left right pair = (there, back)
  where
    there : In pair (related relation left right) → IsPair relation left right pair
    there m d =
        let w = from_pairs relation d 0 left right pair m in
        let e = w.1 in
        let f : pair.0 ≡ w.0 = omega arith in
        (rw f w.2, w.3, rw f w.4)

    back : IsPair relation left right pair → In pair (related relation left right)
    back h =
        let w = h no_row in
        let f : 0 + pair.0 ≡ pair.0 = omega arith in
        rw f at (in_pairs relation no_row 0 left right pair.0 pair.1 w.0 w.1 w.2)

pub all_ascend : (relation : Relation) (left right : List TimedRow)
    → Ascends place_cmp (related relation left right)
all_ascend relation left right = pairs_ascend relation no_row 0 left right
