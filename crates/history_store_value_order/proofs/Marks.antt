-- Ids in the order of the values of a column: what is found along them, and what is left of the
-- order where one comes or goes.
use Rattle.std.proofs.Common.{◌≡◌, ◌⊎◌, ℕ, zero, suc, ◌+◌, ◌-◌, ◌<◌, ◌≤◌, Bool, true, false, List}
use Rattle.std.proofs.Common.{[], ◌∷◌, ◌++◌, length, get_or, take, drop, refl, sym, ap, ◌∙◌, subst}
use Rattle.std.proofs.Common.{arith, inl, inr}
use Rattle.std.specs.Prelude.{min}
use Rattle.std.specs.List.{filter, insert, remove}
use Rattle.std.specs.Cmp.{IsTotalOrder}
use Rattle.std.specs.FinMap.{nat_cmp-IsAntisymmetric}
use Rattle.std.specs.Ordering.{nat_cmp, is_lt, ordering_then}
use Rattle.std.specs.declared.cmp.Ordering.{Ordering}
use Rattle.std.specs.declared.cmp.Ordering.TheVariants.{Less, Equal, Greater}
use Rattle.std.proofs.lemmas.Bool.{cases_lt}
use Rattle.std.proofs.lemmas.Cmp.{nat_cmp_total, on_total, then_total, tied_itself}
use Rattle.relations_spec.specs.Sets.{In, Ascends, IsExact}
use Rattle.relations_spec.proofs.SetLaws.{in_left, in_right, in_append, before_in, below_each}
use Rattle.relations_spec.proofs.SetLaws.{cmp_itself}
use Rattle.relations_spec.proofs.ListingLaws.{less_nat, nat_less}
use Rattle.prima_base.specs.Order.{row_cmp, value_eq}
use Rattle.prima_base.specs.OrderLaws.{value_total, row_total, row_exact, exact_from}
use Rattle.prima_base.specs.declared.value.Value.{Value}
use Rattle.history_store_columns.specs.Log.{Write, newest}
use Rattle.history_store_value_order.specs.ByValue.{Distinct, mark_cmp, mark_of, by_value}
use Rattle.history_store_value_order.specs.ByValue.{ids_handed, ids_with}
use Rattle.history_store_value_order.specs.ByValue.{IsWithout, IsWith}
use Rattle.history_store_columns.specs.Puts.{is_value}
use Rattle.history_store_value_order.proofs.Places.{not_true}
use Rattle.history_store_columns.proofs.Puts.{is_value_is}

-- ---- the order

pub second : (a b : Ordering) → ordering_then a b ≡ Equal → b ≡ Equal
second Less b e = cc
second Equal b e = e
second Greater b e = cc

pub mark_total : IsTotalOrder mark_cmp
mark_total = then_total (on_total (λ (m : List Value × ℕ). m.0) row_total)
    (on_total (λ (m : List Value × ℕ). m.1) nat_cmp_total)

pub value_exact : (cells : List Write) → IsExact (by_value cells)
value_exact cells = exact_from (on_total (mark_of cells) mark_total)
    (λ i j e. nat_cmp-IsAntisymmetric i j (second (row_cmp (newest i cells) (newest j cells))
    (nat_cmp i j) e))

less_is : (o : Ordering) → is_lt o ≡ true → o ≡ Less
less_is Less e = refl
less_is Equal e = cc
less_is Greater e = cc

not_less : (o : Ordering) → is_lt o ≡ false → (o ≡ Equal → ⊥) → o ≡ Greater
not_less Less e n = cc
not_less Equal e n = absurd (n refl)
not_less Greater e n = refl

-- ---- along ids that ascend

module _ (R : ℕ → ℕ → Ordering) where
  pub rises_along : (ids : List ℕ) (j k : ℕ) → Ascends R ids → j < k → k < length ids
      → R (get_or ids j 0) (get_or ids k 0) ≡ Less
  rises_along [] j k a l h = absurd (omega arith)
  rises_along (x ∷ ids) j zero a l h = absurd (omega arith)
  rises_along (x ∷ ids) zero (suc k) a l h = before_in R x (get_or ids k 0) ids a.0
      (at_place ids k (omega arith))
    where
      at_place : (ids : List ℕ) (k : ℕ) → k < length ids → In (get_or ids k 0) ids
      at_place [] k h = absurd (omega arith)
      at_place (y ∷ ids) zero h = inl refl
      at_place (y ∷ ids) (suc k) h = inr (at_place ids k (omega arith))
  rises_along (x ∷ ids) (suc j) (suc k) a l h = rises_along ids j k a.1 (omega arith) (omega arith)

  -- one goes
  removed_in : (q : ℕ) (ids : List ℕ) (at : ℕ) → In q (remove ids at) → In q ids
  removed_in q [] zero i = absurd i
  removed_in q [] (suc at) i = absurd i
  removed_in q (x ∷ ids) zero i = inr i
  removed_in q (x ∷ ids) (suc at) (inl e) = inl e
  removed_in q (x ∷ ids) (suc at) (inr i) = inr (removed_in q ids at i)

  removed_rest : (q : ℕ) (ids : List ℕ) (at : ℕ) → at < length ids → In q ids
      → (get_or ids at 0 ≡ q) ⊎ In q (remove ids at)
  removed_rest q [] at h i = absurd i
  removed_rest q (x ∷ ids) zero h (inl e) = inl e
  removed_rest q (x ∷ ids) zero h (inr i) = inr i
  removed_rest q (x ∷ ids) (suc at) h (inl e) = inr (inl e)
  removed_rest q (x ∷ ids) (suc at) h (inr i) =
      elim (removed_rest q ids at (omega arith) i) [ inl e ↦ inl e | inr j ↦ inr (inr j) ]

  removed_rises : (ids : List ℕ) (at : ℕ) → Ascends R ids → Ascends R (remove ids at)
  removed_rises [] zero a = tt
  removed_rises [] (suc at) a = tt
  removed_rises (x ∷ ids) zero a = a.1
  removed_rises (x ∷ ids) (suc at) a = (
    below_each R x (remove ids at)
        (λ y i. before_in R x y ids a.0 (removed_in y ids at i)),
    removed_rises ids at a.1,
  )

  -- one comes
  pub in_inserted : (q : ℕ) (ids : List ℕ) (at id : ℕ) → at ≤ length ids → In q (insert ids at id)
      → In q ids ⊎ (id ≡ q)
  in_inserted q [] zero id h (inl e) = inr e
  in_inserted q [] zero id h (inr i) = inl i
  in_inserted q [] (suc at) id h i = absurd (omega arith)
  in_inserted q (x ∷ ids) zero id h (inl e) = inr e
  in_inserted q (x ∷ ids) zero id h (inr i) = inl i
  in_inserted q (x ∷ ids) (suc at) id h (inl e) = inl (inl e)
  in_inserted q (x ∷ ids) (suc at) id h (inr i) =
      elim (in_inserted q ids at id (omega arith) i) [ inl j ↦ inl (inr j) | inr e ↦ inr e ]

  pub inserted_it : (ids : List ℕ) (at id : ℕ) → at ≤ length ids → In id (insert ids at id)
  inserted_it [] zero id h = inl refl
  inserted_it [] (suc at) id h = absurd (omega arith)
  inserted_it (x ∷ ids) zero id h = inl refl
  inserted_it (x ∷ ids) (suc at) id h = inr (inserted_it ids at id (omega arith))

  pub inserted_rest : (q : ℕ) (ids : List ℕ) (at id : ℕ) → at ≤ length ids → In q ids
      → In q (insert ids at id)
  inserted_rest q [] at id h i = absurd i
  inserted_rest q (x ∷ ids) zero id h i = inr i
  inserted_rest q (x ∷ ids) (suc at) id h (inl e) = inl e
  inserted_rest q (x ∷ ids) (suc at) id h (inr i) = inr (inserted_rest q ids at id (omega arith) i)

  from_place : (q : ℕ) (ids : List ℕ) → In q ids → (k : ℕ) × (k < length ids) × (get_or ids k 0 ≡ q)
  from_place q [] i = absurd i
  from_place q (x ∷ ids) (inl e) = (0, omega arith, e)
  from_place q (x ∷ ids) (inr i) = let r = from_place q ids i in let h = r.1 in
      (suc r.0, omega (arith, h), r.2)

  module _ (o : IsExact R) where
    once : (ids : List ℕ) (at : ℕ) → Ascends R ids → at < length ids
        → In (get_or ids at 0) (remove ids at) → ⊥
    once [] at a h i = absurd (omega arith)
    once (x ∷ ids) zero a h i = o.apart x (before_in R x x ids a.0 i)
    once (x ∷ ids) (suc at) a h (inl e) = o.apart x
        (subst (λ y. R x y ≡ Less) (sym e) (rises_along (x ∷ ids) 0 (suc at) a (omega arith) h))
    once (x ∷ ids) (suc at) a h (inr i) = once ids at a.1 (omega arith) i

    inserted_rises : (ids : List ℕ) (at id : ℕ) → at ≤ length ids → Ascends R ids
        → ((k : ℕ) → k < at → R (get_or ids k 0) id ≡ Less)
        → ((k : ℕ) → at ≤ k → k < length ids → R id (get_or ids k 0) ≡ Less)
        → Ascends R (insert ids at id)
    inserted_rises [] zero id h a b c = (tt, tt)
    inserted_rises [] (suc at) id h a b c = absurd (omega arith)
    inserted_rises (x ∷ ids) zero id h a b c = (
      below_each R id (x ∷ ids) (λ y i. (let r = from_place y (x ∷ ids) i in
          subst (λ z. R id z ≡ Less) r.2 (c r.0 (omega arith) r.1))),
      a,
    )
    inserted_rises (x ∷ ids) (suc at) id h a b c = (
      below_each R x (insert ids at id) (λ y i.
          elim (in_inserted y ids at id (omega arith) i) [
            | inl j ↦ before_in R x y ids a.0 j
            | inr e ↦ subst (λ z. R x z ≡ Less) e (b 0 (omega arith))
          ]),
      inserted_rises ids at id (omega arith) a.1 (λ k l. b (suc k) (omega arith))
          (λ k l m. c (suc k) (omega arith) (omega arith)),
    )

-- ---- what is under a mark

module _ (cells : List Write) (ids : List ℕ) (mark : List Value × ℕ)
    (a : Ascends (by_value cells) ids) where
  pub all_under : (m : ℕ) → m < length ids → is_lt (mark_cmp (mark_of cells (get_or ids m 0)) mark)
      ≡ true → (k : ℕ) → k < m + 1 → is_lt (mark_cmp (mark_of cells (get_or ids k 0)) mark) ≡ true
  all_under m h e k b =
      elim (cases_lt k m) [
        | inl l ↦
            let f = mark_total.trans (mark_of cells (get_or ids k 0))
            (mark_of cells (get_or ids m 0)) mark (rises_along (by_value cells) ids k m a l h)
            (less_is (mark_cmp (mark_of cells (get_or ids m 0)) mark) e) in
            rw f refl
        | inr l ↦ let q : m ≡ k = omega arith in
            subst (λ n. is_lt (mark_cmp (mark_of cells (get_or ids n 0)) mark) ≡ true) q e
      ]

  pub none_under : (m : ℕ) → is_lt (mark_cmp (mark_of cells (get_or ids m 0)) mark) ≡ false
      → (k : ℕ) → m ≤ k → k < length ids → is_lt (mark_cmp (mark_of cells (get_or ids k 0)) mark)
      ≡ false
  none_under m e k b h = by_case (mark_cmp (mark_of cells (get_or ids k 0)) mark) refl
    where
      by_case : (r : Ordering) → mark_cmp (mark_of cells (get_or ids k 0)) mark ≡ r
          → is_lt r ≡ false
      by_case Equal f = refl
      by_case Greater f = refl
      by_case Less f = (let g = all_under k h (ap is_lt f) m (omega (arith, b)) in absurd (cc))

-- ---- an id that comes or goes

module _ (cells : List Write) (ids : List ℕ) (id at : ℕ) (a : Ascends (by_value cells) ids)
    (within : at ≤ length ids)
    (before : (k : ℕ) → k < at → is_lt (by_value cells (get_or ids k 0) id) ≡ true) (after : (k : ℕ)
    → at ≤ k → k < length ids → is_lt (by_value cells (get_or ids k 0) id) ≡ false) where
  o : IsExact (by_value cells)
  o = value_exact cells

  pub place_is : In id ids → (at < length ids) × (get_or ids at 0 ≡ id)
  place_is i = found (from_place (by_value cells) id ids i)
    where
      found : (k : ℕ) × (k < length ids) × (get_or ids k 0 ≡ id) → (at < length ids)
          × (get_or ids at 0 ≡ id)
      found (k, h, e) =
          let low : at ≤ k = elim (cases_lt k at) [
            | inl l ↦ absurd (o.apart id (subst (λ n. by_value cells n id ≡ Less) e
                (less_is (by_value cells (get_or ids k 0) id) (before k l))))
            | inr l ↦ l
          ] in
          let same : k ≤ at = elim (cases_lt at k) [
            | inl l ↦ (let f = subst (λ n. by_value cells (get_or ids at 0) n ≡ Less) e
                (rises_along (by_value cells) ids at k a l h) in let g =
                after at (omega arith) (omega (arith, l, h)) in
                let t : is_lt (by_value cells (get_or ids at 0) id) ≡ true = ap is_lt f in
                absurd (cc))
            | inr l ↦ l
          ] in
          let n : k ≡ at = omega (arith, low, same) in
          (subst (λ j. j < length ids) n h, subst (λ j. get_or ids j 0 ≡ id) n e)

  pub one_without : In id ids → IsWithout cells (id ∷ []) ids (remove ids at)
  one_without i =
      let p = place_is i in
      record {
        rises = removed_rises (by_value cells) ids at a;
        only = λ q j. (
          removed_in (by_value cells) q ids at j,
          λ s.
              elim s [
                | inl e ↦ once (by_value cells) o ids at a p.0
                    (subst (λ n. In n (remove ids at)) (sym e ∙ sym p.1) j)
                | inr n ↦ n
              ],
        );
        all = λ q j n. elim (removed_rest (by_value cells) q ids at p.0 j)
            [ inl e ↦ absurd (n (inl (sym p.1 ∙ e))) | inr k ↦ k ];
      }

  pub one_with : (In id ids → ⊥) → IsWith cells (id ∷ []) ids (insert ids at id)
  one_with f = record {
    rises = inserted_rises (by_value cells) o ids at id within a
        (λ k l. less_is (by_value cells (get_or ids k 0) id) (before k l))
        (λ k l h. o.turn (get_or ids k 0) id (not_less (by_value cells (get_or ids k 0) id)
        (after k l h) (λ e. f (subst (λ n. In n ids) (o.same (get_or ids k 0) id e)
        (there ids k h)))));
    only = λ q i. elim (in_inserted (by_value cells) q ids at id within i) [
      | inl j ↦ inl j
      | inr e ↦ inr (inl e)
    ];
    kept = λ q i. inserted_rest (by_value cells) q ids at id within i;
    given = λ q i. elim i [
      | inl e ↦ subst (λ n. In n (insert ids at id)) e
          (inserted_it (by_value cells) ids at id within)
      | inr n ↦ absurd n
    ];
  }
    where
      there : (ids : List ℕ) (k : ℕ) → k < length ids → In (get_or ids k 0) ids
      there [] k h = absurd (omega arith)
      there (y ∷ ids) zero h = inl refl
      there (y ∷ ids) (suc k) h = inr (there ids k (omega arith))

-- ---- several ids that go, one after the other

module _ (cells : List Write) where
  pub none_without : (ids : List ℕ) → Ascends (by_value cells) ids → IsWithout cells [] ids ids
  none_without ids a = record { rises = a; only = λ q i. (i, λ n. n); all = λ q i n. i }

  pub more_without : (lost before between after : List ℕ) (id : ℕ)
      → IsWithout cells lost before between → IsWithout cells (id ∷ []) between after
      → IsWithout cells (lost ++ id ∷ []) before after
  more_without lost before between after id a b = record {
    rises = b.rises;
    only = λ q i. (let one = b.only q i in let two = a.only q one.0 in
        (two.0, λ j. elim (in_append q lost (id ∷ []) j) [ inl k ↦ two.1 k | inr k ↦ one.1 k ]));
    all = λ q i n. b.all q (a.all q i (λ j. n (in_left q lost (id ∷ []) j)))
        (λ j. n (in_right q lost (id ∷ []) j));
  }

  pub none_with : (ids : List ℕ) → Ascends (by_value cells) ids → IsWith cells [] ids ids
  none_with ids a = record {
    rises = a;
    only = λ q i. inl i;
    kept = λ q i. i;
    given = λ q i.
        absurd i;
  }

  pub more_with : (new before between after : List ℕ) (id : ℕ) → IsWith cells new before between
      → IsWith cells (id ∷ []) between after → IsWith cells (new ++ id ∷ []) before after
  more_with new before between after id a b = record {
    rises = b.rises;
    only = λ q i. elim (b.only q i) [
      | inl j ↦
          elim (a.only q j) [ inl k ↦ inl k | inr k ↦ inr (in_left q new (id ∷ []) k) ]
      | inr j ↦ inr (in_right q new (id ∷ []) j)
    ];
    kept = λ q i. b.kept q (a.kept q i);
    given = λ q i. elim (in_append q new (id ∷ []) i) [
      | inl j ↦ b.kept q (a.given q j)
      | inr j ↦ b.given q j
    ];
  }

pub taken_more : (ids : List ℕ) (k : ℕ) → k < length ids
    → take (k + 1) ids ≡ take k ids ++ get_or ids k 0 ∷ []
taken_more [] k h = absurd (omega arith)
taken_more (x ∷ ids) zero h = refl
taken_more (x ∷ ids) (suc k) h = let n : suc k + 1 ≡ suc (k + 1) = omega arith in
    rw n (ap (λ ys. x ∷ ys) (taken_more ids k (omega arith)))

pub all_taken : (ids : List ℕ) (k : ℕ) → length ids ≤ k → take k ids ≡ ids
all_taken [] zero h = refl
all_taken [] (suc k) h = refl
all_taken (x ∷ ids) zero h = absurd (omega arith)
all_taken (x ∷ ids) (suc k) h = ap (λ ys. x ∷ ys) (all_taken ids k (omega arith))

pub at_place : (ids : List ℕ) (k : ℕ) → k < length ids → In (get_or ids k 0) ids
at_place [] k h = absurd (omega arith)
at_place (y ∷ ids) zero h = inl refl
at_place (y ∷ ids) (suc k) h = inr (at_place ids k (omega arith))

pub taken_in : (q : ℕ) (ids : List ℕ) (k : ℕ) → In q (take k ids) → In q ids
taken_in q ids zero i = absurd i
taken_in q [] (suc k) i = absurd i
taken_in q (x ∷ ids) (suc k) (inl e) = inl e
taken_in q (x ∷ ids) (suc k) (inr i) = inr (taken_in q ids k i)

-- an id is not among those before it
pub not_yet : (ids : List ℕ) (k : ℕ) → k < length ids → Distinct ids
    → In (get_or ids k 0) (take k ids) → ⊥
not_yet [] k h d i = absurd (omega arith)
not_yet (x ∷ ids) zero h d i = i
not_yet (x ∷ ids) (suc k) h d (inl e) = d.0 (subst (λ n. In n ids) (sym e)
    (at_place ids k (omega arith)))
not_yet (x ∷ ids) (suc k) h d (inr i) = not_yet ids k (omega arith) d.1 i

pub length-handed : (lost : List ℕ) (next n : ℕ) → length (ids_handed lost next n) ≡ n
length-handed lost next zero = refl
length-handed [] next (suc n) = let e = length-handed [] (next + 1) n in omega (arith, e)
length-handed (id ∷ lost) next (suc n) = let e = length-handed lost next n in omega (arith, e)

-- the id at a place
pub handed_lost : (lost : List ℕ) (next n at : ℕ) → at < length lost → at < n
    → get_or (ids_handed lost next n) at 0 ≡ get_or lost at 0
handed_lost [] next n at h b = absurd (omega arith)
handed_lost (id ∷ lost) next zero at h b = absurd (omega arith)
handed_lost (id ∷ lost) next (suc n) zero h b = refl
handed_lost (id ∷ lost) next (suc n) (suc at) h b =
    handed_lost lost next n at (omega arith) (omega arith)

pub handed_new : (lost : List ℕ) (next n at : ℕ) → length lost ≤ at → at < n
    → get_or (ids_handed lost next n) at 0 ≡ next + (at - length lost)
handed_new lost next zero at h b = absurd (omega arith)
handed_new [] next (suc n) zero h b = omega arith
handed_new [] next (suc n) (suc at) h b = let e =
    handed_new [] (next + 1) n at (omega arith) (omega arith) in omega (arith, e)
handed_new (id ∷ lost) next (suc n) zero h b = absurd (omega arith)
handed_new (id ∷ lost) next (suc n) (suc at) h b = let e =
    handed_new lost next n at (omega (arith, h)) (omega arith) in omega (arith, e)

-- ---- the ids that have a value

no_part : (i n : ℕ) → take n (drop {A = ℕ} i []) ≡ []
no_part zero zero = refl
no_part zero (suc n) = refl
no_part (suc i) zero = refl
no_part (suc i) (suc n) = refl

-- a part of the ids are those that pass a test
part_is : (p : ℕ → Bool) (ids : List ℕ) (i j : ℕ) → i ≤ j → j ≤ length ids
    → ((k : ℕ) → k < i → p (get_or ids k 0) ≡ false)
    → ((k : ℕ) → i ≤ k → k < j → p (get_or ids k 0) ≡ true)
    → ((k : ℕ) → j ≤ k → k < length ids → p (get_or ids k 0) ≡ false)
    → filter p ids ≡ take (j - i) (drop i ids)
part_is p [] i j o h a b c = sym (no_part i (j - i))
part_is p (id ∷ ids) zero zero o h a b c =
    let e : p id ≡ false = c 0 (omega arith) (omega arith) in
    let r = part_is p ids 0 0 (omega arith) (omega arith) (λ k l. absurd (omega arith))
    (λ k l m. absurd (omega arith)) (λ k l m. c (suc k) (omega arith) (omega arith)) in
    rw e r
part_is p (id ∷ ids) zero (suc j) o h a b c =
    let e : p id ≡ true = b 0 (omega arith) (omega arith) in
    let r = part_is p ids zero j (omega arith) (omega arith) (λ k l. absurd (omega arith))
    (λ k l m. b (suc k) (omega arith) (omega arith))
    (λ k l m. c (suc k) (omega arith) (omega arith)) in
    let z : suc j - 0 ≡ suc (j - 0) = omega arith in
    rw (e, z) (ap (λ rest. id ∷ rest) r)
part_is p (id ∷ ids) (suc i) zero o h a b c = absurd (omega arith)
part_is p (id ∷ ids) (suc i) (suc j) o h a b c =
    let e : p id ≡ false = a 0 (omega arith) in
    let n : suc j - suc i ≡ j - i = omega arith in
    let r = part_is p ids i j (omega arith) (omega arith) (λ k l. a (suc k) (omega arith))
    (λ k l m. b (suc k) (omega arith) (omega arith))
    (λ k l m. c (suc k) (omega arith) (omega arith)) in
    rw (e, n) r

value_itself : (v : Value) → value_eq v v ≡ true
value_itself v = rw (tied_itself value_total v) refl

equal_is : (o p : Ordering) → is_lt (ordering_then o p) ≡ true → (o ≡ Less → ⊥) → o ≡ Equal
equal_is Less p e n = absurd (n refl)
equal_is Equal p e n = refl
equal_is Greater p e n = cc

module _ (cells : List Write) (ids : List ℕ) (v : Value) (bound start end : ℕ) (known : (q : ℕ)
    → In q ids → q < bound)
    (before_start : (k : ℕ) → k < start → is_lt
    (mark_cmp (mark_of cells (get_or ids k 0)) (v ∷ [], 0)) ≡ true) (from_start : (k : ℕ)
    → start ≤ k → k < length ids → is_lt (mark_cmp (mark_of cells (get_or ids k 0)) (v ∷ [], 0))
    ≡ false)
    (before_end : (k : ℕ) → k < end → is_lt (mark_cmp (mark_of cells (get_or ids k 0))
    (v ∷ [], bound)) ≡ true) (from_end : (k : ℕ) → end ≤ k → k < length ids
    → is_lt (mark_cmp (mark_of cells (get_or ids k 0)) (v ∷ [], bound)) ≡ false) where
  pub has_value : (k : ℕ) → start ≤ k → k < end → k < length ids
      → newest (get_or ids k 0) cells ≡ v ∷ []
  has_value k l b h =
      row_exact.same (newest (get_or ids k 0) cells) (v ∷ [])
      (equal_is (row_cmp (newest (get_or ids k 0) cells) (v ∷ [])) (nat_cmp (get_or ids k 0) bound)
      (before_end k b)
      (λ e. (let t : is_lt (mark_cmp (mark_of cells (get_or ids k 0)) (v ∷ [], 0)) ≡ true =
      ap (λ o. is_lt (ordering_then o (nat_cmp (get_or ids k 0) 0))) e in let f =
      from_start k l h in cc)))

  compared : (k i : ℕ) → newest (get_or ids k 0) cells ≡ v ∷ []
      → mark_cmp (mark_of cells (get_or ids k 0)) (v ∷ [], i) ≡ nat_cmp (get_or ids k 0) i
  compared k i e = ap (λ vs. ordering_then (row_cmp vs (v ∷ [])) (nat_cmp (get_or ids k 0) i)) e
      ∙ ap (λ o. ordering_then o (nat_cmp (get_or ids k 0) i))
      (cmp_itself row_cmp row_exact (v ∷ []))

  pub at_value : (k : ℕ) → k < length ids → newest (get_or ids k 0) cells ≡ v ∷ [] → (start ≤ k)
      × (k < end)
  at_value k h e = (
    elim (cases_lt k start) [
      | inl l ↦ (let t = less_nat (get_or ids k 0) 0
          (sym (compared k 0 e) ∙ less_is (mark_cmp (mark_of cells (get_or ids k 0)) (v ∷ [], 0))
          (before_start k l)) in absurd (omega (arith, t)))
      | inr l ↦ l
    ],
    elim (cases_lt k end) [
      | inl l ↦ l
      | inr l ↦ (let b = known (get_or ids k 0) (at_place ids k h) in
          let t : is_lt (mark_cmp (mark_of cells (get_or ids k 0)) (v ∷ [], bound)) ≡ true =
          ap is_lt (compared k bound e ∙ nat_less (get_or ids k 0) bound b) in let f =
          from_end k l h in absurd (cc))
    ],
  )

  passes : (k : ℕ) → start ≤ k → k < end → k < length ids
      → is_value v (newest (get_or ids k 0) cells) ≡ true
  passes k l b h = let e = has_value k l b h in rw e (value_itself v)

  fails : (k : ℕ) → k < length ids → ((start ≤ k) × (k < end) → ⊥)
      → is_value v (newest (get_or ids k 0) cells) ≡ false
  fails k h n = not_true (is_value v (newest (get_or ids k 0) cells))
      (λ t. n (at_value k h (is_value_is v (newest (get_or ids k 0) cells) t)))

  -- they stand side by side
  pub ids_found : end ≤ length ids → ids_with v cells ids
      ≡ take (end - min start end) (drop (min start end) ids)
  ids_found within =
      part_is (λ id. is_value v (newest id cells)) ids (min start end) end (grind arith) within
      (λ k l. fails k (grind arith) (λ b. (let low : start ≤ k = b.0 in let high : k < end = b.1 in
      grind arith)))
      (λ k l b. passes k (grind arith) b (omega arith))
      (λ k l h. fails k h (λ b. (let high : k < end = b.1 in omega arith)))
