-- Cuts in the order of rows, and the rows between two of them.
use Rattle.std.proofs.Common.{◌≡◌, ◌⊎◌, ℕ, zero, suc, ◌+◌, ◌-◌, ◌<◌, ◌≤◌, Bool, true, false, cond}
use Rattle.std.proofs.Common.{List, [], ◌∷◌, length, get_or, take, drop, refl, sym, ap, ◌∙◌, subst}
use Rattle.std.proofs.Common.{arith, inl, inr}
use Rattle.std.specs.Prelude.{not, ◌&&◌, min}
use Rattle.std.specs.List.{filter}
use Rattle.std.proofs.lemmas.Bool.{cases_lt}
use Rattle.std.proofs.lemmas.List.{length-take-le, length-drop, get_or-take, get_or-drop}
use Rattle.std.specs.declared.cmp.Ordering.{Ordering}
use Rattle.std.specs.declared.cmp.Ordering.TheVariants.{Less, Equal, Greater}
use Rattle.std.specs.Ordering.{is_lt, is_le, ordering_then}
use Rattle.relations_spec.specs.Sets.{Ascends}
use Rattle.prima_base.specs.Order.{value_cmp, row_cmp}
use Rattle.prima_base.specs.OrderLaws.{value_total}
use Rattle.prima_base.specs.declared.value.Value.{Value}
use Rattle.history_store_columns.specs.Log.{Write}
use Rattle.history_store_row_order.specs.Cuts.{Cut, is_before, between}
use Rattle.history_store_row_order.specs.Rows.{row_now, rows_of}
use Rattle.history_store_columns.proofs.Puts.{exact_values}
use Rattle.history_store_row_order.proofs.SideBySide.{rises_at}

-- ---- a row before one that is before a cut

abbrev is_below : Ordering → Bool → Bool
is_below o true = is_le o
is_below o false = is_lt o

less_below : (b : Bool) → is_below Less b ≡ true
less_below true = refl
less_below false = refl

-- what the row begins with is below
abbrev LeadBelow : List Value → List Value → Bool → Type 0
LeadBelow vs row b = is_below (row_cmp (take (length vs) row) vs) b ≡ true

none_above : (b : Bool) → is_below Greater b ≡ true → ⊥
none_above true k = cc
none_above false k = cc

-- the same of what rows begin with
lead_below : (vs q r : List Value) (b : Bool) → row_cmp q r ≡ Less → LeadBelow vs r b
    → LeadBelow vs q b
lead_below [] q r b l h = h
lead_below (v ∷ vs) [] r b l h = less_below b
lead_below (v ∷ vs) (x ∷ q) [] b l h = absurd (cc)
lead_below (v ∷ vs) (x ∷ q) (y ∷ r) b l h = step (λ k g. lead_below vs q r b k g) (value_cmp x y)
    refl l
  where
    earlier : value_cmp x y ≡ Less → (o : Ordering) → value_cmp y v ≡ o
        → is_below (ordering_then o (row_cmp (take (length vs) r) vs)) b ≡ true
        → LeadBelow (v ∷ vs) (x ∷ q) b
    earlier e Less f k = rw (value_total.trans x y v e f) (less_below b)
    earlier e Equal f k = let z : value_cmp x v ≡ Less =
        subst (λ w. value_cmp x w ≡ Less) (exact_values y v f) e in rw z (less_below b)
    earlier e Greater f k = absurd (none_above b k)

    again : (row_cmp q r ≡ Less → LeadBelow vs r b → LeadBelow vs q b) → row_cmp q r ≡ Less
        → (o : Ordering) → value_cmp x v ≡ o → is_below
        (ordering_then o (row_cmp (take (length vs) r) vs)) b ≡ true → LeadBelow (v ∷ vs) (x ∷ q) b
    again rest k Less f g = rw f (less_below b)
    again rest k Equal f g = rw f (rest k g)
    again rest k Greater f g = rw f g

    step : (row_cmp q r ≡ Less → LeadBelow vs r b → LeadBelow vs q b) → (o : Ordering)
        → value_cmp x y ≡ o → ordering_then o (row_cmp q r) ≡ Less → LeadBelow (v ∷ vs) (x ∷ q) b
    step rest Less e k = earlier e (value_cmp y v) refl h
    step rest Equal e k = again rest k (value_cmp x v) refl
        (subst (λ w. is_below (ordering_then (value_cmp w v) (row_cmp (take (length vs) r) vs)) b
        ≡ true) (sym (exact_values x y e)) h)
    step rest Greater e k = absurd (cc)

as_below : (c : Cut) (row : List Value) → is_before c row
    ≡ is_below (row_cmp (take (length c.values) row) c.values) c.after
as_below c row = elim c.after as (λ b. cond b
    (is_le (row_cmp (take (length c.values) row) c.values))
    (is_lt (row_cmp (take (length c.values) row) c.values))
    ≡ is_below (row_cmp (take (length c.values) row) c.values) b) [ true ↦ refl | false ↦ refl ]

pub before_less : (c : Cut) (q r : List Value) → row_cmp q r ≡ Less → is_before c r ≡ true
    → is_before c q ≡ true
before_less c q r l h = as_below c q ∙ lead_below c.values q r c.after l (sym (as_below c r) ∙ h)

-- ---- along ids whose rows ascend

pub all_before : (c : Cut) (columns : List (List Write)) (ids : List ℕ) (m : ℕ)
    → Ascends row_cmp (rows_of ids columns) → m < length ids
    → is_before c (row_now (get_or ids m 0) columns) ≡ true
    → (k : ℕ) → k < m + 1 → is_before c (row_now (get_or ids k 0) columns) ≡ true
all_before c columns ids m r h e k b =
    elim (cases_lt k m) [
      | inl l ↦ before_less c (row_now (get_or ids k 0) columns) (row_now (get_or ids m 0) columns)
          (rises_at columns ids k m r l h) e
      | inr l ↦ let q : m ≡ k = omega arith in
          subst (λ n. is_before c (row_now (get_or ids n 0) columns) ≡ true) q e
    ]

pub none_before : (c : Cut) (columns : List (List Write)) (ids : List ℕ) (m : ℕ)
    → Ascends row_cmp (rows_of ids columns) → is_before c (row_now (get_or ids m 0) columns) ≡ false
    → (k : ℕ) → m ≤ k → k < length ids → is_before c (row_now (get_or ids k 0) columns) ≡ false
none_before c columns ids m r e k b h =
    elim (cases_lt m k) [
      | inl l ↦ step (is_before c (row_now (get_or ids k 0) columns)) refl
          (before_less c (row_now (get_or ids m 0) columns) (row_now (get_or ids k 0) columns)
          (rises_at columns ids m k r l h))
      | inr l ↦ let q : m ≡ k = omega arith in
          subst (λ n. is_before c (row_now (get_or ids n 0) columns) ≡ false) q e
    ]
  where
    step : (b : Bool) → is_before c (row_now (get_or ids k 0) columns) ≡ b
        → (is_before c (row_now (get_or ids k 0) columns) ≡ true
        → is_before c (row_now (get_or ids m 0) columns) ≡ true)
        → is_before c (row_now (get_or ids k 0) columns) ≡ false
    step true f g = absurd (let t = g f in cc)
    step false f g = f

-- ---- the ids from one place to another

no_part : (i n : ℕ) → take n (drop {A = ℕ} i []) ≡ []
no_part zero zero = refl
no_part zero (suc n) = refl
no_part (suc i) zero = refl
no_part (suc i) (suc n) = refl

-- the test holds of just the first i
abbrev HoldsUpTo : (List Value → Bool) → List (List Write) → List ℕ → ℕ → Type 0
HoldsUpTo p columns ids i = ((k : ℕ) → k < i → p (row_now (get_or ids k 0) columns) ≡ true)
    × ((k : ℕ) → i ≤ k → k < length ids → p (row_now (get_or ids k 0) columns) ≡ false)

module _ (p q : List Value → Bool) (columns : List (List Write)) where
  later : (r : List Value → Bool) (id : ℕ) (ids : List ℕ) (i : ℕ)
      → HoldsUpTo r columns (id ∷ ids) (suc i) → HoldsUpTo r columns ids i
  later r id ids i h = (
    λ k l. h.0 (suc k) (omega arith),
    λ k l b.
        h.1 (suc k) (omega arith) (omega arith),
  )

  later_none : (r : List Value → Bool) (id : ℕ) (ids : List ℕ) → HoldsUpTo r columns (id ∷ ids) 0
      → HoldsUpTo r columns ids 0
  later_none r id ids h = (
    λ k l. absurd (omega arith),
    λ k l b.
        h.1 (suc k) (omega arith) (omega arith),
  )

  none_between : (ids : List ℕ) → ((k : ℕ) → k < length ids
      → q (row_now (get_or ids k 0) columns) ≡ false)
      → filter (λ row. not (p row) && q row) (rows_of ids columns) ≡ []
  none_between [] h = refl
  none_between (id ∷ ids) h =
      let e : q (row_now id columns) ≡ false = h 0 (omega arith) in
      let r = none_between ids (λ k b. h (suc k) (omega arith)) in
      elim (p (row_now id columns)) as (λ b. cond (not b && q (row_now id columns))
      (row_now id columns ∷ filter (λ row. not (p row) && q row) (rows_of ids columns))
      (filter (λ row. not (p row) && q row) (rows_of ids columns)) ≡ []) [
        | true ↦ r
        | false ↦ rw e r
      ]

  pub ids_between : (ids : List ℕ) (i j : ℕ) → i ≤ j → j ≤ length ids → HoldsUpTo p columns ids i
      → HoldsUpTo q columns ids j
      → rows_of (take (j - i) (drop i ids)) columns
      ≡ filter (λ row. not (p row) && q row) (rows_of ids columns)
  ids_between [] i j o h f g = rw (no_part i (j - i)) refl
  ids_between (id ∷ ids) i zero o h f g = let n : i ≡ 0 = omega arith in
      rw n (sym (none_between (id ∷ ids) (λ k b. g.1 k (omega arith) b)))
  ids_between (id ∷ ids) zero (suc j) o h f g =
      let e : p (row_now id columns) ≡ false = f.1 0 (omega arith) (omega arith) in
      let d : q (row_now id columns) ≡ true = g.0 0 (omega arith) in
      let r = ids_between ids zero j (omega arith) (omega arith) (later_none p id ids f)
      (later q id ids j g) in
      let z : suc j - 0 ≡ suc (j - 0) = omega arith in
      rw (e, d, z) (ap (λ rows. row_now id columns ∷ rows) r)
  ids_between (id ∷ ids) (suc i) (suc j) o h f g =
      let e : p (row_now id columns) ≡ true = f.0 0 (omega arith) in
      let n : suc j - suc i ≡ j - i = omega arith in
      let r = ids_between ids i j (omega arith) (omega arith) (later p id ids i f)
      (later q id ids j g) in
      rw (e, n) r

-- a first place after the second has nothing from it on
pub ids_from : (from to : Cut) (columns : List (List Write)) (ids : List ℕ) (i j : ℕ)
    → j ≤ length ids → HoldsUpTo (is_before from) columns ids i
    → HoldsUpTo (is_before to) columns ids j
    → rows_of (take (j - min i j) (drop (min i j) ids)) columns
    ≡ between from to (rows_of ids columns)
ids_from from to columns ids i j h f g = elim (cases_lt j i) [ inl l ↦ past l | inr l ↦ inside l ]
  where
    inside : i ≤ j → rows_of (take (j - min i j) (drop (min i j) ids)) columns
        ≡ between from to (rows_of ids columns)
    inside l = let n : min i j ≡ i = grind arith in
        rw n (ids_between (is_before from) (is_before to) columns ids i j l h f g)

    past : j < i → rows_of (take (j - min i j) (drop (min i j) ids)) columns
        ≡ between from to (rows_of ids columns)
    past l = let n : min i j ≡ j = grind arith in rw n (empty (λ k b. step k b (cases_lt k j)))
      where
        empty : ((k : ℕ) → k < length ids → not (is_before from (row_now (get_or ids k 0) columns))
            && is_before to (row_now (get_or ids k 0) columns) ≡ false)
            → rows_of (take (j - j) (drop j ids)) columns ≡ between from to (rows_of ids columns)
        empty e = let z : j - j ≡ 0 = omega arith in
            rw z (sym (none_kept (λ row. not (is_before from row) && is_before to row) ids e))
          where
            none_kept : (t : List Value → Bool) (ids : List ℕ)
                → ((k : ℕ) → k < length ids → t (row_now (get_or ids k 0) columns) ≡ false)
                → filter t (rows_of ids columns) ≡ []
            none_kept t [] e = refl
            none_kept t (id ∷ ids) e = let n : t (row_now id columns) ≡ false = e 0 (omega arith) in
                rw n (none_kept t ids (λ k b. e (suc k) (omega arith)))

        step : (k : ℕ) → k < length ids → (k < j) ⊎ (j ≤ k)
            → not (is_before from (row_now (get_or ids k 0) columns))
            && is_before to (row_now (get_or ids k 0) columns) ≡ false
        step k b (inl m) = ap (λ x. not x && is_before to (row_now (get_or ids k 0) columns))
            (f.0 k (omega (arith, m, l)))
        step k b (inr m) = ap (λ x. not (is_before from (row_now (get_or ids k 0) columns)) && x)
            (g.1 k m b) ∙ and_false (not (is_before from (row_now (get_or ids k 0) columns)))
          where
            and_false : (b : Bool) → (b && false) ≡ false
            and_false true = refl
            and_false false = refl

-- ---- rows of ids

pub length-rows_of : (ids : List ℕ) (columns : List (List Write))
    → length (rows_of ids columns) ≡ length ids
length-rows_of [] columns = refl
length-rows_of (id ∷ ids) columns = ap suc (length-rows_of ids columns)

pub get_or-rows_of : (ids : List ℕ) (columns : List (List Write)) (k : ℕ) → k < length ids
    → get_or (rows_of ids columns) k [] ≡ row_now (get_or ids k 0) columns
get_or-rows_of [] columns k h = absurd (omega arith)
get_or-rows_of (id ∷ ids) columns zero h = refl
get_or-rows_of (id ∷ ids) columns (suc k) h = get_or-rows_of ids columns k (omega arith)

-- rows of a part of the ids
pub length-part : (ids : List ℕ) (start end : ℕ) (columns : List (List Write)) → start ≤ end
    → end ≤ length ids → length (rows_of (take (end - start) (drop start ids)) columns)
    ≡ end - start
length-part ids start end columns o h = let d = length-drop start ids in
    length-rows_of (take (end - start) (drop start ids)) columns
    ∙ length-take-le (end - start) (drop start ids) (omega (arith, d))

pub get_or-part : (ids : List ℕ) (start end : ℕ) (columns : List (List Write)) (k : ℕ)
    → k < end - start → start ≤ end → end ≤ length ids
    → get_or (rows_of (take (end - start) (drop start ids)) columns) k []
    ≡ row_now (get_or ids (start + k) 0) columns
get_or-part ids start end columns k b o h =
    let d = length-drop start ids in
    let l = length-take-le (end - start) (drop start ids) (omega (arith, d)) in
    get_or-rows_of (take (end - start) (drop start ids)) columns k (omega (arith, l, b))
    ∙ ap (λ n. row_now n columns) (get_or-take (end - start) (drop start ids) k 0 b
    ∙ get_or-drop start ids k 0)
