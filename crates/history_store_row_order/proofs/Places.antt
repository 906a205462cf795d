-- Ids that come and go by their places.
use Rattle.std.proofs.Common.{◌≡◌, ℕ, zero, suc, ◌+◌, ◌-◌, ◌<◌, ◌≤◌, true, false, List, [], ◌∷◌}
use Rattle.std.proofs.Common.{◌++◌, length, get_or, take, drop, nat_lt, refl, sym, ap, ◌∙◌, subst}
use Rattle.std.proofs.Common.{arith, inl, inr, append_assoc, length-append}
use Rattle.std.specs.Prelude.{if◌then◌else◌}
use Rattle.std.specs.List.{insert, remove}
use Rattle.std.specs.declared.cmp.Ordering.TheVariants.{Less, Greater}
use Rattle.std.proofs.lemmas.Bool.{cases_lt}
use Rattle.std.proofs.lemmas.Bool.Decides.{nat_tests}
use Rattle.std.proofs.lemmas.List.{take-append-drop, length-take-le, length-drop, get_or-drop}
use Rattle.std.proofs.lemmas.List.Edits.{length-insert, length-remove}
use Rattle.relations_spec.specs.Sets.{In, Ascends}
use Rattle.relations_spec.proofs.SetLaws.{in_right, before_in}
use Rattle.prima_base.specs.Order.{row_cmp}
use Rattle.prima_base.specs.OrderLaws.{row_exact}
use Rattle.prima_base.specs.declared.value.Value.{Value}
use Rattle.history_store_columns.specs.Log.{Write}
use Rattle.history_store_row_order.specs.Rows.{row_now, rows_of}
use Rattle.history_store_row_order.specs.Logs.{few_changed_rows}
use Rattle.history_store_row_order.specs.Indexes.{Index, Whole, Moved, IsPlaced, more_ids, without}
use Rattle.history_store_row_order.specs.Indexes.{with_each}
use Rattle.history_store_row_order.specs.Indexes.{place_without, AreAmong, AreAlong}
use Rattle.history_store_row_order.proofs.RowsOf.{rows_of_in, in_rows_of}
use Rattle.history_store_row_order.specs.Splices.{IsSplit, IsJoined}
use Rattle.history_store_row_order.proofs.SideBySide.{all_less}
use Rattle.history_store_row_order.proofs.Splicing.{IsTaken, IsPut, taken_first, taken_next}
use Rattle.history_store_row_order.proofs.Splicing.{taken_all, put_first}
use Rattle.history_store_row_order.proofs.Splicing.{put_next, put_all, parted, all_low, all_high}

-- ---- lists

remove_middle : (zs ys : List ℕ) (x n : ℕ) → n ≡ length zs → remove (zs ++ x ∷ ys) n ≡ zs ++ ys
remove_middle [] ys x zero e = refl
remove_middle [] ys x (suc n) e = absurd (omega (arith, e))
remove_middle (z ∷ zs) ys x zero e = absurd (omega (arith, e))
remove_middle (z ∷ zs) ys x (suc n) e = ap (λ l. z ∷ l) (remove_middle zs ys x n (omega (arith, e)))

insert_middle : (zs ys : List ℕ) (x n : ℕ) → n ≡ length zs → insert (zs ++ ys) n x ≡ zs ++ x ∷ ys
insert_middle [] ys x zero e = refl
insert_middle [] ys x (suc n) e = absurd (omega (arith, e))
insert_middle (z ∷ zs) ys x zero e = absurd (omega (arith, e))
insert_middle (z ∷ zs) ys x (suc n) e = ap (λ l. z ∷ l) (insert_middle zs ys x n (omega (arith, e)))

take_two : (xs : List ℕ) (b i : ℕ) → take (b + i) xs ≡ take b xs ++ take i (drop b xs)
take_two xs zero i = let e : 0 + i ≡ i = omega arith in ap (λ n. take n xs) e
take_two [] (suc b) i = let e : suc b + i ≡ suc (b + i) = omega arith in ap (λ n. take n []) e
    ∙ sym (none i)
  where
    none : (n : ℕ) → take {A = ℕ} n [] ≡ []
    none zero = refl
    none (suc n) = refl
take_two (x ∷ xs) (suc b) i = let e : suc b + i ≡ suc (b + i) = omega arith in
    ap (λ n. take n (x ∷ xs)) e ∙ ap (λ l. x ∷ l) (take_two xs b i)

drop_two : (xs : List ℕ) (b i : ℕ) → drop (b + i) xs ≡ drop i (drop b xs)
drop_two xs zero i = let e : 0 + i ≡ i = omega arith in ap (λ n. drop n xs) e
drop_two [] (suc b) i = let e : suc b + i ≡ suc (b + i) = omega arith in ap (λ n. drop n []) e
    ∙ sym (none i)
  where
    none : (n : ℕ) → drop {A = ℕ} n [] ≡ []
    none zero = refl
    none (suc n) = refl
drop_two (x ∷ xs) (suc b) i = let e : suc b + i ≡ suc (b + i) = omega arith in
    ap (λ n. drop n (x ∷ xs)) e ∙ drop_two xs b i

-- ---- ids that go

without-append : (from : List ℕ) (at : ℕ) (ids : List ℕ)
    → without (from ++ at ∷ []) ids ≡ remove (without from ids) at
without-append [] at ids = refl
without-append (a ∷ from) at ids = without-append from at (remove ids a)

among-append : (from : List ℕ) (at : ℕ) (ids : List ℕ) → AreAmong from ids
    → at < length (without from ids) → AreAmong (from ++ at ∷ []) ids
among-append [] at ids a h = (h, tt)
among-append (b ∷ from) at ids a h = (a.0, among-append from at (remove ids b) a.1 h)

-- the ids that are found and their places, and the rows that are left to be found
pub record ArePlaces (columns : List (List Write)) (live found from : List ℕ)
    (lost left : List (List Value)) : Type 0 where
  pub end : ℕ
  pub kept : List ℕ
  pub within : end ≤ length live
  pub taken : IsTaken columns live found kept (drop end live) lost left
  pub are : without from live ≡ kept ++ drop end live
  pub long : length kept + length from ≡ end
  pub placed : AreAmong from live
  pub low : (k : ℕ) → k < end → (y : List Value) → In y left
      → row_cmp (row_now (get_or live k 0) columns) y ≡ Less

pub places_first : (columns : List (List Write)) (live : List ℕ) (lost : List (List Value))
    → Ascends row_cmp (rows_of live columns) → Ascends row_cmp lost
    → ((y : List Value) → In y lost → In y (rows_of live columns))
    → ArePlaces columns live [] [] lost lost
places_first columns live lost a b t = record {
  end = 0;
  kept = [];
  within = omega arith;
  taken = taken_first columns live lost a b t;
  are = refl;
  long = refl;
  placed = tt;
  low = λ k h. absurd (omega arith);
}

module _ (columns : List (List Write)) (live found from : List ℕ) (lost left : List (List Value))
    (y : List Value) (at : ℕ) (rise : Ascends row_cmp (rows_of live columns))
    (p : ArePlaces columns live found from lost (y ∷ left)) (h : at < length live)
    (e : row_now (get_or live at 0) columns ≡ y) where
  pub ended : p.end ≤ at
  ended = elim (cases_lt at p.end) [
    | inl l ↦ absurd (row_exact.apart y (subst (λ r. row_cmp r y ≡ Less) e
        (p.low at l y (inl refl))))
    | inr l ↦ l
  ]

  pub not_below : length from ≤ at
  not_below = let b = ended in let l = p.long in omega (arith, b, l)

  step : (end : ℕ) (kept : List ℕ) → IsTaken columns live found kept (drop end live) lost (y ∷ left)
      → without from live ≡ kept ++ drop end live → length kept + length from ≡ end
      → AreAmong from live → end ≤ at
      → ArePlaces columns live (found ++ get_or live at 0 ∷ []) (from ++ (at - length from) ∷ [])
      lost left
  step end kept t are long placed b = record {
    end = at + 1;
    kept = kept ++ xs;
    within = omega (arith, h);
    taken = subst (λ zs. IsTaken columns live (found ++ x ∷ []) (kept ++ xs) zs lost left) ys_is
        (taken_next columns live found kept xs ys x lost left y
        (subst (λ zs. IsTaken columns live found kept zs lost (y ∷ left)) rest_is t) e);
    are = without-append from (at - length from) live
        ∙ ap (λ zs. remove zs (at - length from)) (whole ∙ sym (append_assoc kept xs (x ∷ ys)))
        ∙ remove_middle (kept ++ xs) ys x (at - length from) place_is
        ∙ ap (λ zs. (kept ++ xs) ++ zs) ys_is;
    long = (let f = kept_long in let g = length-append from ((at - length from) ∷ []) in
        omega (arith, f, g, long, b));
    placed = among-append from (at - length from) live placed
        (subst (λ zs. at - length from < length zs)
        (sym (whole ∙ sym (append_assoc kept xs (x ∷ ys))))
        (let f = length-append (kept ++ xs) (x ∷ ys) in let g = place_is in
        omega (arith, f, g)));
    low = λ k l z i. all_less columns live z at rise h
        (subst (λ r. row_cmp r z ≡ Less) (sym e) (before_in row_cmp y z left t.left_rise.0 i)) k l;
  }
    where
      rest : List ℕ
      rest = drop end live

      x : ℕ
      x = get_or live at 0

      xs : List ℕ
      xs = take (at - end) rest

      ys : List ℕ
      ys = drop (at - end + 1) rest

      inside : at - end < length rest
      inside = let n = length-drop end live in omega (arith, n, h, b)

      x_is : get_or rest (at - end) 0 ≡ x
      x_is = get_or-drop end live (at - end) 0
          ∙ ap (λ n. get_or live n 0) (let k : end + (at - end) ≡ at = omega (arith, b) in k)

      rest_is : drop end live ≡ xs ++ x ∷ ys
      rest_is = parted rest (at - end) inside ∙ ap (λ n. xs ++ n ∷ ys) x_is

      ys_is : ys ≡ drop (at + 1) live
      ys_is = sym (drop_two live end (at - end + 1))
          ∙ ap (λ n. drop n live) (let k : end + (at - end + 1) ≡ at + 1 = omega (arith, b) in k)

      whole : without from live ≡ kept ++ (xs ++ x ∷ ys)
      whole = are ∙ ap (λ zs. kept ++ zs) rest_is

      kept_long : length (kept ++ xs) ≡ length kept + (at - end)
      kept_long = length-append kept xs ∙ ap (λ n. length kept + n)
          (length-take-le (at - end) rest (let i = inside in omega (arith, i)))

      place_is : at - length from ≡ length (kept ++ xs)
      place_is = let f = kept_long in omega (arith, f, long, b)

  pub places_next : ArePlaces columns live (found ++ get_or live at 0 ∷ [])
      (from ++ (at - length from) ∷ []) lost left
  places_next = step p.end p.kept p.taken p.are p.long p.placed ended

pub places_all : (columns : List (List Write)) (live found from : List ℕ) (lost : List (List Value))
    → ArePlaces columns live found from lost []
    → IsSplit columns live found (without from live) lost
places_all columns live found from lost p = subst (λ zs. IsSplit columns live found zs lost)
    (sym p.are) (taken_all columns live found p.kept (drop p.end live) lost p.taken)

-- ---- where a place comes to

turn : ℕ → ℕ → ℕ
turn at q = if nat_lt at q then q - 1 else q

turn_past : (at q : ℕ) → at < q → turn at q ≡ q - 1
unfolding turn
turn_past at q h = let t : nat_lt at q ≡ true = grind (arith, nat_tests) in
    ap (λ b. if b then q - 1 else q) t

turn_not : (at q : ℕ) → q ≤ at → turn at q ≡ q
unfolding turn
turn_not at q h = let t : nat_lt at q ≡ false = grind (arith, nat_tests) in
    ap (λ b. if b then q - 1 else q) t

turn_rises : (at q r : ℕ) → q ≤ r → turn at q ≤ turn at r
turn_rises at q r h = elim (cases_lt at q) [
  | inl l ↦ (let e = turn_past at q l in let f = turn_past at r (omega (arith, l, h)) in
      omega (arith, e, f, h))
  | inr l ↦ (let e = turn_not at q l in elim (cases_lt at r) [
    | inl m ↦ (let f = turn_past at r m in omega (arith, e, f, l, m))
    | inr m ↦ (let f = turn_not at r m in omega (arith, e, f, h))
  ])
]

pub rises_without : (from : List ℕ) (q r : ℕ) → q ≤ r → place_without from q ≤ place_without from r
unfolding turn
rises_without [] q r h = h
rises_without (at ∷ from) q r h = rises_without from (turn at q) (turn at r) (turn_rises at q r h)

first_without : (from : List ℕ) → place_without from 0 ≡ 0
unfolding turn
first_without [] = refl
first_without (at ∷ from) = ap (place_without from) (turn_not at 0 (omega arith))
    ∙ first_without from

-- what stands before the place among the ids that are left stood before it, and what stands after
-- stood after
pub record ArePart (ids left : List ℕ) (q p : ℕ) : Type 0 where
  pub within : p ≤ length left
  pub before : (x : ℕ) → In x (take p left) → In x (take q ids)
  pub after : (x : ℕ) → In x (drop p left) → In x (drop q ids)

was_there : (ids : List ℕ) (at x : ℕ) → at < length ids → In x (remove ids at) → In x ids
was_there [] at x h i = absurd (omega arith)
was_there (y ∷ ids) zero x h i = inr i
was_there (y ∷ ids) (suc at) x h (inl e) = inl e
was_there (y ∷ ids) (suc at) x h (inr i) = inr (was_there ids at x (omega arith) i)

take_past : (ids : List ℕ) (at p x : ℕ) → at < length ids → at ≤ p → In x (take p (remove ids at))
    → In x (take (suc p) ids)
take_past [] at p x h l i = absurd (omega arith)
take_past (y ∷ ids) zero p x h l i = inr i
take_past (y ∷ ids) (suc at) zero x h l i = absurd (omega arith)
take_past (y ∷ ids) (suc at) (suc p) x h l (inl e) = inl e
take_past (y ∷ ids) (suc at) (suc p) x h l (inr i) =
    inr (take_past ids at p x (omega arith) (omega arith) i)

drop_past : (ids : List ℕ) (at p x : ℕ) → at < length ids → at ≤ p → In x (drop p (remove ids at))
    → In x (drop (suc p) ids)
drop_past [] at p x h l i = absurd (omega arith)
drop_past (y ∷ ids) zero p x h l i = i
drop_past (y ∷ ids) (suc at) zero x h l i = absurd (omega arith)
drop_past (y ∷ ids) (suc at) (suc p) x h l i = drop_past ids at p x (omega arith) (omega arith) i

take_not : (ids : List ℕ) (at q x : ℕ) → at < length ids → q ≤ at → In x (take q (remove ids at))
    → In x (take q ids)
take_not ids at zero x h l i = absurd i
take_not [] at (suc q) x h l i = absurd (omega arith)
take_not (y ∷ ids) zero (suc q) x h l i = absurd (omega arith)
take_not (y ∷ ids) (suc at) (suc q) x h l (inl e) = inl e
take_not (y ∷ ids) (suc at) (suc q) x h l (inr i) =
    inr (take_not ids at q x (omega arith) (omega arith) i)

drop_not : (ids : List ℕ) (at q x : ℕ) → at < length ids → q ≤ at → In x (drop q (remove ids at))
    → In x (drop q ids)
drop_not ids at zero x h l i = was_there ids at x h i
drop_not [] at (suc q) x h l i = absurd (omega arith)
drop_not (y ∷ ids) zero (suc q) x h l i = absurd (omega arith)
drop_not (y ∷ ids) (suc at) (suc q) x h l i = drop_not ids at q x (omega arith) (omega arith) i

one_part : (ids : List ℕ) (at q : ℕ) → at < length ids → q ≤ length ids
    → ArePart ids (remove ids at) q (turn at q)
one_part ids at zero h l = subst (ArePart ids (remove ids at) 0) (sym (turn_not at 0 (omega arith)))
    (record {
      within = omega arith;
      before = λ x i. absurd i;
      after = λ x i.
          was_there ids at x h i;
    })
one_part ids at (suc q) h l = elim (cases_lt at (suc q)) [
  | inl m ↦ subst (ArePart ids (remove ids at) (suc q))
      (sym (turn_past at (suc q) m ∙ (let k : suc q - 1 ≡ q = omega arith in k))) (record {
        within = (let n = length-remove ids at h in omega (arith, n, l));
        before = λ x i. take_past ids at q x h (omega (arith, m)) i;
        after = λ x i. drop_past ids at q x h (omega (arith, m)) i;
      })
  | inr m ↦ subst (ArePart ids (remove ids at) (suc q)) (sym (turn_not at (suc q) m)) (record {
    within = (let n = length-remove ids at h in omega (arith, n, h, m));
    before = λ x i. take_not ids at (suc q) x h m i;
    after = λ x i. drop_not ids at (suc q) x h m i;
  })
]

parts : (from ids : List ℕ) (q : ℕ) → q ≤ length ids → AreAmong from ids
    → ArePart ids (without from ids) q (place_without from q)
unfolding turn
parts [] ids q h a = record { within = h; before = λ x i. i; after = λ x i. i }
parts (at ∷ from) ids q h a =
    let o = one_part ids at q a.0 h in
    let r = parts from (remove ids at) (turn at q) o.within a.1 in
    record {
      within = r.within;
      before = λ x i. o.before x (r.before x i);
      after = λ x i.
          o.after x (r.after x i);
    }

-- what is left was there
pub left_there : (columns : List (List Write)) (from ids : List ℕ) (y : List Value)
    → AreAmong from ids → In y (rows_of (without from ids) columns) → In y (rows_of ids columns)
left_there columns [] ids y a i = i
left_there columns (at ∷ from) ids y a i =
    let r = in_rows_of y (remove ids at) columns
    (left_there columns from (remove ids at) y a.1 i) in
    subst (λ z. In z (rows_of ids columns)) r.2
    (rows_of_in r.0 ids columns (was_there ids at r.0 a.0 r.1))

-- what is kept by places is of few rows
pub few_placed : (index : Index) (ids : List ℕ) → IsPlaced index ids
    → more_ids index ≤ few_changed_rows
few_placed (Whole index) ids p = omega arith
few_placed (Moved from to) ids p = p.2

-- ---- ids that come

with-append : (to : List (ℕ × ℕ)) (p : ℕ × ℕ) (ids : List ℕ)
    → with_each (to ++ p ∷ []) ids ≡ with_each to (insert ids p.0 p.1)
with-append [] p ids = refl
with-append (a ∷ to) p ids = ap (λ zs. insert zs a.0 a.1) (with-append to p ids)

along-append : (to : List (ℕ × ℕ)) (p : ℕ × ℕ) (n : ℕ) → AreAlong to n → p.0 ≤ n
    → AreAlong (to ++ p ∷ []) n
along-append [] p n a h = (h, tt)
along-append (b ∷ to) p n a h = (a.0, along-append to p n a.1 h)

-- no place is after what stands there by then
pub no_less : (to : List (ℕ × ℕ)) (ids : List ℕ) → AreAlong to (length ids)
    → length ids ≤ length (with_each to ids)
no_less [] ids a = omega arith
no_less (p ∷ to) ids a =
    let n = no_less to ids a.1 in
    let l = a.0 in
    let m = length-insert (with_each to ids) p.0 p.1 (omega (arith, n, l)) in
    omega (arith, n, m)

-- the ids that have come with their places, those that are left to come, and their rows
pub record Come (columns : List (List Write)) (live from ids : List ℕ) (to : List (ℕ × ℕ))
    (coming : List ℕ) (gained left : List (List Value)) : Type 0 where
  pub end : ℕ
  pub after : List ℕ
  pub within : end ≤ length live
  pub put : IsPut columns (without from live) ids after
      (drop (place_without from end) (without from live)) coming gained left
  pub are : (rest : List ℕ) → with_each to (take (place_without from end) (without from live)
      ++ rest) ≡ after ++ rest
  pub along : AreAlong to (length (without from live))
  pub low : (k : ℕ) → k < end → (y : List Value) → In y left
      → row_cmp (row_now (get_or live k 0) columns) y ≡ Less

module _ (columns : List (List Write)) (live from ids : List ℕ) (gained : List (List Value)) where
  abbrev kept : List ℕ
  kept = without from live

  pub come_first : Ascends row_cmp (rows_of kept columns) → Ascends row_cmp gained
      → ((y : List Value) → In y gained → In y (rows_of kept columns) → ⊥)
      → Come columns live from ids [] ids gained gained
  come_first a b f = record {
    end = 0;
    after = [];
    within = omega arith;
    put = subst (λ n. IsPut columns kept ids [] (drop n kept) ids gained gained)
        (sym (first_without from)) (put_first columns kept ids gained a b f);
    are = λ rest. ap (λ n. take n kept ++ rest) (first_without from);
    along = tt;
    low = λ k h. absurd (omega arith);
  }

  module _ (to : List (ℕ × ℕ)) (coming : List ℕ) (h : ℕ) (left : List (List Value)) (y : List Value)
      (free : ℕ) (placed : AreAmong from live)
      (c : Come columns live from ids to (h ∷ coming) gained (y ∷ left))
      (w : free ≤ length live) (before : (k : ℕ) → k < free
      → row_cmp (row_now (get_or live k 0) columns) y ≡ Less) (above : (k : ℕ) → free ≤ k
      → k < length live → row_cmp (row_now (get_or live k 0) columns) y ≡ Greater) where
    not_before : c.end ≤ free
    not_before = elim (cases_lt free c.end) [
      | inl l ↦ absurd (let e = c.low free l y (inl refl) in let i = c.within in let g =
          above free (omega arith) (omega (arith, l, i)) in cc)
      | inr l ↦ l
    ]

    part : ArePart live kept free (place_without from free)
    part = parts from live free w placed

    come_step : (b : ℕ) (come : List ℕ) → IsPut columns kept ids come (drop b kept) (h ∷ coming)
        gained (y ∷ left) → ((rest : List ℕ) → with_each to (take b kept ++ rest) ≡ come ++ rest)
        → b ≤ place_without from free
        → Come columns live from ids (to ++ (place_without from free, h) ∷ []) coming gained left
    come_step b come put are l = record {
      end = free;
      after = (come ++ xs) ++ h ∷ [];
      within = w;
      put = subst (λ zs. IsPut columns kept ids ((come ++ xs) ++ h ∷ []) zs coming gained left)
          ys_is
          (put_next columns kept ids come xs ys coming h gained left y
          (subst (λ zs. IsPut columns kept ids come zs (h ∷ coming) gained (y ∷ left)) rest_is
          put)
          (λ q i. all_low columns live y free w before q
          (part.before q (subst (In q) (sym prefix_is) (in_right q (take b kept) xs i))))
          (λ q i. all_high columns live y free above q (part.after q (subst (In q) ys_is i))));
      are = λ rest.
          with-append to (p, h) (take p kept ++ rest)
          ∙ ap (with_each to) (insert_middle (take p kept) rest h p
          (sym (length-take-le p kept part.within)) ∙ ap (λ zs. zs ++ h ∷ rest) prefix_is
          ∙ append_assoc (take b kept) xs (h ∷ rest))
          ∙ are (xs ++ h ∷ rest) ∙ sym (append_assoc come xs (h ∷ rest))
          ∙ sym (append_assoc (come ++ xs) (h ∷ []) rest);
      along = along-append to (p, h) (length kept) c.along part.within;
      low = λ k i z j. row_exact.trans (row_now (get_or live k 0) columns) y z (before k i)
          (before_in row_cmp y z left put.left_rise.0 j);
    }
      where
        p : ℕ
        p = place_without from free

        xs : List ℕ
        xs = take (p - b) (drop b kept)

        ys : List ℕ
        ys = drop (p - b) (drop b kept)

        sum_is : b + (p - b) ≡ p
        sum_is = omega (arith, l)

        rest_is : drop b kept ≡ xs ++ ys
        rest_is = sym (take-append-drop (p - b) (drop b kept))

        prefix_is : take p kept ≡ take b kept ++ xs
        prefix_is = ap (λ n. take n kept) (sym sum_is) ∙ take_two kept b (p - b)

        ys_is : ys ≡ drop p kept
        ys_is = sym (drop_two kept b (p - b)) ∙ ap (λ n. drop n kept) sum_is

    pub come_next : Come columns live from ids (to ++ (place_without from free, h) ∷ []) coming
        gained left
    come_next = come_step (place_without from c.end) c.after c.put c.are
        (rises_without from c.end free not_before)

  pub come_all : (to : List (ℕ × ℕ)) → Come columns live from ids to [] gained []
      → IsJoined columns kept ids (with_each to kept) gained
  come_all to c =
      let e : with_each to kept ≡ c.after ++ drop (place_without from c.end) kept =
      ap (with_each to) (sym (take-append-drop (place_without from c.end) kept))
      ∙ c.are (drop (place_without from c.end) kept) in
      subst (λ zs. IsJoined columns kept ids zs gained) (sym e)
      (put_all columns kept ids c.after (drop (place_without from c.end) kept) gained c.put)

along_drop : (to : List (ℕ × ℕ)) (k n : ℕ) → AreAlong to n → AreAlong (drop k to) n
along_drop to zero n a = a
along_drop [] (suc k) n a = a
along_drop (p ∷ to) (suc k) n a = along_drop to k n a.1

along_at : (to : List (ℕ × ℕ)) (k n : ℕ) (d : ℕ × ℕ) → k < length to → AreAlong to n
    → (get_or to k d).0 ≤ n
along_at [] k n d h a = absurd (omega arith)
along_at (p ∷ to) zero n d h a = a.0
along_at (p ∷ to) (suc k) n d h a = along_at to k n d (omega arith) a.1

-- each place is there when its id comes
pub place_along : (to : List (ℕ × ℕ)) (ids : List ℕ) (k : ℕ) (p : ℕ × ℕ) → k < length to
    → p ≡ get_or to k p → AreAlong to (length ids) → p.0 ≤ length (with_each (drop (k + 1) to) ids)
place_along to ids k p h e a =
    let l : (get_or to k p).0 ≤ length ids = along_at to k (length ids) p h a in
    let m = no_less (drop (k + 1) to) ids (along_drop to (k + 1) (length ids) a) in
    let q : p.0 ≡ (get_or to k p).0 = ap (λ (x : ℕ × ℕ). x.0) e in
    omega (arith, l, m, q)
