-- Two ascending lists side by side.
use Rattle.std.proofs.Common.{◌≡◌, ℕ, suc, zero, ◌+◌, ◌<◌, ◌≤◌, false, List, [], ◌∷◌, ◌++◌, length}
use Rattle.std.proofs.Common.{get_or, drop, refl, sym, ap, ◌∙◌, subst, arith, inl, inr}
use Rattle.std.proofs.Common.{append_assoc}
use Rattle.std.specs.Prelude.{Option, Some, None}
use Rattle.std.specs.declared.cmp.Ordering.{Ordering}
use Rattle.std.specs.declared.cmp.Ordering.TheVariants.{Less, Equal, Greater}
use Rattle.std.specs.Ordering.{ordering_reverse}
use Rattle.prima_base.specs.OrderLaws.{row_total}
use Rattle.prima_base.specs.declared.value.Value.{Value}
use Rattle.history_store_columns.specs.Log.{Write}
use Rattle.prima_base.specs.Order.{row_cmp}
use Rattle.relations_spec.specs.Sets.{has, BeforeAll, Ascends}
use Rattle.history_store_row_order.specs.Rows.{row_now, rows_of, AllWidth}
use Rattle.history_store_row_order.specs.Handing.{lost_ids, first_order, found, owner, owners}
use Rattle.history_store_row_order.specs.Handing.{no_owners}
use Rattle.history_store_row_order.specs.Handing.{gained_by, gained_rows, given_ids, id_by, lost_by}
use Rattle.history_store_row_order.specs.Handing.{next_by}
use Rattle.history_store_row_order.specs.Handing.{after_ids}
use Rattle.std.proofs.lemmas.List.{drop_more}
use Rattle.std.proofs.lemmas.Bool.{cases_lt}
use Rattle.std.proofs.Math.ListN.{drop_of_length-le}
use Rattle.history_store_row_order.proofs.Sides.{exact_rows, before_more}
use Rattle.relations_spec.proofs.SetLaws.{before_in}
use Rattle.history_store_row_order.proofs.RowsOf.{rows_of_in}
use Rattle.history_store_value_order.proofs.Places.{in_get}

not_in : (q : List Value) (rows : List (List Value)) → BeforeAll row_cmp q rows
    → has row_cmp q rows ≡ false
not_in q [] b = refl
not_in q (r ∷ rows) b = let e : row_cmp q r ≡ Less = b.0 in rw e (not_in q rows b.1)

-- a row that is before all is no match
lost_skip : (columns : List (List Write)) (y : List Value) (ids : List ℕ) (rows : List (List Value))
    → BeforeAll row_cmp y (rows_of ids columns)
    → lost_ids columns ids (y ∷ rows) ≡ lost_ids columns ids rows
lost_skip columns y [] rows b = refl
lost_skip columns y (id ∷ ids) rows b =
    let e : row_cmp (row_now id columns) y ≡ Greater = row_total.antisymm (row_now id columns) y
    ∙ ap ordering_reverse b.0 in
    let f = lost_skip columns y ids rows b.1 in
    rw (e, f) refl

pub walk_less : (columns : List (List Write)) (id : ℕ) (ids : List ℕ) (rows : List (List Value))
    → Ascends row_cmp rows → first_order (row_now id columns) rows ≡ Less
    → lost_ids columns (id ∷ ids) rows ≡ id ∷ lost_ids columns ids rows
walk_less columns id ids [] r e = refl
walk_less columns id ids (y ∷ rows) r e =
    let n : has row_cmp (row_now id columns) (y ∷ rows) ≡ false =
    not_in (row_now id columns) (y ∷ rows)
    (e, before_more row_cmp row_total exact_rows (row_now id columns) y rows e r.0) in
    rw n refl

pub walk_equal : (columns : List (List Write)) (id : ℕ) (ids : List ℕ) (rows : List (List Value))
    → Ascends row_cmp (rows_of (id ∷ ids) columns) → first_order (row_now id columns) rows ≡ Equal
    → lost_ids columns (id ∷ ids) rows ≡ lost_ids columns ids (drop 1 rows)
walk_equal columns id ids [] r e = cc
walk_equal columns id ids (y ∷ rows) r e =
    let b : BeforeAll row_cmp y (rows_of ids columns) =
    subst (λ q. BeforeAll row_cmp q (rows_of ids columns)) (exact_rows (row_now id columns) y e)
    r.0 in
    rw e (lost_skip columns y ids rows b)

pub walk_greater : (columns : List (List Write)) (id : ℕ) (ids : List ℕ) (rows : List (List Value))
    → Ascends row_cmp (rows_of (id ∷ ids) columns) → first_order (row_now id columns) rows ≡ Greater
    → lost_ids columns (id ∷ ids) rows ≡ lost_ids columns (id ∷ ids) (drop 1 rows)
walk_greater columns id ids [] r e = cc
walk_greater columns id ids (y ∷ rows) r e =
    let l : row_cmp y (row_now id columns) ≡ Less = row_total.antisymm y (row_now id columns)
    ∙ ap ordering_reverse e in
    lost_skip columns y (id ∷ ids) rows (
      l,
      before_more row_cmp row_total exact_rows y
          (row_now id columns) (rows_of ids columns) l r.0,
    )

-- the same at places of the lists
module _ (columns : List (List Write)) (live : List ℕ) (rows : List (List Value))
    (full lost : List ℕ) (i j : ℕ) (h : i < length live)
    (live_rise : Ascends row_cmp (rows_of (drop i live) columns))
    (rows_rise : Ascends row_cmp (drop j rows))
    (found : full ≡ lost ++ lost_ids columns (drop i live) (drop j rows)) where
  live_is : drop i live ≡ get_or live i 0 ∷ drop (i + 1) live
  live_is = drop_more live i 0 h

  rises_here : Ascends row_cmp (rows_of (get_or live i 0 ∷ drop (i + 1) live) columns)
  rises_here = subst (λ ids. Ascends row_cmp (rows_of ids columns)) live_is live_rise

  pub live_rises : Ascends row_cmp (rows_of (drop (i + 1) live) columns)
  live_rises = rises_here.1

  pub rows_rises : j < length rows → Ascends row_cmp (drop (j + 1) rows)
  rows_rises b = let r : Ascends row_cmp (get_or rows j [] ∷ drop (j + 1) rows) =
      subst (Ascends row_cmp) (drop_more rows j [] b) rows_rise in r.1

  pub step_less : first_order (row_now (get_or live i 0) columns) (drop j rows) ≡ Less
      → full ≡ (lost ++ get_or live i 0 ∷ []) ++ lost_ids columns (drop (i + 1) live) (drop j rows)
  step_less e =
      found
      ∙ ap (λ ids. lost ++ lost_ids columns ids (drop j rows)) live_is
      ∙ ap (λ ids. lost ++ ids) (walk_less columns (get_or live i 0) (drop (i + 1) live)
      (drop j rows) rows_rise e)
      ∙ sym (append_assoc lost (get_or live i 0 ∷ [])
      (lost_ids columns (drop (i + 1) live) (drop j rows)))

  rest_is : j < length rows → drop 1 (drop j rows) ≡ drop (j + 1) rows
  rest_is b = ap (drop 1) (drop_more rows j [] b)

  pub step_equal : j < length rows → first_order (row_now (get_or live i 0) columns) (drop j rows)
      ≡ Equal
      → full ≡ lost ++ lost_ids columns (drop (i + 1) live) (drop (j + 1) rows)
  step_equal b e =
      found
      ∙ ap (λ ids. lost ++ lost_ids columns ids (drop j rows)) live_is
      ∙ ap (λ ids. lost ++ ids) (walk_equal columns (get_or live i 0) (drop (i + 1) live)
      (drop j rows) rises_here e)
      ∙ ap (λ rs. lost ++ lost_ids columns (drop (i + 1) live) rs) (rest_is b)

  pub step_greater : j < length rows → first_order (row_now (get_or live i 0) columns) (drop j rows)
      ≡ Greater
      → full ≡ lost ++ lost_ids columns (drop i live) (drop (j + 1) rows)
  step_greater b e =
      found
      ∙ ap (λ ids. lost ++ lost_ids columns ids (drop j rows)) live_is
      ∙ ap (λ ids. lost ++ ids) (walk_greater columns (get_or live i 0) (drop (i + 1) live)
      (drop j rows) rises_here e)
      ∙ ap (λ ids. lost ++ lost_ids columns ids (drop 1 (drop j rows))) (sym live_is)
      ∙ ap (λ rs. lost ++ lost_ids columns (drop i live) rs) (rest_is b)

pub wide_rest : (width j : ℕ) (rows : List (List Value)) → j < length rows
    → AllWidth width (drop j rows) → AllWidth width (drop (j + 1) rows)
wide_rest width j rows b a = let r : AllWidth width (get_or rows j [] ∷ drop (j + 1) rows) =
    subst (AllWidth width) (drop_more rows j [] b) a in r.1

pub not_at_end : (q : List Value) (rows : List (List Value)) (j : ℕ) (o : Ordering)
    → first_order q (drop j rows) ≡ o → (Less ≡ o → ⊥) → j < length rows
not_at_end q rows j o e n = elim (cases_lt j (length rows)) [
  | inl l ↦ l
  | inr l ↦ absurd (n (ap (first_order q) (sym (drop_of_length-le rows l)) ∙ e))
]

-- the ids and the gained rows, side by side
found_skip : (columns : List (List Write)) (id : ℕ) (ids : List ℕ) (row : List Value)
    → row_cmp (row_now id columns) row ≡ Less → found columns row (id ∷ ids) ≡ found columns row ids
found_skip columns id ids row e = rw e refl

found_none : (columns : List (List Write)) (row : List Value) (ids : List ℕ)
    → BeforeAll row_cmp row (rows_of ids columns) → found columns row ids ≡ []
found_none columns row [] b = refl
found_none columns row (id ∷ ids) b =
    let e : row_cmp (row_now id columns) row ≡ Greater = row_total.antisymm (row_now id columns) row
    ∙ ap ordering_reverse b.0 in
    let f = found_none columns row ids b.1 in
    rw e f

gained_skip : (columns : List (List Write)) (id : ℕ) (ids : List ℕ) (rows : List (List Value))
    → BeforeAll row_cmp (row_now id columns) rows
    → gained_rows columns (id ∷ ids) rows ≡ gained_rows columns ids rows
gained_skip columns id ids [] b = refl
gained_skip columns id ids (row ∷ rows) b =
    let e = found_skip columns id ids row b.0 in
    let f = gained_skip columns id ids rows b.1 in
    ap (λ fs. gained_by fs row (gained_rows columns (id ∷ ids) rows)) e
    ∙ ap (gained_by (found columns row ids) row) f

owners_skip : (columns : List (List Write)) (id : ℕ) (ids : List ℕ) (rows : List (List Value))
    → BeforeAll row_cmp (row_now id columns) rows
    → owners columns (id ∷ ids) rows ≡ owners columns ids rows
owners_skip columns id ids [] b = refl
owners_skip columns id ids (row ∷ rows) b = let e = found_skip columns id ids row b.0 in
    ap (λ fs. owner fs ∷ owners columns (id ∷ ids) rows) e
    ∙ ap (λ os. owner (found columns row ids) ∷ os) (owners_skip columns id ids rows b.1)

-- what the rows gain, and whose they are
abbrev pub Differ : List (List Write) → List ℕ → List (List Value) → List (List Value)
    → List (Option ℕ) → Type 0
Differ columns ids rows gained owned = (gained_rows columns ids rows ≡ gained)
    × (owners columns ids rows ≡ owned)

-- the first id's row is before the rows, is the first of them, or is after it
skips : (columns : List (List Write)) (id : ℕ) (ids : List ℕ) (rows : List (List Value))
    → Ascends row_cmp rows → first_order (row_now id columns) rows ≡ Less
    → Differ columns (id ∷ ids) rows (gained_rows columns ids rows) (owners columns ids rows)
skips columns id ids [] r e = (refl, refl)
skips columns id ids (row ∷ rows) r e =
    let b : BeforeAll row_cmp (row_now id columns) (row ∷ rows) =
    (e, before_more row_cmp row_total exact_rows (row_now id columns) row rows e r.0) in
    (gained_skip columns id ids (row ∷ rows) b, owners_skip columns id ids (row ∷ rows) b)

module _ (columns : List (List Write)) (id : ℕ) (ids : List ℕ) (row : List Value)
    (rows : List (List Value)) where
  matches : Ascends row_cmp (row ∷ rows) → row_cmp (row_now id columns) row ≡ Equal
      → Differ columns (id ∷ ids) (row ∷ rows) (gained_rows columns ids rows)
      (Some id ∷ owners columns ids rows)
  matches r e =
      let b : BeforeAll row_cmp (row_now id columns) rows =
      subst (λ q. BeforeAll row_cmp q rows) (sym (exact_rows (row_now id columns) row e)) r.0 in (
        rw e (gained_skip columns id ids rows b),
        rw e (ap (λ os. Some id ∷ os) (owners_skip columns id ids rows b)),
      )

  is_new : Ascends row_cmp (rows_of (id ∷ ids) columns) → row_cmp (row_now id columns) row ≡ Greater
      → Differ columns (id ∷ ids) (row ∷ rows) (row ∷ gained_rows columns (id ∷ ids) rows)
      (None ∷ owners columns (id ∷ ids) rows)
  is_new s e =
      let l : row_cmp row (row_now id columns) ≡ Less = row_total.antisymm row (row_now id columns)
      ∙ ap ordering_reverse e in
      let f = found_none columns row (id ∷ ids) (
        l,
        before_more row_cmp row_total exact_rows row (row_now id columns)
            (rows_of ids columns) l s.0,
      ) in
      (rw f refl, rw f refl)

-- the same where the rest of the lists is known by equations
module _ (columns : List (List Write)) (ids0 : List ℕ) (rows0 : List (List Value)) (id : ℕ)
    (ids : List ℕ) (ei : ids0 ≡ id ∷ ids) where
  pub less_steps : Ascends row_cmp rows0 → first_order (row_now id columns) rows0 ≡ Less
      → Differ columns ids0 rows0 (gained_rows columns ids rows0) (owners columns ids rows0)
  less_steps r e = rw ei (skips columns id ids rows0 r e)

  pub equal_steps : (row : List Value) (rows : List (List Value)) → rows0 ≡ row ∷ rows
      → Ascends row_cmp rows0 → first_order (row_now id columns) rows0 ≡ Equal
      → Differ columns ids0 rows0 (gained_rows columns ids rows) (Some id ∷ owners columns ids rows)
  equal_steps row rows er r e = rw (ei, er) (matches columns id ids row rows
      (subst (Ascends row_cmp) er r) (subst (λ rs. first_order (row_now id columns) rs ≡ Equal) er
      e))

  pub new_steps : (row : List Value) (rows : List (List Value)) → rows0 ≡ row ∷ rows
      → Ascends row_cmp (rows_of ids0 columns) → first_order (row_now id columns) rows0 ≡ Greater
      → Differ columns ids0 rows0 (row ∷ gained_rows columns ids0 rows)
      (None ∷ owners columns ids0 rows)
  new_steps row rows er s e = rw (ei, er) (is_new columns id ids row rows
      (subst (λ is. Ascends row_cmp (rows_of is columns)) ei s)
      (subst (λ rs. first_order (row_now id columns) rs ≡ Greater) er e))

-- no id is left
pub none_left : (columns : List (List Write)) (rows : List (List Value))
    → Differ columns [] rows rows (no_owners rows)
none_left columns [] = (refl, refl)
none_left columns (row ∷ rows) = let r = none_left columns rows in
    (ap (λ rs. row ∷ rs) r.0, ap (λ os. None ∷ os) r.1)

pub no_owners-more : (rows : List (List Value)) (row : List Value)
    → no_owners (rows ++ row ∷ []) ≡ no_owners rows ++ None ∷ []
no_owners-more [] row = refl
no_owners-more (r ∷ rows) row = ap (λ os. None ∷ os) (no_owners-more rows row)

pub length-owners : (columns : List (List Write)) (live : List ℕ) (rows : List (List Value))
    → length (owners columns live rows) ≡ length rows
length-owners columns live [] = refl
length-owners columns live (row ∷ rows) = ap suc (length-owners columns live rows)

-- the ids that are given by the rows' owners
pub given_after : (columns : List (List Write)) (live lost : List ℕ) (next : ℕ)
    (rows : List (List Value)) → given_ids (owners columns live rows) lost next
    ≡ after_ids columns live lost next rows
given_after columns live lost next [] = refl
given_after columns live lost next (row ∷ rows) =
    by_case (found columns row live) (λ ls n. given_after columns live ls n rows)
  where
    by_case : (f : List ℕ) → ((ls : List ℕ) (n : ℕ)
        → given_ids (owners columns live rows) ls n ≡ after_ids columns live ls n rows)
        → given_ids (owner f ∷ owners columns live rows) lost next ≡ id_by f lost next
        ∷ after_ids columns live (lost_by f lost) (next_by f lost next) rows
    by_case [] again = ap (λ ns. id_by [] lost next ∷ ns)
        (again (lost_by [] lost) (next_by [] lost next))
    by_case (id ∷ ids) again = ap (λ ns. id ∷ ns) (again lost next)

pub appended : {A : Type 0} (full xs : List A) (x : A) (a b : List A) → full ≡ xs ++ a → a ≡ x ∷ b
    → full ≡ (xs ++ x ∷ []) ++ b
appended full xs x a b e f = e ∙ ap (λ r. xs ++ r) f ∙ sym (append_assoc xs (x ∷ []) b)

pub taken : {A : Type 0} (xs : List A) (j : ℕ) (x : A) → j < length xs → x ≡ get_or xs j x
    → drop j xs ≡ x ∷ drop (j + 1) xs
taken xs j x h e = drop_more xs j x h ∙ ap (λ y. y ∷ drop (j + 1) xs) (sym e)

-- ids of an ascending list by place
pub rises_at : (columns : List (List Write)) (ids : List ℕ) (i j : ℕ)
    → Ascends row_cmp (rows_of ids columns) → i < j → j < length ids
    → row_cmp (row_now (get_or ids i 0) columns) (row_now (get_or ids j 0) columns) ≡ Less
rises_at columns [] i j r a b = absurd (omega arith)
rises_at columns (id ∷ ids) zero zero r a b = absurd (omega arith)
rises_at columns (id ∷ ids) zero (suc j) r a b =
    before_in row_cmp (row_now id columns) (row_now (get_or ids j 0) columns) (rows_of ids columns)
    r.0 (rows_of_in (get_or ids j 0) ids columns (in_get ids j 0 (omega arith)))
rises_at columns (id ∷ ids) (suc i) zero r a b = absurd (omega arith)
rises_at columns (id ∷ ids) (suc i) (suc j) r a b =
    rises_at columns ids i j r.1 (omega arith) (omega arith)

pub all_less : (columns : List (List Write)) (ids : List ℕ) (row : List Value) (m : ℕ)
    → Ascends row_cmp (rows_of ids columns) → m < length ids
    → row_cmp (row_now (get_or ids m 0) columns) row ≡ Less
    → (k : ℕ) → k < m + 1 → row_cmp (row_now (get_or ids k 0) columns) row ≡ Less
all_less columns ids row m r h e k b =
    elim (cases_lt k m) [
      | inl l ↦ row_total.trans (row_now (get_or ids k 0) columns)
          (row_now (get_or ids m 0) columns) row (rises_at columns ids k m r l h) e
      | inr l ↦ let q : m ≡ k = omega arith in
          subst (λ n. row_cmp (row_now (get_or ids n 0) columns) row ≡ Less) q e
    ]

pub all_greater : (columns : List (List Write)) (ids : List ℕ) (row : List Value) (m : ℕ)
    → Ascends row_cmp (rows_of ids columns) → row_cmp (row_now (get_or ids m 0) columns) row
    ≡ Greater
    → (k : ℕ) → m ≤ k → k < length ids → row_cmp (row_now (get_or ids k 0) columns) row ≡ Greater
all_greater columns ids row m r e k b h =
    elim (cases_lt m k) [
      | inl l ↦
          let f : row_cmp row (row_now (get_or ids m 0) columns) ≡ Less =
          row_total.antisymm row (row_now (get_or ids m 0) columns) ∙ ap ordering_reverse e in
          row_total.antisymm (row_now (get_or ids k 0) columns) row
          ∙ ap ordering_reverse (row_total.trans row (row_now (get_or ids m 0) columns)
          (row_now (get_or ids k 0) columns) f (rises_at columns ids m k r l h))
      | inr l ↦ let q : m ≡ k = omega arith in
          subst (λ n. row_cmp (row_now (get_or ids n 0) columns) row ≡ Greater) q e
    ]
