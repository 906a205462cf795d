-- Ids taken out of an index, and put into one, one by one.
use Rattle.std.proofs.Common.{◌≡◌, ◌⊎◌, ℕ, suc, zero, ◌+◌, ◌<◌, ◌≤◌, List, [], ◌∷◌, ◌++◌, length}
use Rattle.std.proofs.Common.{get_or, take, drop, refl, sym, ap, ◌∙◌, subst, arith, inl, inr}
use Rattle.std.proofs.Common.{append_assoc, append-nil}
use Rattle.std.specs.declared.cmp.Ordering.TheVariants.{Less, Equal, Greater}
use Rattle.std.proofs.lemmas.Bool.{cases_lt}
use Rattle.relations_spec.specs.Sets.{In, Ascends}
use Rattle.relations_spec.proofs.SetLaws.{in_append, in_left, in_right, below_each, before_in}
use Rattle.prima_base.specs.Order.{row_cmp}
use Rattle.prima_base.specs.OrderLaws.{row_total, row_exact}
use Rattle.prima_base.specs.declared.value.Value.{Value}
use Rattle.history_store_columns.specs.Log.{Write}
use Rattle.history_store_row_order.specs.Rows.{row_now, rows_of}
use Rattle.history_store_row_order.specs.Handing.{handed, id_by, lost_by, next_by}
use Rattle.history_store_row_order.specs.Splices.{IsSplit, IsJoined}
use Rattle.history_store_row_order.proofs.RowsOf.{rows_of_in, in_rows_of}
use Rattle.history_store_value_order.proofs.Places.{in_get}
use Rattle.std.proofs.lemmas.Cmp.{tied_itself}
use Rattle.std.proofs.lemmas.List.{drop_more, take-append-drop}

pub rows_append : (xs ys : List ℕ) (columns : List (List Write))
    → rows_of (xs ++ ys) columns ≡ rows_of xs columns ++ rows_of ys columns
rows_append [] ys columns = refl
rows_append (x ∷ xs) ys columns = ap (λ rs. row_now x columns ∷ rs) (rows_append xs ys columns)

-- the one before the other
rise_over : (columns : List (List Write)) (xs ys : List ℕ) (p q : ℕ)
    → Ascends row_cmp (rows_of (xs ++ ys) columns) → In p xs → In q ys
    → row_cmp (row_now p columns) (row_now q columns) ≡ Less
rise_over columns [] ys p q a i j = absurd i
rise_over columns (x ∷ xs) ys p q a (inl e) j =
    subst (λ n. row_cmp (row_now n columns) (row_now q columns) ≡ Less) e
    (before_in row_cmp (row_now x columns) (row_now q columns) (rows_of (xs ++ ys) columns) a.0
    (rows_of_in q (xs ++ ys) columns (in_right q xs ys j)))
rise_over columns (x ∷ xs) ys p q a (inr i) j = rise_over columns xs ys p q a.1 i j

pub rise_back : (columns : List (List Write)) (xs ys : List ℕ)
    → Ascends row_cmp (rows_of (xs ++ ys) columns) → Ascends row_cmp (rows_of ys columns)
rise_back columns [] ys a = a
rise_back columns (x ∷ xs) ys a = rise_back columns xs ys a.1

pub rises_between : (columns : List (List Write)) (xs ys : List ℕ) (h : ℕ)
    → Ascends row_cmp (rows_of (xs ++ ys) columns)
    → ((q : ℕ) → In q xs → row_cmp (row_now q columns) (row_now h columns) ≡ Less)
    → ((q : ℕ) → In q ys → row_cmp (row_now h columns) (row_now q columns) ≡ Less)
    → Ascends row_cmp (rows_of (xs ++ h ∷ ys) columns)
rises_between columns [] ys h a f g = (
  below_each row_cmp (row_now h columns) (rows_of ys columns)
      (λ y i. (let r = in_rows_of y ys columns i in
      subst (λ z. row_cmp (row_now h columns) z ≡ Less) r.2 (g r.0 r.1))),
  a,
)
rises_between columns (x ∷ xs) ys h a f g = (
  below_each row_cmp (row_now x columns) (rows_of (xs ++ h ∷ ys) columns) (λ y i. (
      let r = in_rows_of y (xs ++ h ∷ ys) columns i in
      subst (λ z. row_cmp (row_now x columns) z ≡ Less) r.2
      (by r.0 (in_append r.0 xs (h ∷ ys) r.1)))),
  rises_between columns xs ys h a.1 (λ q i. f q (inr i)) g,
)
  where
    by : (q : ℕ) → In q xs ⊎ In q (h ∷ ys) → row_cmp (row_now x columns) (row_now q columns) ≡ Less
    by q (inl i) = before_in row_cmp (row_now x columns) (row_now q columns)
        (rows_of (xs ++ ys) columns) a.0 (rows_of_in q (xs ++ ys) columns (in_left q xs ys i))
    by q (inr (inl e)) = subst (λ n. row_cmp (row_now x columns) (row_now n columns) ≡ Less) e
        (f x (inl refl))
    by q (inr (inr i)) = before_in row_cmp (row_now x columns) (row_now q columns)
        (rows_of (xs ++ ys) columns) a.0 (rows_of_in q (xs ++ ys) columns (in_right q xs ys i))

rises_without : (columns : List (List Write)) (xs ys : List ℕ) (x : ℕ)
    → Ascends row_cmp (rows_of (xs ++ x ∷ ys) columns)
    → Ascends row_cmp (rows_of (xs ++ ys) columns)
rises_without columns [] ys x a = a.1
rises_without columns (w ∷ xs) ys x a = (
  below_each row_cmp (row_now w columns) (rows_of (xs ++ ys) columns) (λ y i. (
      let r = in_rows_of y (xs ++ ys) columns i in
      before_in row_cmp (row_now w columns) y (rows_of (xs ++ x ∷ ys) columns) a.0
      (subst (λ z. In z (rows_of (xs ++ x ∷ ys) columns)) r.2
      (rows_of_in r.0 (xs ++ x ∷ ys) columns (wider r.0 (in_append r.0 xs ys r.1)))))),
  rises_without columns xs ys x a.1,
)
  where
    wider : (q : ℕ) → In q xs ⊎ In q ys → In q (xs ++ x ∷ ys)
    wider q (inl i) = in_left q xs (x ∷ ys) i
    wider q (inr i) = in_right q xs (x ∷ ys) (inr i)

-- an id stands once
once : (columns : List (List Write)) (xs ys : List ℕ) (x : ℕ)
    → Ascends row_cmp (rows_of (xs ++ x ∷ ys) columns) → In x (xs ++ ys) → ⊥
once columns xs ys x a i = by (in_append x xs ys i)
  where
    by : In x xs ⊎ In x ys → ⊥
    by (inl j) = row_exact.apart (row_now x columns)
        (rise_over columns xs (x ∷ ys) x x a j (inl refl))
    by (inr j) = let b = rise_back columns xs (x ∷ ys) a in
        row_exact.apart (row_now x columns) (before_in row_cmp (row_now x columns)
        (row_now x columns) (rows_of ys columns) b.0 (rows_of_in x ys columns j))

-- by place
place_in : (xs : List ℕ) (x : ℕ) → In x xs → (k : ℕ) × (k < length xs) × (get_or xs k 0 ≡ x)
place_in [] x i = absurd i
place_in (y ∷ xs) x (inl e) = (0, omega arith, e)
place_in (y ∷ xs) x (inr i) = let r = place_in xs x i in
    (suc r.0, (let h = r.1 in omega (arith, h)), r.2)

pub no_place : (columns : List (List Write)) (ids : List ℕ) (row : List Value) (at : ℕ)
    → In row (rows_of ids columns) → ((k : ℕ) → k < at
    → row_cmp (row_now (get_or ids k 0) columns) row ≡ Less)
    → ((k : ℕ) → at ≤ k → k < length ids → row_cmp (row_now (get_or ids k 0) columns) row ≡ Greater)
    → ⊥
no_place columns ids row at i f g =
    let r = in_rows_of row ids columns i in
    let p = place_in ids r.0 r.1 in
    let e : row_cmp (row_now (get_or ids p.0 0) columns) row ≡ Equal =
    ap (λ n. row_cmp (row_now n columns) row) p.2 ∙ ap (λ x. row_cmp x row) r.2
    ∙ tied_itself row_total row in
    elim (cases_lt p.0 at) [ inl q ↦ (let c = f p.0 q in cc) | inr q ↦ (let c = g p.0 q p.1 in cc) ]

pub has_place : (columns : List (List Write)) (ids : List ℕ) (row : List Value) (at : ℕ)
    → at < length ids → row_cmp (row_now (get_or ids at 0) columns) row ≡ Equal
    → In row (rows_of ids columns)
has_place columns ids row at h e = subst (λ r. In r (rows_of ids columns))
    (row_exact.same (row_now (get_or ids at 0) columns) row e)
    (rows_of_in (get_or ids at 0) ids columns (in_get ids at 0 h))

pub parted : (ids : List ℕ) (at : ℕ) → at < length ids
    → ids ≡ take at ids ++ get_or ids at 0 ∷ drop (at + 1) ids
parted ids at h = sym (take-append-drop at ids) ∙ ap (λ r. take at ids ++ r) (drop_more ids at 0 h)

pub in_taken : (xs : List ℕ) (n q : ℕ) → n ≤ length xs → In q (take n xs) → (k : ℕ) × (k < n)
    × (get_or xs k 0 ≡ q)
in_taken xs zero q h i = absurd i
in_taken [] (suc n) q h i = absurd i
in_taken (x ∷ xs) (suc n) q h (inl e) = (0, omega arith, e)
in_taken (x ∷ xs) (suc n) q h (inr i) = let r = in_taken xs n q (omega (arith, h)) i in
    (suc r.0, (let b = r.1 in omega (arith, b)), r.2)

in_dropped : (xs : List ℕ) (n q : ℕ) → In q (drop n xs) → (k : ℕ) × (n ≤ k) × (k < length xs)
    × (get_or xs k 0 ≡ q)
in_dropped xs zero q i = let r = place_in xs q i in (r.0, omega arith, r.1, r.2)
in_dropped [] (suc n) q i = absurd i
in_dropped (x ∷ xs) (suc n) q i = let r = in_dropped xs n q i in
    (suc r.0, (let b = r.1 in omega (arith, b)), (let b = r.2 in omega (arith, b)), r.3)

pub all_low : (columns : List (List Write)) (ids : List ℕ) (row : List Value) (at : ℕ)
    → at ≤ length ids → ((k : ℕ) → k < at → row_cmp (row_now (get_or ids k 0) columns) row ≡ Less)
    → (q : ℕ) → In q (take at ids) → row_cmp (row_now q columns) row ≡ Less
all_low columns ids row at h f q i = let r = in_taken ids at q h i in
    subst (λ n. row_cmp (row_now n columns) row ≡ Less) r.2 (f r.0 r.1)

pub all_high : (columns : List (List Write)) (ids : List ℕ) (row : List Value) (at : ℕ)
    → ((k : ℕ) → at ≤ k → k < length ids → row_cmp (row_now (get_or ids k 0) columns) row ≡ Greater)
    → (q : ℕ) → In q (drop at ids) → row_cmp row (row_now q columns) ≡ Less
all_high columns ids row at f q i = let r = in_dropped ids at q i in
    row_exact.turn (row_now q columns) row (subst (λ n. row_cmp (row_now n columns) row ≡ Greater)
    r.3 (f r.0 r.1 r.2))

-- rows that are taken out one by one
pub record IsTaken (columns : List (List Write)) (live found kept rest : List ℕ)
    (lost left : List (List Value)) : Type 0 where
  pub rows : rows_of found columns ++ left ≡ lost
  pub rises : Ascends row_cmp (rows_of (kept ++ rest) columns)
  pub there : (y : List Value) → In y left → In y (rows_of rest columns)
  pub left_rise : Ascends row_cmp left
  pub both : (q : ℕ) → In q live → In q found ⊎ In q (kept ++ rest)
  pub found_in : (q : ℕ) → In q found → In q live
  pub kept_in : (q : ℕ) → In q (kept ++ rest) → In q live
  pub apart : (q : ℕ) → In q found → In q (kept ++ rest) → ⊥

pub taken_first : (columns : List (List Write)) (live : List ℕ) (lost : List (List Value))
    → Ascends row_cmp (rows_of live columns) → Ascends row_cmp lost
    → ((y : List Value) → In y lost → In y (rows_of live columns))
    → IsTaken columns live [] [] live lost lost
taken_first columns live lost a b t = record {
  rows = refl;
  rises = a;
  there = t;
  left_rise = b;
  both = λ q i. inr i;
  found_in = λ q i. absurd i;
  kept_in = λ q i. i;
  apart = λ q i j. i;
}

not_before : (x y : List Value) → row_cmp x y ≡ Less → row_cmp y x ≡ Less → ⊥
not_before x y p q = row_exact.apart x (row_exact.trans x y x p q)

pub taken_next : (columns : List (List Write)) (live found kept xs ys : List ℕ) (x : ℕ)
    (lost left : List (List Value)) (y : List Value)
    → IsTaken columns live found kept (xs ++ x ∷ ys) lost (y ∷ left) → row_now x columns ≡ y
    → IsTaken columns live (found ++ x ∷ []) (kept ++ xs) ys lost left
taken_next columns live found kept xs ys x lost left y t e = record {
  rows = ap (λ rs. rs ++ left) (rows_append found (x ∷ []) columns)
      ∙ append_assoc (rows_of found columns) (row_now x columns ∷ []) left
      ∙ ap (λ r. rows_of found columns ++ r ∷ left) e ∙ t.rows;
  rises = rises_without columns (kept ++ xs) ys x whole;
  there = λ z i. there z i (in_rows_of z (xs ++ x ∷ ys) columns (t.there z (inr i)));
  left_rise = t.left_rise.1;
  both = λ q i. both q (t.both q i);
  found_in = λ q i. elim (in_append q found (x ∷ []) i) [
    | inl j ↦ t.found_in q j
    | inr (inl j) ↦ subst (λ n. In n live) j
        (t.kept_in x (in_right x kept (xs ++ x ∷ ys) (in_right x xs (x ∷ ys) (inl refl))))
    | inr (inr j) ↦ absurd j
  ];
  kept_in = λ q i. t.kept_in q (wider q i);
  apart = λ q i j. elim (in_append q found (x ∷ []) i) [
    | inl k ↦ t.apart q k (wider q j)
    | inr (inl k) ↦ once columns (kept ++ xs) ys x whole
        (subst (λ n. In n ((kept ++ xs) ++ ys)) (sym k) j)
    | inr (inr k) ↦ k
  ];
}
  where
    same : (kept ++ xs) ++ x ∷ ys ≡ kept ++ (xs ++ x ∷ ys)
    same = append_assoc kept xs (x ∷ ys)

    whole : Ascends row_cmp (rows_of ((kept ++ xs) ++ x ∷ ys) columns)
    whole = subst (λ is. Ascends row_cmp (rows_of is columns)) (sym same) t.rises

    rest_rise : Ascends row_cmp (rows_of (xs ++ x ∷ ys) columns)
    rest_rise = rise_back columns kept (xs ++ x ∷ ys) t.rises

    wider : (q : ℕ) → In q ((kept ++ xs) ++ ys) → In q (kept ++ (xs ++ x ∷ ys))
    wider q i = subst (In q) same (elim (in_append q (kept ++ xs) ys i) [
      | inl j ↦ in_left q (kept ++ xs) (x ∷ ys) j
      | inr j ↦ in_right q (kept ++ xs) (x ∷ ys) (inr j)
    ])

    there : (z : List Value) → In z left → (q : ℕ) × (In q (xs ++ x ∷ ys)) × (row_now q columns ≡ z)
        → In z (rows_of ys columns)
    there z i (q, j, w) = by (in_append q xs (x ∷ ys) j)
      where
        above : row_cmp y z ≡ Less
        above = before_in row_cmp y z left t.left_rise.0 i

        by : In q xs ⊎ In q (x ∷ ys) → In z (rows_of ys columns)
        by (inl k) =
            let l : row_cmp (row_now q columns) (row_now x columns) ≡ Less =
            rise_over columns xs (x ∷ ys) q x rest_rise k (inl refl) in
            absurd (not_before y z above (subst (λ r. row_cmp z r ≡ Less) e
            (subst (λ r. row_cmp r (row_now x columns) ≡ Less) w l)))
        by (inr (inl k)) = absurd (row_exact.apart y
            (subst (λ r. row_cmp y r ≡ Less) (sym w ∙ ap (λ n. row_now n columns) (sym k) ∙ e)
            above))
        by (inr (inr k)) = subst (λ r. In r (rows_of ys columns)) w (rows_of_in q ys columns k)

    both : (q : ℕ) → In q found ⊎ In q (kept ++ (xs ++ x ∷ ys)) → In q (found ++ x ∷ [])
        ⊎ In q ((kept ++ xs) ++ ys)
    both q (inl i) = inl (in_left q found (x ∷ []) i)
    both q (inr i) = elim (in_append q (kept ++ xs) (x ∷ ys) (subst (In q) (sym same) i)) [
      | inl j ↦ inr (in_left q (kept ++ xs) ys j)
      | inr (inl j) ↦ inl (in_right q found (x ∷ []) (inl j))
      | inr (inr j) ↦ inr (in_right q (kept ++ xs) ys j)
    ]

pub taken_all : (columns : List (List Write)) (live found kept rest : List ℕ)
    (lost : List (List Value)) → IsTaken columns live found kept rest lost []
    → IsSplit columns live found (kept ++ rest) lost
taken_all columns live found kept rest lost t =
    record {
      rows = sym (append-nil (rows_of found columns)) ∙ t.rows;
      rises = t.rises;
      both =
          t.both;
      found_in = t.found_in;
      kept_in = t.kept_in;
      apart = t.apart;
    }

-- where no row is lost each id stays
pub taken_none : (columns : List (List Write)) (live : List ℕ)
    → Ascends row_cmp (rows_of live columns) → IsSplit columns live [] live []
taken_none columns live a = record {
  rows = refl;
  rises = a;
  both = λ q i. inr i;
  found_in = λ q i.
      absurd i;
  kept_in = λ q i. i;
  apart = λ q i j. i;
}

-- ids that are put in one by one
pub record IsPut (columns : List (List Write)) (kept ids after rest coming : List ℕ)
    (gained left : List (List Value)) : Type 0 where
  pub stay : (q : ℕ) → In q kept → In q (after ++ rest)
  pub given : (q : ℕ) → In q ids → In q (after ++ rest) ⊎ In q coming
  pub only : (q : ℕ) → In q (after ++ rest) → In q kept ⊎ In q ids
  pub later : (q : ℕ) → In q coming → In q ids
  pub rest_in : (q : ℕ) → In q rest → In q kept
  pub rest_rise : Ascends row_cmp (rows_of rest columns)
  pub left_rise : Ascends row_cmp left
  pub fresh : (y : List Value) → In y left → In y (rows_of rest columns) → ⊥
  pub order : (others : List (List Write)) → ((q : ℕ) → In q kept
      → row_now q others ≡ row_now q columns) → rows_of ids others ≡ gained
      → Ascends row_cmp (rows_of (after ++ rest) others) × (rows_of coming others ≡ left)
      × ((q : ℕ) → In q after → (y : List Value) → In y left
      → row_cmp (row_now q others) y ≡ Less)

same_rows : (columns others : List (List Write)) (ids : List ℕ)
    → ((q : ℕ) → In q ids → row_now q others ≡ row_now q columns)
    → rows_of ids others ≡ rows_of ids columns
same_rows columns others [] f = refl
same_rows columns others (x ∷ ids) f = let e = f x (inl refl) in let r =
    same_rows columns others ids (λ q i. f q (inr i)) in rw (e, r) refl

pub put_first : (columns : List (List Write)) (kept ids : List ℕ) (gained : List (List Value))
    → Ascends row_cmp (rows_of kept columns) → Ascends row_cmp gained
    → ((y : List Value) → In y gained → In y (rows_of kept columns) → ⊥)
    → IsPut columns kept ids [] kept ids gained gained
put_first columns kept ids gained a b f = record {
  stay = λ q i. i;
  given = λ q i. inr i;
  only = λ q i. inl i;
  later = λ q i. i;
  rest_in = λ q i. i;
  rest_rise = a;
  left_rise = b;
  fresh = f;
  order = λ others s e. (
    subst (Ascends row_cmp) (sym (same_rows columns others kept s)) a,
    e,
    λ q i y j. absurd i,
  );
}

pub put_next : (columns : List (List Write)) (kept ids after xs ys coming : List ℕ) (h : ℕ)
    (gained left : List (List Value)) (y : List Value)
    → IsPut columns kept ids after (xs ++ ys) (h ∷ coming) gained (y ∷ left)
    → ((q : ℕ) → In q xs → row_cmp (row_now q columns) y ≡ Less)
    → ((q : ℕ) → In q ys → row_cmp y (row_now q columns) ≡ Less)
    → IsPut columns kept ids ((after ++ xs) ++ h ∷ []) ys coming gained left
put_next columns kept ids after xs ys coming h gained left y p f g = record {
  stay = λ q i. wider q (p.stay q i);
  given = λ q i. elim (p.given q i) [
    | inl j ↦ inl (wider q j)
    | inr (inl j) ↦ inl (subst (In q) (sym same) (in_right q (after ++ xs) (h ∷ ys) (inl j)))
    | inr (inr j) ↦ inr j
  ];
  only = λ q i. only q (in_append q (after ++ xs) (h ∷ ys) (subst (In q) same i));
  later = λ q i. p.later q (inr i);
  rest_in = λ q i. p.rest_in q (in_right q xs ys i);
  rest_rise = rise_back columns xs ys p.rest_rise;
  left_rise = p.left_rise.1;
  fresh = λ z i j. p.fresh z (inr i) (subst (In z) (sym (rows_append xs ys columns))
      (in_right z (rows_of xs columns) (rows_of ys columns) j));
  order = order;
}
  where
    same : ((after ++ xs) ++ h ∷ []) ++ ys ≡ (after ++ xs) ++ h ∷ ys
    same = append_assoc (after ++ xs) (h ∷ []) ys

    joined : (after ++ xs) ++ ys ≡ after ++ (xs ++ ys)
    joined = append_assoc after xs ys

    wider : (q : ℕ) → In q (after ++ (xs ++ ys)) → In q (((after ++ xs) ++ h ∷ []) ++ ys)
    wider q i = subst (In q) (sym same) (elim
        (in_append q (after ++ xs) ys (subst (In q) (sym joined) i)) [
          | inl j ↦ in_left q (after ++ xs) (h ∷ ys) j
          | inr j ↦ in_right q (after ++ xs) (h ∷ ys) (inr j)
        ])

    only : (q : ℕ) → In q (after ++ xs) ⊎ In q (h ∷ ys) → In q kept ⊎ In q ids
    only q (inl i) = p.only q (subst (In q) joined (in_left q (after ++ xs) ys i))
    only q (inr (inl e)) = inr (p.later q (inl e))
    only q (inr (inr i)) = p.only q (subst (In q) joined (in_right q (after ++ xs) ys i))

    order : (others : List (List Write)) → ((q : ℕ) → In q kept
        → row_now q others ≡ row_now q columns) → rows_of ids others ≡ gained
        → Ascends row_cmp (rows_of (((after ++ xs) ++ h ∷ []) ++ ys) others)
        × (rows_of coming others ≡ left) × ((q : ℕ) → In q ((after ++ xs) ++ h ∷ [])
        → (z : List Value) → In z left → row_cmp (row_now q others) z ≡ Less)
    order others s e =
        let o = p.order others s e in
        let here : row_now h others ≡ y = ap (first y) o.1 in
        let rest : rows_of coming others ≡ left = ap (drop 1) o.1 in
        let rise : Ascends row_cmp (rows_of ((after ++ xs) ++ ys) others) =
        subst (λ is. Ascends row_cmp (rows_of is others)) (sym joined) o.0 in
        let low : (q : ℕ) → In q (after ++ xs)
        → row_cmp (row_now q others) y ≡ Less =
        (λ q i. elim (in_append q after xs i) [
          | inl j ↦ o.2 q j y (inl refl)
          | inr j ↦ subst (λ r. row_cmp r y ≡ Less) (sym (s q (p.rest_in q (in_left q xs ys j))))
              (f q j)
        ]) in
        let high : (q : ℕ) → In q ys → row_cmp y (row_now q others) ≡ Less =
        (λ q i. subst (λ r. row_cmp y r ≡ Less) (sym (s q (p.rest_in q (in_right q xs ys i))))
        (g q i)) in (
          subst (λ is. Ascends row_cmp (rows_of is others)) (sym same)
              (rises_between others (after ++ xs) ys h rise
              (λ q i. subst (λ r. row_cmp (row_now q others) r ≡ Less) (sym here) (low q i))
              (λ q i. subst (λ r. row_cmp r (row_now q others) ≡ Less) (sym here) (high q i))),
          rest,
          λ q i z j. (let above = before_in row_cmp y z left p.left_rise.0 j in
              elim (in_append q (after ++ xs) (h ∷ []) i) [
                | inl k ↦ row_exact.trans (row_now q others) y z (low q k) above
                | inr (inl k) ↦ subst (λ r. row_cmp r z ≡ Less)
                    (sym (ap (λ n. row_now n others) (sym k) ∙ here)) above
                | inr (inr k) ↦ absurd k
              ]),
        )
      where
        first : List Value → List (List Value) → List Value
        first d [] = d
        first d (r ∷ rs) = r

pub put_all : (columns : List (List Write)) (kept ids after rest : List ℕ)
    (gained : List (List Value)) → IsPut columns kept ids after rest [] gained []
    → IsJoined columns kept ids (after ++ rest) gained
put_all columns kept ids after rest gained p = record {
  stay = p.stay;
  given = λ q i. elim (p.given q i) [ inl j ↦ j | inr j ↦ absurd j ];
  only = p.only;
  order = λ others s e. (p.order others s e).0;
}

pub handed_next : (lost : List ℕ) (next : ℕ) (row : List Value) (rows : List (List Value))
    → handed lost next (row ∷ rows) ≡ id_by [] lost next
    ∷ handed (lost_by [] lost) (next_by [] lost next) rows
handed_next [] next row rows = refl
handed_next (id ∷ lost) next row rows = refl

pub kept_there : (logs : List (List Write)) (live found kept : List ℕ) (lost : List (List Value))
    (s : IsSplit logs live found kept lost) (row : List Value) → In row (rows_of kept logs)
    → In row (rows_of live logs)
kept_there logs live found kept lost s row i = let w = in_rows_of row kept logs i in
    subst (λ y. In y (rows_of live logs)) w.2 (rows_of_in w.0 live logs (s.kept_in w.0 w.1))
