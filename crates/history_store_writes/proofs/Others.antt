-- The indexes of columns, changed one after the other.
use Rattle.std.proofs.Common.{◌≡◌, ◌≢◌, ℕ, zero, suc, ◌+◌, ◌<◌, ◌≤◌, Bool, true, false, List, []}
use Rattle.std.proofs.Common.{◌∷◌, ◌++◌, All, length, get_or, set, refl, sym, ap, ◌∙◌, subst, arith}
use Rattle.std.proofs.Common.{inl, inr}
use Rattle.std.specs.Prelude.{◌&&◌, min, max, nat_le, cond}
use Rattle.std.proofs.lemmas.Bool.Decides.{eqb_tells, nat_tests}
use Rattle.std.proofs.lemmas.List.{get_or-set_same, get_or-set_other, get_or_default}
use Rattle.relations_spec.specs.Sets.{In, Ascends}
use Rattle.relations_spec.proofs.SetLaws.{in_has, has_in}
use Rattle.std.specs.Ordering.{nat_cmp}
use Rattle.history_store_columns.specs.Log.{Log, Write}
use Rattle.history_store_row_order.specs.Logs.{cells_of, few_of}
use Rattle.history_store_writes.specs.ValueIndexes.{Indexed, indexed_columns, is_indexed}
use Rattle.history_store_writes.specs.ValueIndexes.{indexed_after}
use Rattle.history_store_writes.specs.ValueIndexes.{least_room, IsIndexed, IsIndexPrepared}
use Rattle.history_store_value_order.specs.ByValue.{by_value, IsWithout}
use Rattle.history_store_row_order.proofs.Cells.{length-cells_of}
use Rattle.history_store_value_order.proofs.Places.{not_true}
use Rattle.history_store_row_order.proofs.Sides.{nat_exact}

-- ---- one more is changed

module _ {X : Type 0} (old xs : List X) (k : ℕ) (x y : X) (h : k < length xs)
    (is : x ≡ get_or xs k x) where
  pub one_more : (R : X → X → Type 0) → R x y
      → ((j : ℕ) (d : X) → j < k → R (get_or old j d) (get_or xs j d))
      → ((j : ℕ) (d : X) → k ≤ j → get_or xs j d ≡ get_or old j d)
      → (j : ℕ) (d : X) → j < k + 1 → R (get_or old j d) (get_or (set xs k y) j d)
  one_more R r done rest j d b =
      elim (eqb_tells j k) [
        | inl q ↦
            let here : get_or (set xs k y) j d ≡ y = ap (λ n. get_or (set xs k y) n d) q.1
            ∙ get_or-set_same xs k y d h in
            let was : x ≡ get_or old j d = is ∙ get_or_default xs k x d h ∙ rest k d (omega arith)
            ∙ ap (λ n. get_or old n d) (sym q.1) in
            rw (here, ← was) r
        | inr n ↦
            let there : get_or (set xs k y) j d ≡ get_or xs j d = get_or-set_other xs k j y d n.1 in
            let m : j ≢ k = n.1 in
            rw there (done j d (omega arith))
      ]

  pub others_rest : ((j : ℕ) (d : X) → k ≤ j → get_or xs j d ≡ get_or old j d) → (j : ℕ) (d : X)
      → k + 1 ≤ j → get_or (set xs k y) j d ≡ get_or old j d
  others_rest rest j d b = let n : j ≢ k = λ e. omega arith in get_or-set_other xs k j y d n
      ∙ rest j d (omega arith)

-- ---- an index that is put back with more room

pub least_room_more : (xs : List Indexed) (k : ℕ) (y d : Indexed) (room : ℕ) → k < length xs
    → (get_or xs k d).room ≤ y.room → least_room room xs ≤ least_room room (set xs k y)
least_room_more [] k y d room h l = absurd (omega arith)
least_room_more (x ∷ xs) zero y d room h l = grind arith
least_room_more (x ∷ xs) (suc k) y d room h l = let r =
    least_room_more xs k y d room (omega arith) l in grind arith

pub same_index : (xs : List Indexed) (k j : ℕ) (y d e : Indexed) → k < length xs → e ≡ get_or xs k e
    → y.column ≡ e.column → y.ids ≡ e.ids
    → ((get_or (set xs k y) j d).column ≡ (get_or xs j d).column)
    × ((get_or (set xs k y) j d).ids ≡ (get_or xs j d).ids)
same_index xs k j y d e h is c i =
    elim (eqb_tells j k) [
      | inl q ↦
          let here : get_or (set xs k y) j d ≡ y = ap (λ n. get_or (set xs k y) n d) q.1
          ∙ get_or-set_same xs k y d h in
          let was : e ≡ get_or xs j d = is ∙ get_or_default xs k e d h
          ∙ ap (λ n. get_or xs n d) (sym q.1) in
          rw (here, ← was) (c, i)
      | inr n ↦ let there : get_or (set xs k y) j d ≡ get_or xs j d =
          get_or-set_other xs k j y d n.1 in rw there (refl, refl)
    ]

pub room_each : (xs : List Indexed) (k more : ℕ) (y : Indexed) → k < length xs → more ≤ y.room
    → ((j : ℕ) (d : Indexed) → j < k → more ≤ (get_or xs j d).room)
    → (j : ℕ) (d : Indexed) → j < k + 1 → more ≤ (get_or (set xs k y) j d).room
room_each xs k more y h m r j d b =
    elim (eqb_tells j k) [
      | inl q ↦ rw (q.1, get_or-set_same xs k y d h) m
      | inr n ↦ let o : j ≢ k = n.1 in rw (get_or-set_other xs k j y d n.1) (r j d (omega arith))
    ]

-- ---- what an index has after its loss

pub lost_indexed : (logs : List (List Write)) (live lost : List ℕ) (x y : Indexed)
    → IsIndexed logs live [] x → y.column ≡ x.column
    → IsWithout (get_or logs x.column []) lost x.ids y.ids → IsIndexed logs live lost y
lost_indexed logs live lost x y i c w = record {
  within = subst (λ k. k < length logs) (sym c) i.within;
  rises = subst (λ k. Ascends (by_value (get_or logs k [])) y.ids) (sym c) w.rises;
  only = λ q j. (let o = w.only q j in ((i.only q o.0).0, o.1));
  all = λ q j n. w.all q (i.all q j (λ e. e)) n;
}

pub same_indexed : (logs : List (List Write)) (live lost : List ℕ) (x y : Indexed)
    → IsIndexed logs live lost x → y.column ≡ x.column → y.ids ≡ x.ids → IsIndexed logs live lost y
same_indexed logs live lost x y i c e = record {
  within = subst (λ k. k < length logs) (sym c) i.within;
  rises = subst (λ k. Ascends (by_value (get_or logs k [])) y.ids) (sym c)
      (subst (Ascends (by_value (get_or logs x.column []))) (sym e) i.rises);
  only = λ q j. i.only q (subst (In q) e j);
  all = λ q j n. subst (In q) (sym e) (i.all q j n);
}

-- ---- the least room

pub least_room_up : (a b : ℕ) (xs : List Indexed) → a ≤ b → least_room a xs ≤ least_room b xs
least_room_up a b [] l = l
least_room_up a b (x ∷ xs) l = let r = least_room_up a b xs l in grind arith

pub least_room_is : (n room : ℕ) (xs : List Indexed) → n ≤ room → All (λ x. n ≤ x.room) xs
    → n ≤ least_room room xs
least_room_is n room [] l a = l
least_room_is n room (x ∷ xs) l a = let r = least_room_is n room xs l
    (λ k d h. a (suc k) d (omega arith)) in let f = a 0 x (omega arith) in grind arith

pub least_room_each : (n room : ℕ) (xs : List Indexed) → n ≤ least_room room xs
    → All (λ x. n ≤ x.room) xs
least_room_each n room [] h k d b = absurd (omega arith)
least_room_each n room (x ∷ xs) h zero d b = grind arith
least_room_each n room (x ∷ xs) h (suc k) d b =
    least_room_each n room xs (grind arith) k d (omega arith)

pub least_room_below : (room : ℕ) (xs : List Indexed) → least_room room xs ≤ room
least_room_below room [] = omega arith
least_room_below room (x ∷ xs) = let r = least_room_below room xs in grind arith

-- one more index at the end
pub least_room_push : (room few : ℕ) (xs : List Indexed) (x : Indexed) → few ≤ x.room
    → min few (least_room room xs) ≤ least_room room (xs ++ x ∷ [])
least_room_push room few [] x h = grind arith
least_room_push room few (y ∷ xs) x h = let r = least_room_push room few xs x h in grind arith

-- ---- all of them

pub same_others : (logs logs' : List (List Write)) (live live' : List ℕ) (xs ys : List Indexed)
    → logs' ≡ logs → live' ≡ live → length ys ≡ length xs
    → ((k : ℕ) (d : Indexed) → k < length xs → ((get_or ys k d).column ≡ (get_or xs k d).column)
    × ((get_or ys k d).ids ≡ (get_or xs k d).ids)) → All (IsIndexed logs live []) xs
    → All (IsIndexed logs' live' []) ys
same_others logs logs' live live' xs ys e f n s a k d h =
    let b : k < length xs = omega (arith, h, n) in
    rw (e, f) (same_indexed logs live [] (get_or xs k d) (get_or ys k d) (a k d b) (s k d b).0
    (s k d b).1)

pub one_ready : (columns : List Log) (n : ℕ) (live lost : List ℕ) (x : Indexed)
    → ((q : ℕ) → In q live → q < n) → All (λ c. c.ids ≡ n) columns
    → IsIndexed (cells_of columns) live lost x → IsIndexPrepared columns x
one_ready columns n live lost x b a i = record {
  within = subst (λ m. x.column < m) (length-cells_of columns) i.within;
  known = λ q d j. subst (λ m. q < m) (sym (a x.column d
      (subst (λ m. x.column < m) (length-cells_of columns) i.within))) (b q (i.only q j).0);
  rises = i.rises;
}

pub ready_each : (columns : List Log) (n : ℕ) (live lost : List ℕ) (xs : List Indexed)
    → ((q : ℕ) → In q live → q < n) → All (λ c. c.ids ≡ n) columns
    → All (IsIndexed (cells_of columns) live lost) xs → All (IsIndexPrepared columns) xs
ready_each columns n live lost xs b a i k d h =
    one_ready columns n live lost (get_or xs k d) b a (i k d h)

pub one_pushed : {X : Type 0} (P : X → Type 0) (xs : List X) (x : X) → All P xs → P x
    → All P (xs ++ x ∷ [])
one_pushed P [] x a p zero d h = p
one_pushed P [] x a p (suc k) d h = absurd (omega arith)
one_pushed P (y ∷ xs) x a p zero d h = a 0 y (omega arith)
one_pushed P (y ∷ xs) x a p (suc k) d h = one_pushed P xs x (λ j e b. a (suc j) e (omega arith)) p k
    d (omega arith)

-- ---- the columns that have an index

pub same_columns : (xs ys : List Indexed) → length ys ≡ length xs
    → ((k : ℕ) (d : Indexed) → k < length xs → (get_or ys k d).column ≡ (get_or xs k d).column)
    → indexed_columns ys ≡ indexed_columns xs
same_columns [] [] e f = refl
same_columns [] (y ∷ ys) e f = absurd (omega arith)
same_columns (x ∷ xs) [] e f = absurd (omega arith)
same_columns (x ∷ xs) (y ∷ ys) e f =
    let here : y.column ≡ x.column = f 0 x (omega arith) in
    let rest = same_columns xs ys (omega arith) (λ k d h. f (suc k) d (omega arith)) in
    rw (here, rest) refl

pub columns_pushed : (xs : List Indexed) (x : Indexed)
    → indexed_columns (xs ++ x ∷ []) ≡ indexed_columns xs ++ x.column ∷ []
columns_pushed [] x = refl
columns_pushed (y ∷ xs) x = ap (λ cs. y.column ∷ cs) (columns_pushed xs x)

in_columns : (xs : List Indexed) (column k : ℕ) (d : Indexed) → k < length xs
    → (get_or xs k d).column ≡ column → In column (indexed_columns xs)
in_columns [] column k d h e = absurd (omega arith)
in_columns (x ∷ xs) column zero d h e = inl e
in_columns (x ∷ xs) column (suc k) d h e = inr (in_columns xs column k d (omega arith) e)

pub one_indexed : (xs : List Indexed) (column k : ℕ) (d : Indexed) → k < length xs
    → (get_or xs k d).column ≡ column → is_indexed column (indexed_columns xs) ≡ true
one_indexed xs column k d h e = in_has nat_cmp nat_exact column (indexed_columns xs)
    (in_columns xs column k d h e)

none_in : (xs : List Indexed) (column : ℕ) → ((k : ℕ) (d : Indexed) → k < length xs
    → (get_or xs k d).column ≢ column) → In column (indexed_columns xs) → ⊥
none_in [] column f i = i
none_in (x ∷ xs) column f (inl e) = f 0 x (omega arith) e
none_in (x ∷ xs) column f (inr i) = none_in xs column (λ k d h. f (suc k) d (omega arith)) i

pub none_indexed : (xs : List Indexed) (column : ℕ)
    → ((k : ℕ) (d : Indexed) → k < length xs → (get_or xs k d).column ≢ column)
    → is_indexed column (indexed_columns xs) ≡ false
none_indexed xs column f = not_true (is_indexed column (indexed_columns xs))
    (λ t. none_in xs column f (has_in nat_cmp nat_exact column (indexed_columns xs) t))

-- where none is kept, none is kept after a change
pub none_after : (rows lost gained : ℕ) → indexed_after rows lost gained [] ≡ []
none_after rows lost gained = by_case (nat_le lost (few_of rows) && nat_le gained (few_of rows))
  where
    by_case : (b : Bool) → cond {A = List ℕ} b [] [] ≡ []
    by_case true = refl
    by_case false = refl

-- a change of few rows takes none away
pub few_after : (rows lost gained : ℕ) (indexed : List ℕ) → lost ≤ few_of rows
    → gained ≤ few_of rows → indexed_after rows lost gained indexed ≡ indexed
few_after rows lost gained indexed h k = rw (
  at_most lost (few_of rows) h,
  at_most gained (few_of rows) k,
) refl
  where
    at_most : (n few : ℕ) → n ≤ few → nat_le n few ≡ true
    at_most n few h = grind (arith, nat_tests)

-- a change of many rows takes all away
pub many_after : (rows lost gained : ℕ) (indexed : List ℕ) → few_of rows < max lost gained
    → indexed_after rows lost gained indexed ≡ []
many_after rows lost gained indexed h = rw (too_many lost gained (few_of rows) h) refl
  where
    too_many : (l g few : ℕ) → few < max l g → nat_le l few && nat_le g few ≡ false
    too_many l g few h = grind (arith, nat_tests)
