-- The lost rows hand their ids over to those that are found for the rows of the next relation.
use Rattle.std.proofs.Common.{◌≡◌, ℕ, Bool, true, false, List, [], ◌∷◌, length, refl, sym, ap, ◌∙◌}
use Rattle.std.proofs.Common.{subst, if◌then◌else◌, inl, inr}
use Rattle.std.specs.declared.cmp.Ordering.{Ordering}
use Rattle.std.specs.declared.cmp.Ordering.TheVariants.{Less, Equal, Greater}
use Rattle.std.specs.Ordering.{is_eq}
use Rattle.prima_base.specs.Order.{row_cmp}
use Rattle.relations_spec.specs.Spans.{Span}
use Rattle.prima_base.specs.OrderLaws.{row_exact, row_total}
use Rattle.prima_base.specs.declared.value.Value.{Value}
use Rattle.std.proofs.lemmas.Cmp.{tied_itself}
use Rattle.history_store_columns.specs.Log.{Write}
use Rattle.relations_spec.specs.Sets.{has, In, Ascends}
use Rattle.history_store_row_order.specs.Rows.{row_now, rows_of, AllWidth}
use Rattle.history_store_change_spec.specs.Table.{IsStored}
use Rattle.history_store_columns.specs.Keys.{IsOpen}
use Rattle.history_store_row_order.specs.Handing.{lost_ids, handed, found, gained_by, gained_rows}
use Rattle.history_store_row_order.specs.Handing.{id_by, lost_by}
use Rattle.history_store_row_order.specs.Handing.{next_by, after_ids}
use Rattle.history_store_change_spec.specs.Handing.{Pairs, AllNext, IsHandOver}
use Rattle.history_store_writes.specs.Writing.{logs_handed}
use Rattle.history_store_value_order.specs.ByValue.{Distinct}
use Rattle.history_store_row_order.proofs.Sides.{exact_rows, not_self}
use Rattle.relations_spec.proofs.SetLaws.{before_in, in_has, has_in}
use Rattle.history_store_row_order.proofs.RowsOf.{rows_of_in}
use Rattle.history_store_change_spec.proofs.Applied.{next_is, next_rows}

is_equal : (o : Ordering) → is_eq o ≡ true → o ≡ Equal
is_equal Less e = cc
is_equal Equal e = refl
is_equal Greater e = cc

-- what is found is there, and has the row
pub found_is : (columns : List (List Write)) (row : List Value) (ids : List ℕ) (id : ℕ)
    (rest : List ℕ) → found columns row ids ≡ id ∷ rest → In id ids × (row_now id columns ≡ row)
found_is columns row [] id rest e = cc
found_is columns row (j ∷ ids) id rest e = by_case (is_eq (row_cmp (row_now j columns) row)) refl e
    (found_is columns row ids id rest)
  where
    by_case : (b : Bool) → is_eq (row_cmp (row_now j columns) row) ≡ b
        → (if b then j ∷ [] else found columns row ids) ≡ id ∷ rest
        → (found columns row ids ≡ id ∷ rest → In id ids × (row_now id columns ≡ row))
        → In id (j ∷ ids) × (row_now id columns ≡ row)
    by_case true t e again = let q : j ≡ id = cc in (
      inl q,
      ap (λ n. row_now n columns) (sym q)
          ∙ exact_rows (row_now j columns) row (is_equal (row_cmp (row_now j columns) row) t),
    )
    by_case false t e again = let r = again e in (inr r.0, r.1)

-- what is there is found
pub finds : (columns : List (List Write)) (id : ℕ) (ids : List ℕ) → In id ids
    → Ascends row_cmp (rows_of ids columns) → found columns (row_now id columns) ids ≡ id ∷ []
finds columns id [] i r = absurd i
finds columns id (j ∷ ids) (inl e) r =
    let t : row_cmp (row_now j columns) (row_now id columns) ≡ Equal =
    ap (row_cmp (row_now j columns)) (ap (λ n. row_now n columns) (sym e))
    ∙ tied_itself row_total (row_now j columns) in
    rw t (ap (λ n. n ∷ []) e)
finds columns id (j ∷ ids) (inr i) r =
    let t : row_cmp (row_now j columns) (row_now id columns) ≡ Less =
    before_in row_cmp (row_now j columns) (row_now id columns) (rows_of ids columns) r.0
    (rows_of_in id ids columns i) in
    rw t (finds columns id ids i r.1)

-- a lost id's row is no longer there, and another's is
pub lost_is : (columns : List (List Write)) (rows : List (List Value)) (ids : List ℕ) (id : ℕ)
    → In id (lost_ids columns ids rows) → In id ids
    × (has row_cmp (row_now id columns) rows ≡ false)
lost_is columns rows [] id i = absurd i
lost_is columns rows (j ∷ ids) id i = by_case (has row_cmp (row_now j columns) rows) refl i
    (lost_is columns rows ids id)
  where
    by_case : (b : Bool) → has row_cmp (row_now j columns) rows ≡ b
        → In id (if b then lost_ids columns ids rows else j ∷ lost_ids columns ids rows)
        → (In id (lost_ids columns ids rows) → In id ids
        × (has row_cmp (row_now id columns) rows ≡ false)) → In id (j ∷ ids)
        × (has row_cmp (row_now id columns) rows ≡ false)
    by_case true t i again = let r = again i in (inr r.0, r.1)
    by_case false t (inl e) again = (
      inl e,
      subst
          (λ n. has row_cmp (row_now n columns) rows ≡ false) e t,
    )
    by_case false t (inr i) again = let r = again i in (inr r.0, r.1)

pub kept_is : (columns : List (List Write)) (rows : List (List Value)) (ids : List ℕ) (id : ℕ)
    → In id ids → (In id (lost_ids columns ids rows) → ⊥)
    → has row_cmp (row_now id columns) rows ≡ true
kept_is columns rows [] id i n = absurd i
kept_is columns rows (j ∷ ids) id i n = by_case (has row_cmp (row_now j columns) rows) refl i n
    (kept_is columns rows ids id)
  where
    by_case : (b : Bool) → has row_cmp (row_now j columns) rows ≡ b → In id (j ∷ ids)
        → (In id (if b then lost_ids columns ids rows else j ∷ lost_ids columns ids rows) → ⊥)
        → (In id ids → (In id (lost_ids columns ids rows) → ⊥)
        → has row_cmp (row_now id columns) rows ≡ true)
        → has row_cmp (row_now id columns) rows ≡ true
    by_case true t (inl e) n again = subst (λ k. has row_cmp (row_now k columns) rows ≡ true) e t
    by_case true t (inr i) n again = again i n
    by_case false t (inl e) n again = absurd (n (inl e))
    by_case false t (inr i) n again = again i (λ m. n (inr m))

distinct_lost : (columns : List (List Write)) (rows : List (List Value)) (ids : List ℕ)
    → Ascends row_cmp (rows_of ids columns) → Distinct (lost_ids columns ids rows)
distinct_lost columns rows [] r = tt
distinct_lost columns rows (j ∷ ids) r =
    let rest = distinct_lost columns rows ids r.1 in
    elim (has row_cmp (row_now j columns) rows) as (λ b.
    Distinct (if b then lost_ids columns ids rows else j ∷ lost_ids columns ids rows)) [
      | true ↦ rest
      | false ↦ (
        λ i. not_self row_cmp row_total exact_rows (row_now j columns)
            (before_in row_cmp (row_now j columns) (row_now j columns) (rows_of ids columns) r.0
            (rows_of_in j ids columns (lost_is columns rows ids j i).0)),
        rest,
      )
    ]

module _ (columns : List (List Write)) (live : List ℕ) where
  wide_gained : (width : ℕ) (rows : List (List Value)) → AllWidth width rows
      → AllWidth width (gained_rows columns live rows)
  wide_gained width [] w = tt
  wide_gained width (row ∷ rows) w =
      let rest = wide_gained width rows w.1 in
      elim (found columns row live) as (λ ids.
      AllWidth width (gained_by ids row (gained_rows columns live rows))) [
        | [] ↦ (w.0, rest)
        | ◌∷◌ i is ↦ rest
      ]

  -- a row that an id has gets this id
  after_has : (id : ℕ) (row : List Value) (lost : List ℕ) (next : ℕ) (rows : List (List Value))
      → found columns row live ≡ id ∷ [] → In row rows
      → In id (after_ids columns live lost next rows)
  after_has id row lost next [] f i = absurd i
  after_has id row lost next (r ∷ rows) f (inl e) =
      let g : found columns r live ≡ id ∷ [] = ap (λ q. found columns q live) e ∙ f in
      inl (ap (λ ids. id_by ids lost next) g)
  after_has id row lost next (r ∷ rows) f (inr i) =
      inr (after_has id row (lost_by (found columns r live) lost)
      (next_by (found columns r live) lost next) rows f i)

  -- each handed id is used
  after_given : (id : ℕ) (lost : List ℕ) (next : ℕ) (rows : List (List Value))
      → In id (handed lost next (gained_rows columns live rows))
      → In id (after_ids columns live lost next rows)
  after_given id lost next [] i = i
  after_given id lost next (row ∷ rows) i = by_case (found columns row live) lost i
      (after_given id (lost_by (found columns row live) lost)
      (next_by (found columns row live) lost next) rows)
    where
      by_case : (f lost : List ℕ) → In id (handed lost next
          (gained_by f row (gained_rows columns live rows)))
          → (In id (handed (lost_by f lost) (next_by f lost next) (gained_rows columns live rows))
          → In id (after_ids columns live (lost_by f lost) (next_by f lost next) rows))
          → In id (id_by f lost next ∷ after_ids columns live (lost_by f lost) (next_by f lost next)
          rows)
      by_case (j ∷ js) lost i again = inr (again i)
      by_case [] [] (inl e) again = inl e
      by_case [] [] (inr i) again = inr (again i)
      by_case [] (l ∷ ls) (inl e) again = inl e
      by_case [] (l ∷ ls) (inr i) again = inr (again i)

  -- each row's id has it already, or is handed it
  after_next : (keys : List Span) (lost : List ℕ) (gained : List (List Value)) (ls : List ℕ)
      (next : ℕ) (all rows : List (List Value))
      → lost ≡ lost_ids columns live all → ((q : ℕ) → In q live → IsOpen keys q)
      → ((q : List Value) → In q rows → In q all)
      → ((q : ℕ) (r : List Value) → Pairs q r (handed ls next (gained_rows columns live rows))
      (gained_rows columns live rows) → Pairs q r (handed lost (length keys) gained) gained)
      → AllNext keys columns lost gained (after_ids columns live ls next rows) rows
  after_next keys lost gained ls next all [] e o m p = tt
  after_next keys lost gained ls next all (row ∷ rows) e o m p =
      by_case (found columns row live) ls refl p
      (after_next keys lost gained (lost_by (found columns row live) ls)
      (next_by (found columns row live) ls next) all rows e o (λ q i. m q (inr i)))
    where
      by_case : (f ls : List ℕ) → found columns row live ≡ f
          → ((q : ℕ) (r : List Value) → Pairs q r
          (handed ls next (gained_by f row (gained_rows columns live rows)))
          (gained_by f row (gained_rows columns live rows))
          → Pairs q r (handed lost (length keys) gained) gained)
          → (((q : ℕ) (r : List Value) → Pairs q r
          (handed (lost_by f ls) (next_by f ls next) (gained_rows columns live rows))
          (gained_rows columns live rows) → Pairs q r (handed lost (length keys) gained) gained)
          → AllNext keys columns lost gained (after_ids columns live (lost_by f ls)
          (next_by f ls next) rows) rows)
          → AllNext keys columns lost gained (id_by f ls next
          ∷ after_ids columns live (lost_by f ls) (next_by f ls next) rows) (row ∷ rows)
      by_case (j ∷ js) ls t p again =
          let f = found_is columns row live j js t in (
            inl (
              o j f.0,
              (
                (λ i.
                    let a : has row_cmp (row_now j columns) all ≡ false =
                    (lost_is columns all live j (subst (In j) e i)).1 in
                    let b : has row_cmp (row_now j columns) all ≡ true =
                    ap (λ q. has row_cmp q all) f.1
                    ∙ in_has row_cmp row_exact row all (m row (inl refl)) in
                    cc),
                f.1,
              ),
            ),
            again p,
          )
      by_case [] [] t p again = (
        inr (p next row (inl (refl, refl))),
        again (λ q r x. p q r (inr x)),
      )
      by_case [] (l ∷ ls) t p again = (
        inr (p l row (inl (refl, refl))),
        again (λ q r x. p q r (inr x)),
      )

-- what is found
module _ (keys : List Span) (columns : List (List Write)) (live : List ℕ) (last : ℕ)
    (rows : List (List Value)) (s : IsStored keys columns live last)
    (r : Ascends row_cmp rows) (w : AllWidth (length columns) rows) where
  next_found : AllNext keys columns (lost_ids columns live rows) (gained_rows columns live rows)
      (after_ids columns live (lost_ids columns live rows) (length keys) rows) rows
  next_found = after_next columns live keys (lost_ids columns live rows)
      (gained_rows columns live rows) (lost_ids columns live rows) (length keys) rows rows refl
      s.are_open (λ q i. i) (λ q r p. p)

  pub is_hand_over : IsHandOver keys (length columns) (lost_ids columns live rows)
      (gained_rows columns live rows) (after_ids columns live (lost_ids columns live rows)
      (length keys) rows)
  is_hand_over = record {
    lost_open = λ id i. s.are_open id (lost_is columns rows live id i).0;
    distinct = distinct_lost columns rows live s.ordered;
    wide = wide_gained columns live (length columns) rows w;
    each = λ id i. next_is keys (lost_ids columns live rows) (gained_rows columns live rows) columns
        id (after_ids columns live (lost_ids columns live rows) (length keys) rows) rows next_found
        i;
    kept = λ id o n. after_has columns live id (row_now id columns) (lost_ids columns live rows)
        (length keys) rows (finds columns id live (s.are_live id o) s.ordered)
        (has_in row_cmp row_exact (row_now id columns) rows
        (kept_is columns rows live id (s.are_live id o) n));
    given = λ id i. after_given columns live id (lost_ids columns live rows) (length keys) rows i;
  }

  pub found_rows : (stamp : ℕ) → rows_of (after_ids columns live (lost_ids columns live rows)
      (length keys) rows) (logs_handed keys columns (lost_ids columns live rows)
      (gained_rows columns live rows) stamp) ≡ rows
  found_rows stamp = next_rows keys (lost_ids columns live rows) (gained_rows columns live rows)
      stamp columns (after_ids columns live (lost_ids columns live rows) (length keys) rows) rows
      (distinct_lost columns rows live s.ordered)
      (λ q i. (s.are_open q (lost_is columns rows live q i).0).0)
      (wide_gained columns live (length columns) rows w) next_found
