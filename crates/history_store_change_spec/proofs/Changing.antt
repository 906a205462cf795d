-- What is found for a change of few rows is a prepared change.
use Rattle.std.proofs.Common.{◌≡◌, ◌⊎◌, ℕ, ◌+◌, ◌<◌, ◌≤◌, true, false, List, [], ◌∷◌, ◌++◌, length}
use Rattle.std.proofs.Common.{refl, sym, ap, ◌∙◌, subst, arith, inl, inr, if◌then◌else◌}
use Rattle.relations_spec.specs.Sets.{In, Ascends, set_of, has}
use Rattle.relations_spec.specs.Spans.{Span, forever}
use Rattle.relations_spec.proofs.SetLaws.{before_in, in_append, in_left, in_right, in_has, has_in}
use Rattle.prima_base.specs.Order.{row_cmp}
use Rattle.prima_base.specs.OrderLaws.{row_exact}
use Rattle.prima_base.specs.declared.value.Value.{Value}
use Rattle.history_store_columns.specs.Log.{Write}
use Rattle.prima_base.specs.Columns.{Column, IsRow, IsRelation}
use Rattle.history_store_spec.specs.Store.{relation_at, AllBefore}
use Rattle.history_store_change_spec.specs.Entries.{all_entries}
use Rattle.history_store_row_order.specs.Rows.{row_now, rows_of, AllWidth}
use Rattle.history_store_change_spec.specs.Table.{IsStored}
use Rattle.history_store_columns.specs.Keys.{IsOpen}
use Rattle.history_store_change_spec.specs.Kept.{store_of, IsKept}
use Rattle.history_store_writes.specs.Writing.{unpaired, logs_handed}
use Rattle.history_store_change_spec.specs.Handing.{IsHandOver, Pairs, AllNext}
use Rattle.history_store_row_order.specs.Handing.{handed, only_in}
use Rattle.history_store_value_order.specs.ByValue.{Distinct}
use Rattle.history_store_writes.specs.RowRoom.{rows_room}
use Rattle.history_store_row_order.specs.Splices.{IsSplit, IsJoined, IsSpliced}
use Rattle.history_store_row_order.specs.Indexes.{Index, later_ids, more_ids, IsPlaced}
use Rattle.history_store_change_spec.specs.Change.{IsPrepared, ids_at, rows_after, rows_along}
use Rattle.history_store_change_spec.specs.Change.{changed}
use Rattle.history_store_change_spec.specs.Change.{write_rows}
use Rattle.history_store_change_spec.specs.Change.{close_all}
use Rattle.history_store_value_order.proofs.Places.{not_true}
use Rattle.history_store_row_order.proofs.Sides.{set_is}
use Rattle.history_store_row_order.proofs.Coming.{from_only}
use Rattle.history_store_row_order.proofs.RowsOf.{rows_of_in, in_rows_of}
use Rattle.history_store_change_spec.proofs.Applied.{rows_other, next_rows, handed_is}
use Rattle.history_store_change_spec.proofs.Showing.{along_is, current_relation}
use Rattle.history_store_change_spec.proofs.Making.{all_wide, more_room}
use Rattle.history_store_change_spec.proofs.Moments.{same_id}
use Rattle.history_store_change_spec.proofs.Installing.{later, relation_from, live_is, along_after}

-- ids of an ascending list
pub distinct_ids : (columns : List (List Write)) (ids : List ℕ)
    → Ascends row_cmp (rows_of ids columns) → Distinct ids
distinct_ids columns [] a = tt
distinct_ids columns (x ∷ ids) a = (
  λ i. row_exact.apart (row_now x columns)
      (before_in row_cmp (row_now x columns) (row_now x columns) (rows_of ids columns) a.0
      (rows_of_in x ids columns i)),
  distinct_ids columns ids a.1,
)

-- the gained rows are those of the handed ids
all_pairs : (keys : List Span) (columns : List (List Write)) (lost all_lost : List ℕ) (next : ℕ)
    (gained all : List (List Value)) → ((q : ℕ) (r : List Value)
    → Pairs q r (handed lost next gained) gained
    → Pairs q r (handed all_lost (length keys) all) all)
    → AllNext keys columns all_lost all (handed lost next gained) gained
all_pairs keys columns lost all_lost next [] all f = tt
all_pairs keys columns [] all_lost next (g ∷ gained) all f = (
  inr (f next g (inl (refl, refl))),
  all_pairs keys columns [] all_lost (next + 1) gained all
      (λ q r p. f q r (inr p)),
)
all_pairs keys columns (id ∷ lost) all_lost next (g ∷ gained) all f = (
  inr (f id g (inl (refl, refl))),
  all_pairs keys columns lost all_lost next gained all
      (λ q r p. f q r (inr p)),
)

in_only : (row : List Value) (rows others : List (List Value)) → In row rows
    → has row_cmp row others ≡ false → In row (only_in rows others)
in_only row [] others i n = absurd i
in_only row (r ∷ rows) others (inl e) n = let m : has row_cmp r others ≡ false =
    ap (λ x. has row_cmp x others) e ∙ n in rw m (inl e)
in_only row (r ∷ rows) others (inr i) n =
    let again = in_only row rows others i n in
    elim (has row_cmp r others) as (λ b. In row
    (if b then only_in rows others else r ∷ only_in rows others)) [
      | true ↦ again
      | false ↦ inr again
    ]

module _ {indexed : List ℕ} (columns : List Column) (keys : List Span) (logs : List (List Write))
    (live : List ℕ) (spare : ℕ) (k : IsKept columns keys logs live) (stamp : ℕ)
    (b : AllBefore (store_of columns keys logs spare indexed) stamp) (l : stamp < forever)
    (lost gained : List (List Value)) (r : IsRelation columns lost)
    (g : IsRelation columns gained)
    (found : List ℕ) (index : Index) (spliced : IsSpliced logs live lost (length keys) gained found
    (later_ids index live))
    (placed : IsPlaced index live) (more : more_ids index ≤ length gained) where
  after : List ℕ
  after = later_ids index live

  kept : List ℕ
  kept = spliced.kept

  s : IsSplit logs live found kept lost
  unfolding kept
  s = spliced.split

  j : IsJoined logs kept (handed found (length keys) gained) after gained
  unfolding kept after
  j = spliced.joined

  new : List (List Write)
  new = logs_handed keys logs found gained stamp

  stored : IsStored keys logs live stamp
  stored = later columns keys logs live spare stamp stamp k b (omega arith)

  wide : AllWidth (length logs) gained
  wide = all_wide columns logs gained k.width g

  distinct : Distinct found
  distinct = distinct_ids logs found (subst (Ascends row_cmp) (sym s.rows) r.ascending)

  opens : (id : ℕ) → In id found → IsOpen keys id
  opens id i = stored.are_open id (s.found_in id i)

  hands : IsHandOver keys (length columns) found gained after
  hands = record {
    lost_open = opens;
    distinct = distinct;
    wide = subst (λ n. AllWidth n gained) k.width wide;
    each = λ id i. elim (j.only id i) [
      | inl q ↦
          inl (stored.are_open id (s.kept_in id q), λ f. s.apart id f q)
      | inr q ↦ inr q
    ];
    kept = λ id o n. elim (s.both id (stored.are_live id o)) [
      | inl q ↦ absurd (n q)
      | inr q ↦ j.stay id q
    ];
    given = j.given;
  }

  stays : (q : ℕ) → In q kept → row_now q new ≡ row_now q logs
  unfolding new
  stays q i = rows_other q (handed found (length keys) gained) gained stamp logs
      (λ h. elim (handed_is q found (length keys) gained h) [
        | inl f ↦ s.apart q f i
        | inr n ↦ (let p = n.0 in
            let o = (stored.are_open q (s.kept_in q i)).0 in omega (arith, p, o))
      ])

  fresh_rows : rows_of (handed found (length keys) gained) new ≡ gained
  unfolding new
  fresh_rows = next_rows keys found gained stamp logs (handed found (length keys) gained) gained
      distinct (λ q i. (opens q i).0) wide (all_pairs keys logs found found (length keys) gained
      gained (λ q r p. p))

  rises : Ascends row_cmp (rows_of after new)
  rises = j.order new stays fresh_rows

  to_rows : (q : List Value) → In q (only_in (rows_of live logs) lost ++ gained)
      → In q (rows_of after new)
  to_rows q i = by (in_append q (only_in (rows_of live logs) lost) gained i)
    where
      by : In q (only_in (rows_of live logs) lost) ⊎ In q gained → In q (rows_of after new)
      by (inr x) = let w = in_rows_of q (handed found (length keys) gained) new
          (subst (In q) (sym fresh_rows) x) in
          subst (λ y. In y (rows_of after new)) w.2 (rows_of_in w.0 after new (j.given w.0 w.1))
      by (inl x) =
          let p = from_only q (rows_of live logs) lost x in
          let w = in_rows_of q live logs p.0 in
          elim (s.both w.0 w.1) [
            | inl f ↦ absurd (let t : has row_cmp q lost ≡ true =
                in_has row_cmp row_exact q lost
                (subst (In q) s.rows (subst (λ y. In y (rows_of found logs)) w.2
                (rows_of_in w.0 found logs f))) in (let u = p.1 in cc))
            | inr f ↦ subst (λ y. In y (rows_of after new)) (stays w.0 f ∙ w.2)
                (rows_of_in w.0 after new (j.stay w.0 f))
          ]

  from_rows : (q : List Value) → In q (rows_of after new)
      → In q (only_in (rows_of live logs) lost ++ gained)
  from_rows q i = by (in_rows_of q after new i)
    where
      by : (id : ℕ) × (In id after) × (row_now id new ≡ q)
          → In q (only_in (rows_of live logs) lost ++ gained)
      by (id, x, e) = elim (j.only id x) [
        | inr h ↦ in_right q (only_in (rows_of live logs) lost) gained
            (subst (In q) fresh_rows (subst (λ y.
            In y (rows_of (handed found (length keys) gained) new)) e
            (rows_of_in id (handed found (length keys) gained) new h)))
        | inl h ↦
            let is : row_now id logs ≡ q = sym (stays id h) ∙ e in
            let there : In q (rows_of live logs) =
            subst (λ y. In y (rows_of live logs)) is
            (rows_of_in id live logs (s.kept_in id h)) in
            let none : has row_cmp q lost ≡ false = not_true (has row_cmp q lost) (λ t. (
            let w = in_rows_of q found logs (subst (In q) (sym s.rows)
            (has_in row_cmp row_exact q lost t)) in
            let same = same_id logs live w.0 id k.stored.ordered (s.found_in w.0 w.1)
            (s.kept_in id h) (w.2 ∙ sym is) in
            s.apart id (subst (λ n. In n found) same w.1) h)) in
            in_left q (only_in (rows_of live logs) lost) gained
            (in_only q (rows_of live logs) lost there none)
      ]

  fits_in : (q : List Value) → In q (rows_of after new) → IsRow columns q
  fits_in q i = by (in_append q (only_in (rows_of live logs) lost) gained (from_rows q i))
    where
      by : In q (only_in (rows_of live logs) lost) ⊎ In q gained → IsRow columns q
      by (inl x) = (current_relation columns keys logs live k).fitting q
          (from_only q (rows_of live logs) lost x).0
      by (inr x) = g.fitting q x

  before : (others : List ℕ) (n : ℕ) → ids_at (store_of columns keys logs n others) stamp ≡ live
  before others n = live_is columns keys logs live n stamp k
      (more_room columns keys logs spare n stamp b) l

  along : (others : List ℕ) (n : ℕ) → rows_after (store_of columns keys logs n others)
      (record { stamp = stamp; lost = found; gained = gained; after = index }) ≡ rows_of after new
  unfolding rows_after new after
  along others n =
      ap (λ ids. rows_along (later_ids index ids) stamp
      (close_all (unpaired found gained) stamp
      (write_rows (handed found (length keys) gained) gained stamp (all_entries keys logs))))
      (before others n)
      ∙ along_after columns keys logs live n k stamp found gained after
      (more_room {others = indexed} columns keys logs spare n stamp b) l hands

  pub change_fits : {others : List ℕ} → (n : ℕ) → rows_room gained ≤ n
      → IsPrepared (store_of columns keys logs n others)
      (record { stamp = stamp; lost = found; gained = gained; after = index })
  unfolding after
  change_fits {others} n room = record {
    before = more_room columns keys logs spare n stamp b;
    valid = l;
    placed = subst (IsPlaced index) (sym (before others n)) placed;
    more = more;
    hands = subst (λ ids. IsHandOver keys (length columns) found gained (later_ids index ids))
        (sym (before others n)) hands;
    relation = subst (IsRelation columns) (sym (along others n))
        (record { ascending = rises; fitting = fits_in });
    room = room;
  }

  pub change_leads : (others : List ℕ) (n : ℕ)
      → rows_after (store_of columns keys logs n others)
      (record { stamp = stamp; lost = found; gained = gained; after = index })
      ≡ changed (relation_at (store_of columns keys logs spare indexed) stamp) lost gained
  change_leads others n =
      along others n ∙ sym (set_is (only_in (rows_of live logs) lost ++ gained) (rows_of after new)
      rises to_rows from_rows)
      ∙ ap (λ rs. set_of row_cmp (only_in rs lost ++ gained))
      (sym (relation_from columns keys logs live spare stamp stamp k b (omega arith) l))

  pub change_lost : rows_along found stamp (all_entries keys logs) ≡ lost
  change_lost = along_is found stamp stamp keys logs k.histories stored.columns_fit (omega arith) l
      opens stored.started ∙ s.rows
