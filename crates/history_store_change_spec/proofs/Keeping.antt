-- The indexes of columns after a prepared change.
use Rattle.std.proofs.Common.{◌≡◌, ◌≢◌, ℕ, zero, suc, ◌+◌, ◌-◌, ◌<◌, ◌≤◌, List, [], ◌∷◌, All}
use Rattle.std.proofs.Common.{length, get_or, refl, sym, ap, ◌∙◌, subst, arith, inl, inr}
use Rattle.relations_spec.specs.Sets.{In, BeforeAll, Ascends}
use Rattle.relations_spec.specs.Spans.{Span}
use Rattle.prima_base.specs.declared.value.Value.{Value}
use Rattle.history_store_columns.specs.Log.{Log, Write, newest}
use Rattle.history_store_row_order.specs.Logs.{cells_of}
use Rattle.history_store_columns.specs.Keys.{IsOpen}
use Rattle.history_store_writes.specs.Writing.{put_row, put_rows, logs_handed}
use Rattle.history_store_row_order.specs.Handing.{handed}
use Rattle.history_store_change_spec.specs.Handing.{IsHandOver}
use Rattle.history_store_value_order.specs.ByValue.{Distinct, by_value, ids_handed, IsWith}
use Rattle.prima_base.specs.Columns.{Column}
use Rattle.history_store_change_spec.specs.Kept.{store_of, IsKept}
use Rattle.history_store_row_order.specs.Indexes.{later_ids}
use Rattle.history_store_change_spec.specs.Change.{PreparedChange, IsPrepared}
use Rattle.history_store_writes.specs.ValueIndexes.{Indexed, IsIndexed, IsIndexPrepared, IsGaining}
use Rattle.history_store_columns.proofs.Puts.{put_other}
use Rattle.history_store_change_spec.proofs.Applied.{handed_is, handed_distinct}
use Rattle.history_store_row_order.proofs.Cells.{length-cells_of}
use Rattle.history_store_change_spec.proofs.Rule.{length-unpaired}
use Rattle.history_store_change_spec.proofs.Installing.{rows_width, ids_then}

-- ---- what other ids have stays

value_other : (k j id : ℕ) (row : List Value) (stamp : ℕ) (columns : List (List Write)) → id ≢ j
    → newest j (get_or (put_row id row stamp columns) k []) ≡ newest j (get_or columns k [])
value_other k j id row stamp [] n = refl
value_other k j id [] stamp (c ∷ columns) n = refl
value_other zero j id (v ∷ row) stamp (c ∷ columns) n = put_other j id v stamp c n
value_other (suc k) j id (v ∷ row) stamp (c ∷ columns) n = value_other k j id row stamp columns n

values_other : (k j : ℕ) (ids : List ℕ) (rows : List (List Value)) (stamp : ℕ)
    (columns : List (List Write)) → (In j ids → ⊥)
    → newest j (get_or (put_rows ids rows stamp columns) k []) ≡ newest j (get_or columns k [])
values_other k j [] rows stamp columns n = refl
values_other k j (id ∷ ids) [] stamp columns n = refl
values_other k j (id ∷ ids) (row ∷ rows) stamp columns n =
    values_other k j ids rows stamp (put_row id row stamp columns) (λ i. n (inr i))
    ∙ value_other k j id row stamp columns (λ e. n (inl e))

same_before : (cells others : List Write) (i : ℕ) (ids : List ℕ) → newest i others ≡ newest i cells
    → ((q : ℕ) → In q ids → newest q others ≡ newest q cells) → BeforeAll (by_value cells) i ids
    → BeforeAll (by_value others) i ids
same_before cells others i [] e f b = tt
same_before cells others i (j ∷ ids) e f b = (
  let g = f j (inl refl) in rw (e, g) b.0,
  same_before cells others i ids e (λ q h. f q (inr h)) b.1,
)

same_order : (cells others : List Write) (ids : List ℕ)
    → ((q : ℕ) → In q ids → newest q others ≡ newest q cells) → Ascends (by_value cells) ids
    → Ascends (by_value others) ids
same_order cells others [] f a = tt
same_order cells others (i ∷ ids) f a = (
  same_before cells others i ids (f i (inl refl))
      (λ q h. f q (inr h)) a.0,
  same_order cells others ids (λ q h. f q (inr h)) a.1,
)

-- ---- the ids that are handed

pub ids_are_handed : (lost : List ℕ) (next : ℕ) (gained : List (List Value))
    → ids_handed lost next (length gained) ≡ handed lost next gained
ids_are_handed lost next [] = refl
ids_are_handed [] next (g ∷ gained) = ap (λ ids. next ∷ ids) (ids_are_handed [] (next + 1) gained)
ids_are_handed (id ∷ lost) next (g ∷ gained) =
    ap (λ ids. id ∷ ids) (ids_are_handed lost next gained)

module _ (keys : List Span) (width : ℕ) (live lost : List ℕ) (gained : List (List Value))
    (after : List ℕ) (w : IsHandOver keys width lost gained after)
    (are_open : (q : ℕ) → In q live → IsOpen keys q) (are_live : (q : ℕ) → IsOpen keys q
    → In q live) where
  pub handed_apart : Distinct (handed lost (length keys) gained)
  handed_apart = handed_distinct lost (length keys) gained w.distinct (λ q i. (w.lost_open q i).0)

  -- what stays is not handed
  pub not_handed : (q : ℕ) → In q live → (In q lost → ⊥) → In q (handed lost (length keys) gained)
      → ⊥
  not_handed q i n h = elim (handed_is q lost (length keys) gained h) [
    | inl j ↦ n j
    | inr r ↦ (let l = r.0 in let o = (are_open q i).0 in omega (arith, l, o))
  ]

  pub handed_below : (q n : ℕ) → n ≡ length keys + (length gained - length lost)
      → In q (handed lost (length keys) gained) → q < n
  handed_below q n e h = elim (handed_is q lost (length keys) gained h) [
    | inl j ↦ (let o = (w.lost_open q j).0 in omega (arith, o, e))
    | inr r ↦ (let b = r.1 in let l = length-unpaired gained lost in omega (arith, b, e, l))
  ]

  module _ (logs : List (List Write)) (stamp : ℕ) (x : Indexed)
      (i : IsIndexed logs live lost x) where
    pub later_rises : Ascends (by_value (get_or (logs_handed keys logs lost gained stamp) x.column
        [])) x.ids
    later_rises =
        same_order (get_or logs x.column []) (get_or (logs_handed keys logs lost gained stamp)
        x.column []) x.ids
        (λ q j. values_other x.column q (handed lost (length keys) gained) gained stamp logs
        (not_handed q (i.only q j).0 (i.only q j).1)) i.rises

    pub ready_later : (columns : List Log) (n : ℕ)
        → cells_of columns ≡ logs_handed keys logs lost gained stamp → All (λ c. c.ids ≡ n) columns
        → length keys ≤ n → IsIndexPrepared columns x
    ready_later columns n e a l =
        let within : x.column < length columns =
        subst (λ m. x.column < m) (sym (rows_width (handed lost (length keys) gained) gained
        stamp logs) ∙ ap length (sym e) ∙ length-cells_of columns) i.within in
        record {
          within = within;
          known = λ q d j. (let o = (are_open q (i.only q j).0).0 in let m = a x.column d within in
              omega (arith, o, m, l));
          rises = rw e later_rises;
        }

    pub gained_indexed : (y : Indexed) → y.column ≡ x.column
        → IsWith (get_or (logs_handed keys logs lost gained stamp) x.column [])
        (handed lost (length keys) gained) x.ids y.ids
        → IsIndexed (logs_handed keys logs lost gained stamp) after [] y
    gained_indexed y c g = record {
      within = subst (λ k. k < length (logs_handed keys logs lost gained stamp)) (sym c)
          (subst (λ n. x.column < n) (sym (rows_width (handed lost (length keys) gained) gained
          stamp logs)) i.within);
      rises = subst (λ k. Ascends (by_value (get_or (logs_handed keys logs lost gained stamp) k []))
          y.ids) (sym c) g.rises;
      only = λ q j. (
        elim (g.only q j) [
          | inl a ↦
              (let o = i.only q a in w.kept q (are_open q o.0) o.1)
          | inr a ↦ w.given q a
        ],
        λ n. n,
      );
      all = λ q j n. elim (w.each q j) [
        | inl a ↦ g.kept q (i.all q (are_live q a.0) a.1)
        | inr a ↦ g.given q a
      ];
    }

-- ---- the same from a prepared change

module _ {indexed : List ℕ} (columns : List Column) (keys : List Span) (logs : List (List Write))
    (live : List ℕ) (spare : ℕ) (k : IsKept columns keys logs live) (p : PreparedChange)
    (f : IsPrepared (store_of columns keys logs spare indexed) p) where
  hands : IsHandOver keys (length columns) p.lost p.gained (later_ids p.after live)
  hands = subst (λ ids. IsHandOver keys (length columns) p.lost p.gained ids)
      (ids_then columns keys logs live spare k p f) f.hands

  pub all_lost : (xs : List Indexed) → All (IsIndexed logs live []) xs
      → All (λ x. (q : ℕ) → In q p.lost → In q x.ids) xs
  all_lost xs a j d h q i = (a j d h).all q (k.stored.are_live q (hands.lost_open q i)) (λ n. n)

  pub all_ready : (then' : List Log) (n : ℕ) → cells_of then'
      ≡ logs_handed keys logs p.lost p.gained p.stamp → All (λ c. c.ids ≡ n) then' → length keys ≤ n
      → (xs : List Indexed) → All (IsIndexed logs live p.lost) xs → All (IsIndexPrepared then') xs
  all_ready then' n e a l xs i j d h = ready_later keys (length columns) live p.lost p.gained
      (later_ids p.after live) hands k.stored.are_open k.stored.are_live logs p.stamp
      (get_or xs j d) (i j d h) then' n e a l

  pub all_new : (then' : List Log) (n : ℕ) → n ≡ length keys + (length p.gained - length p.lost)
      → All (λ c. c.ids ≡ n) then' → (q j : ℕ) (d : Log)
      → In q (handed p.lost (length keys) p.gained) → j < length then' → q < (get_or then' j d).ids
  all_new then' n e a q j d i h = subst (λ m. q < m) (sym (a j d h))
      (handed_below keys (length columns) live p.lost p.gained (later_ids p.after live) hands
      k.stored.are_open k.stored.are_live q n e i)

  pub all_fresh : (xs : List Indexed) → All (IsIndexed logs live p.lost) xs
      → All (λ x. (q : ℕ) → In q (handed p.lost (length keys) p.gained) → In q x.ids → ⊥) xs
  all_fresh xs i j d h q a b = (let o = (i j d h).only q b in
      not_handed keys (length columns) live p.lost p.gained (later_ids p.after live) hands
      k.stored.are_open k.stored.are_live q o.0 o.1 a)

  pub all_apart : Distinct (handed p.lost (length keys) p.gained)
  all_apart = handed_apart keys (length columns) live p.lost p.gained (later_ids p.after live) hands
      k.stored.are_open k.stored.are_live

  pub all_indexed : (then' : List Log) (xs ys : List Indexed)
      → cells_of then' ≡ logs_handed keys logs p.lost p.gained p.stamp
      → All (IsIndexed logs live p.lost) xs → length ys ≡ length xs
      → ((j : ℕ) (d : Indexed) → j < length xs
      → IsGaining then' (handed p.lost (length keys) p.gained) (get_or xs j d) (get_or ys j d))
      → All (IsIndexed (logs_handed keys logs p.lost p.gained p.stamp) (later_ids p.after live)
      []) ys
  all_indexed then' xs ys e i n g j d h =
      let b : j < length xs = omega (arith, h, n) in
      let w = g j d b in
      gained_indexed keys (length columns) live p.lost p.gained (later_ids p.after live) hands
      k.stored.are_open k.stored.are_live logs p.stamp (get_or xs j d) (i j d b) (get_or ys j d)
      w.column
      (subst (λ cs. IsWith (get_or cs (get_or xs j d).column [])
      (handed p.lost (length keys) p.gained) (get_or xs j d).ids (get_or ys j d).ids) e
      w.with_them)
