-- The values of a table are of the types of its columns.
use Rattle.std.proofs.Common.{◌≡◌, ℕ, ◌+◌, ◌&&◌, ◌==◌, Bool, true, false, List, [], ◌∷◌, ◌++◌}
use Rattle.std.proofs.Common.{length, get_or, refl, sym, ap, ◌∙◌, subst, arith, if◌then◌else◌, inl}
use Rattle.std.proofs.Common.{inr}
use Rattle.std.specs.Prelude.{MatchBool}
use Rattle.std.proofs.lemmas.Bool.Decides.{nat_tests}
use Rattle.relations_spec.specs.Sets.{In}
use Rattle.relations_spec.specs.Spans.{Span, covers}
use Rattle.prima_base.specs.declared.value.Value.{Value}
use Rattle.prima_base.specs.declared.value.ColType.{ColType}
use Rattle.history_store_columns.specs.Log.{Write}
use Rattle.history_store_writes.specs.Logs.{types_of, AreOf, AreRowsOf}
use Rattle.history_store_spec.specs.Store.{Cell, shown_at, row_at, IsFilled, Holds, IsStore}
use Rattle.prima_base.specs.Columns.{Column, has_type, IsRow}
use Rattle.history_store_columns.specs.Keys.{no_span}
use Rattle.history_store_change_spec.specs.Kept.{store_of, IsKept}
use Rattle.history_store_row_order.specs.Handing.{handed}
use Rattle.history_store_row_order.specs.Rows.{AllWidth}
use Rattle.history_store_change_spec.specs.Handing.{IsHandOver, Pairs}
use Rattle.history_store_row_order.specs.Indexes.{later_ids}
use Rattle.history_store_change_spec.specs.Change.{PreparedChange, IsPrepared}
use Rattle.history_store_change_spec.specs.Restoring.{store_with, AreCellsOf, AreEntriesOf}
use Rattle.history_store_change_spec.proofs.Applied.{rows_same, pairs_in}
use Rattle.history_store_change_spec.proofs.Installing.{prepared_kept, ids_then}
use Rattle.history_store_change_spec.proofs.Keeping.{all_apart}

-- ---- rows

of_row : (columns : List Column) (row : List Value) → IsRow columns row
    → AreOf (types_of columns) row
of_row columns [] r = tt
of_row [] (v ∷ row) r = absurd r
of_row (c ∷ columns) (v ∷ row) r = (r.0, of_row columns row r.1)

of_rows : (columns : List Column) (lost : List ℕ) (next : ℕ) (gained : List (List Value))
    → ((q : ℕ) (r : List Value) → Pairs q r (handed lost next gained) gained → IsRow columns r)
    → AreRowsOf (types_of columns) gained
of_rows columns lost next [] f = tt
of_rows columns [] next (row ∷ gained) f = (
  of_row columns row (f next row (inl (refl, refl))),
  of_rows columns [] (next + 1) gained (λ q r p. f q r (inr p)),
)
of_rows columns (id ∷ lost) next (row ∷ gained) f = (
  of_row columns row (f id row (inl (refl, refl))),
  of_rows columns lost next gained (λ q r p. f q r (inr p)),
)

-- what a prepared change gains are rows of the columns, since the relation after it has them
module _ {indexed : List ℕ} (columns : List Column) (keys : List Span) (logs : List (List Write))
    (live : List ℕ) (spare : ℕ) (k : IsKept columns keys logs live) (p : PreparedChange)
    (f : IsPrepared (store_of columns keys logs spare indexed) p) where
  hands : IsHandOver keys (length columns) p.lost p.gained (later_ids p.after live)
  hands = subst (λ ids. IsHandOver keys (length columns) p.lost p.gained ids)
      (ids_then columns keys logs live spare k p f) f.hands

  gained_fits : (q : ℕ) (r : List Value) → Pairs q r (handed p.lost (length keys) p.gained) p.gained
      → IsRow columns r
  gained_fits q r h =
      let i = hands.given q (pairs_in q r (handed p.lost (length keys) p.gained) p.gained h) in
      subst (IsRow columns)
      (rows_same q r (handed p.lost (length keys) p.gained) p.gained p.stamp logs
      (all_apart columns keys logs live spare k p f)
      (subst (λ n. AllWidth n p.gained) (sym k.width) hands.wide) h)
      ((prepared_kept columns keys logs live spare k p f).fitting q i)

  pub gained_typed : AreRowsOf (types_of columns) p.gained
  gained_typed = of_rows columns p.lost (length keys) p.gained gained_fits

-- ---- entries

in_shown : (id m : ℕ) (cells : List Cell) (c : Cell) → In c cells → c.id ≡ id
    → covers c.period m ≡ true → In c.value (shown_at id m cells)
in_shown id m [] c i q t = absurd i
in_shown id m (d ∷ cells) c (inl e) q t =
    let a : d.id ≡ id = ap (λ (x : Cell). x.id) e ∙ q in
    let b : covers d.period m ≡ true = ap (λ (x : Cell). covers x.period m) e ∙ t in
    let n : (d.id == id) ≡ true = grind (arith, nat_tests) in
    rw (n, b) (inl (ap (λ (x : Cell). x.value) e))
in_shown id m (d ∷ cells) c (inr i) q t =
    let r = in_shown id m cells c i q t in
    elim (d.id == id && covers d.period m) as (λ b.
    In c.value (if b then d.value ∷ shown_at id m cells else shown_at id m cells))
    [ true ↦ inr r | false ↦ r ]

cells_typed : (kind : ColType) (cells : List Cell)
    → ((c : Cell) → In c cells → has_type kind c.value ≡ true) → AreCellsOf kind cells
cells_typed kind [] f = tt
cells_typed kind (c ∷ cells) f = (f c (inl refl), cells_typed kind cells (λ d i. f d (inr i)))

module _ (keys : List Span) where
  -- a filled column shows one value of an id at each moment of its key
  first_value : (column : Column) (columns : List Column) (cells : List Cell)
      (lists : List (List Cell)) (f : IsFilled keys cells) (m id : ℕ) → Holds keys id m
      → IsRow (column ∷ columns) (row_at id m (cells ∷ lists))
      → (v : Value) × (shown_at id m cells ≡ v ∷ []) × (has_type column.1 v ≡ true)
      × IsRow columns (row_at id m lists)
  first_value column columns cells lists f m id h r =
      let s : (v : Value) × (shown_at id m cells ≡ v ∷ []) =
      subst (λ b. MatchBool b ((v : Value) × (shown_at id m cells ≡ v ∷ []))
      (shown_at id m cells ≡ [])) h.1 (f.filled id h.0 m) in
      let u : IsRow (column ∷ columns) (s.0 ∷ row_at id m lists) =
      subst (λ (vs : List Value). IsRow (column ∷ columns) (vs ++ row_at id m lists)) s.1 r in
      (s.0, s.1, u.0, u.1)

  -- the key of an entry has the moment at which it starts
  held : (cells : List Cell) (f : IsFilled keys cells) (c : Cell) → In c cells
      → covers c.period c.period.start ≡ true → Holds keys c.id c.period.start
  held cells f c i t = (
    f.known c i,
    by_case (covers (get_or keys c.id no_span) c.period.start)
        refl,
  )
    where
      by_case : (b : Bool) → covers (get_or keys c.id no_span) c.period.start ≡ b
          → covers (get_or keys c.id no_span) c.period.start ≡ true
      by_case true e = e
      by_case false e =
          let none : shown_at c.id c.period.start cells ≡ [] =
          subst (λ b. MatchBool b ((v : Value) × (shown_at c.id c.period.start cells ≡ v ∷ []))
          (shown_at c.id c.period.start cells ≡ [])) e
          (f.filled c.id (f.known c i) c.period.start) in
          absurd (subst (In c.value) none (in_shown c.id c.period.start cells c i refl t))

  one_value : (v w : Value) → In v (w ∷ []) → w ≡ v
  one_value v w (inl e) = e
  one_value v w (inr i) = absurd i

  of_columns : (columns : List Column) (lists : List (List Cell))
      → ((cells : List Cell) → In cells lists → IsFilled keys cells)
      → ((m id : ℕ) → Holds keys id m → IsRow columns (row_at id m lists))
      → length lists ≡ length columns → AreEntriesOf (types_of columns) lists
  of_columns columns [] f g e = tt
  of_columns [] (cells ∷ lists) f g e = absurd (omega (arith, e))
  of_columns (column ∷ columns) (cells ∷ lists) f g e =
      let full = f cells (inl refl) in (
        cells_typed column.1 cells (λ c i.
            let l = (full.lasting c i).0 in
            let t : covers c.period c.period.start ≡ true = grind (arith, nat_tests) in
            let h = held cells full c i t in
            let r = first_value column columns cells lists full c.period.start c.id h
            (g c.period.start c.id h) in
            let w = one_value c.value r.0 (subst (In c.value) r.1
            (in_shown c.id c.period.start cells c i refl t)) in
            subst (λ v. has_type column.1 v ≡ true) w r.2),
        of_columns columns lists (λ x i. f x (inr i))
            (λ m id h. (first_value column columns cells lists full m id h (g m id h)).3)
            (omega (arith, e)),
      )

pub entries_typed : (columns : List Column) (keys : List Span) (lists : List (List Cell))
    → IsStore (store_with columns keys lists) → AreEntriesOf (types_of columns) lists
entries_typed columns keys lists s = of_columns keys columns lists s.filled s.fitting s.width
