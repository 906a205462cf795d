-- What ids show, in order, checks whether two ids show one row, and has the current rows in order.
use Rattle.std.proofs.Common.{◌≡◌, ℕ, ℤ, suc, ◌+◌, ◌-◌, ◌≤◌, ◌<◌, ◌==◌, Bool, true, false, cond}
use Rattle.std.proofs.Common.{not, List, [], ◌∷◌, ◌++◌, append-nil, map, length, get_or, drop, refl}
use Rattle.std.proofs.Common.{sym, ap, ◌∙◌, subst, arith, inl, inr}
use Rattle.std.specs.Prelude.{MatchBool, Option, Some, None, ◌&&◌, nat_lt, is_some, IfSome}
use Rattle.std.specs.List.{filter}
use Rattle.std.specs.List.Sorted.{IsPermutation, IsSorted}
use Rattle.std.specs.Ordering.{nat_cmp, int_cmp, ordering_then, is_eq, is_lt}
use Rattle.std.specs.declared.cmp.Ordering.{Ordering}
use Rattle.std.specs.declared.cmp.Ordering.TheVariants.{Less, Equal, Greater}
use Rattle.std.specs.declared.vec.Vec.{Vec}
use Rattle.std.specs.declared.alloc.Global.{Global}
use Rattle.std.specs.Cmp.Derive.Mapped.{lex_map}
use Rattle.std.specs.Cmp.Lexicographic.{slice_cmp}
use Rattle.std.proofs.lemmas.Bool.Decides.{nat_tests}
use Rattle.std.proofs.lemmas.List.Sorted.{IsPermutation-map}
use Rattle.relations_spec.specs.Sets.{In, Ascends, Same}
use Rattle.relations_spec.specs.Spans.{Span, span, covers, forever}
use Rattle.relations_spec.proofs.SetLaws.{from_map}
use Rattle.prima_base.specs.Columns.{Column}
use Rattle.prima_base.specs.Order.{value_cmp, row_cmp, shown}
use Rattle.prima_base.specs.OrderLaws.{row_exact}
use Rattle.prima_base.specs.declared.value.ColType.{ColType}
use Rattle.prima_base.specs.declared.value.Val.{Val}
use Rattle.prima_base.specs.declared.value.Value.{Value}
use Rattle.history_store_spec.specs.Store.{Cell, shown_at, row_at}
use Rattle.history_store.specs.Change.{ids_from, rows_along}
use Rattle.history_store.specs.Restoring.{IsInOrder}
use Rattle.coalesce.proofs.Joined.{NotAfter, Ordered}
use Rattle.command_codec_spec.proofs.Correctness.{by_test}
use Rattle.store_image_spec.specs.ItemChecks.{are_apart}
use Rattle.store_image_spec.proofs.Apartness.{apart_at_starts, apart_always}
use Rattle.store_image_spec.proofs.Filling.{due_is, fills_one}
use Rattle.store_image_spec.proofs.Checking.{period_lasts}
use Rattle.store_image_spec.proofs.ReadParts.{Run, ColumnsRead}
use Rattle.history_store.specs.declared.restoration.Cell.{Cell as ReadCell}
use Rattle.store_image_rows.specs.Cells.{cell_seen, cells_seen}
use Rattle.store_image_rows.specs.Stretches.{RowStretch, bare_from, all_merged}
use Rattle.store_image_rows.specs.declared.order.Showing.{Showing}
use Rattle.store_image_rows.specs.Showing.{stretch_at, number_alone, alone, as_row, stretch_in}
use Rattle.store_image_rows.specs.Showing.{showing_cmp}
use Rattle.store_image_rows.specs.Showing.{none_clash as none_showing_clash, goes_on, ids_on}
use Rattle.store_image_rows.specs.Showing.{IsShowingChecked}
use Rattle.store_image_rows.specs.Showing.{AreOrdered}
use Rattle.store_image_rows.proofs.FilledKeys.{Fill}
use Rattle.store_image_rows.proofs.ListPlaces.{dropped_here}
use Rattle.store_image_rows.proofs.MergedColumns.{Sound, ShowEach, shows_each, run_filled}
use Rattle.store_image_rows.proofs.MergedColumns.{all_pieces}
use Rattle.store_image_rows.proofs.MergedColumns.{all_filled}
use Rattle.store_image_rows.proofs.ClashingRows.{entry_in, clash, none_clash, ApartAlways}
use Rattle.store_image_rows.proofs.ClashingRows.{all_distinct}
use Rattle.store_image_rows.proofs.ClashingRows.{two_rows, one_row}
use Rattle.store_image_rows.proofs.CurrentRows.{last_moment, on, ids_in, keys_end, still_on}
use Rattle.store_image_rows.proofs.CurrentRows.{same_ids}
use Rattle.store_image_rows.proofs.CurrentRows.{rows_rise}

-- what an order of ids tells
pub record BothKnown (keys : List Span) (cells : List (List Cell)) (ids : List ℕ) : Type 0 where
  pub apart : are_apart keys cells ≡ true
  pub order : IsInOrder keys cells ids

-- the ends and the ids do not matter
without_ends : (r s e : Ordering) → is_lt (ordering_then r (ordering_then s e)) ≡ false
    → is_lt (ordering_then r s) ≡ false
without_ends Less s e h = h
without_ends Equal Less e h = h
without_ends Equal Equal e h = refl
without_ends Equal Greater e h = h
without_ends Greater s e h = h

module _ {T : Type 0} (values : T → List Value) (cmp : T → T → Ordering) (same : (x y : T)
    → cmp x y ≡ row_cmp (values x) (values y)) where
  none_same : (showing : List (Showing T)) → none_showing_clash cmp showing
      ≡ none_clash (map entry_in (map (stretch_at values) showing))
  none_same [] = refl
  none_same (s ∷ []) = refl
  none_same (s ∷ (t ∷ rest)) =
      ap (λ o. not ((nat_lt s.start t.end && nat_lt t.start s.end) && is_eq o)
      && none_showing_clash cmp (t ∷ rest)) (same s.item t.item)
      ∙ ap (λ b. not (clash (entry_in (stretch_at values s)) (entry_in (stretch_at values t))) && b)
      (none_same (t ∷ rest))

  ids_same : (showing : List (Showing T))
      → ids_on showing ≡ ids_in (map (stretch_at values) showing)
  ids_same [] = refl
  ids_same (s ∷ rest) = step (goes_on s) (ids_same rest)
    where
      step : (b : Bool) → ids_on rest ≡ ids_in (map (stretch_at values) rest)
          → (cond b (s.id ∷ []) []) ++ ids_on rest
          ≡ map (λ (p : RowStretch). p.id) (cond b
          (stretch_at values s ∷ filter on (map (stretch_at values) rest))
          (filter on (map (stretch_at values) rest)))
      step true e = ap (λ l. s.id ∷ l) e
      step false e = e

  not_after : (s t : Showing T) → is_lt (showing_cmp cmp t s) ≡ false
      → NotAfter row_cmp row_exact (entry_in (stretch_at values s)) (entry_in (stretch_at values t))
  not_after s t h =
      step (row_cmp (values t.item) (values s.item)) refl
      (subst (λ r. is_lt (ordering_then r (nat_cmp t.start s.start)) ≡ false) (same t.item s.item)
      (without_ends (cmp t.item s.item) (nat_cmp t.start s.start)
      (ordering_then (nat_cmp t.end s.end) (nat_cmp t.id s.id)) h))
    where
      step : (r : Ordering) → row_cmp (values t.item) (values s.item) ≡ r
          → is_lt (ordering_then r (nat_cmp t.start s.start)) ≡ false
          → NotAfter row_cmp row_exact (entry_in (stretch_at values s))
          (entry_in (stretch_at values t))
      step Less q k = absurd (cc)
      step Equal q k = inr (
        sym (row_exact.same (values t.item) (values s.item) q),
        grind (arith, nat_tests),
      )
      step Greater q k = inl (row_exact.turn (values t.item) (values s.item) q)

  in_order : (showing : List (Showing T)) → IsSorted (showing_cmp cmp) showing
      → Ordered row_cmp row_exact (map entry_in (map (stretch_at values) showing))
  in_order [] f = tt
  in_order (s ∷ []) f = tt
  in_order (s ∷ (t ∷ rest)) f = (
    not_after s t (f 0 s (omega arith) (omega arith)),
    in_order (t ∷ rest) (λ k d z kl.
        let e : suc k + 1 ≡ suc (k + 1) = omega arith in
        subst (λ m. is_lt (showing_cmp cmp (get_or (s ∷ (t ∷ rest)) m d) (get_or (t ∷ rest) k d))
        ≡ false) e (f (suc k) d (omega arith) (omega (arith, kl)))),
  )

  -- of pieces that fill the keys and show what some columns show
  module _ (keys : List Span) (told : List (List Cell)) (pieces : List RowStretch)
      (fill : Fill 0 keys pieces) (sound : Sound told pieces) (ends : (j : ℕ) → j < length keys
      → (get_or keys j (span 0 0)).end ≤ forever)
      (showing : List (Showing T)) (is : map (stretch_at values) showing ≡ pieces) where
    moved_pieces : (v : Option (Vec ℕ Global)) (j : IsShowingChecked cmp showing v)
        → IsPermutation pieces (map (stretch_at values) j.sorted)
    moved_pieces v j = subst (λ l. IsPermutation l (map (stretch_at values) j.sorted)) is
        (IsPermutation-map (stretch_at values) showing j.sorted j.moved)

    pub told_apart : (ids : Vec ℕ Global) → IsShowingChecked cmp showing (Some ids)
        → ApartAlways keys told
    told_apart ids j =
        two_rows keys told pieces fill sound (map (stretch_at values) j.sorted)
        (moved_pieces (Some ids) j) (in_order j.sorted j.rises)
        (sym (none_same j.sorted) ∙ j.verdict.0)

    pub told_one : IsShowingChecked cmp showing None → ApartAlways keys told → ⊥
    told_one j a = one_row keys told pieces fill sound (map (stretch_at values) j.sorted)
        (moved_pieces None j) (in_order j.sorted j.rises) (sym (none_same j.sorted) ∙ j.verdict) a

    pub told_order : (ids : Vec ℕ Global) → IsShowingChecked cmp showing (Some ids)
        → (cells : List (List Cell))
        → ((p q : RowStretch) → In p pieces → In q pieces → on p ≡ true → on q ≡ true
        → row_cmp p.row q.row ≡ Less → row_cmp (row_at p.id last_moment cells)
        (row_at q.id last_moment cells) ≡ Less) → IsInOrder keys cells ids.items
    told_order ids j cells grow =
        let sorted = map (stretch_at values) j.sorted in
        let moved = moved_pieces (Some ids) j in
        let rises = in_order j.sorted j.rises in
        let are : ids_in sorted ≡ ids.items = sym (ids_same j.sorted) ∙ sym j.verdict.1 in
        record {
          same = subst (λ l. Same l (ids_from 0 last_moment keys)) are
              (same_ids keys pieces fill ends sorted moved);
          rises = subst (λ l. Ascends row_cmp (rows_along l last_moment cells)) are
              (rows_rise keys pieces fill ends sorted moved cells grow rises
              (all_distinct keys told pieces fill sound sorted moved rises
              (sym (none_same j.sorted) ∙ j.verdict.0)));
        }

-- ---- the first column alone

then_equal : (o : Ordering) → o ≡ ordering_then o Equal
then_equal Less = refl
then_equal Equal = refl
then_equal Greater = refl

first_fill : (last : Option ℕ) (type : ColType) (id : ℕ) (keys : List Span) (cells : List Cell)
    → Run last type id keys cells → Fill id keys (map stretch_in cells)
first_fill last type id [] [] r = tt
first_fill last type id [] (c ∷ cells) r = absurd r
first_fill last type id (left ∷ keys) [] r = absurd r
first_fill last type id (left ∷ keys) (c ∷ cells) r =
    let due = due_is last type id left c r.0.1 in (
      record {
        own = due.own;
        start = due.start;
        lasts = period_lasts last c.period due.period;
        within = due.within;
      },
      rest (λ x. first_fill last type (id + 1) keys cells x)
          (λ x. first_fill last type id (span c.period.end left.end ∷ keys) cells x)
          (c.period.end == left.end) r.1,
    )
  where
    rest : (Run last type (id + 1) keys cells → Fill (id + 1) keys (map stretch_in cells))
        → (Run last type id (span c.period.end left.end ∷ keys) cells
        → Fill id (span c.period.end left.end ∷ keys) (map stretch_in cells))
        → (b : Bool) → MatchBool b (Run last type (id + 1) keys cells)
        (Run last type id (span c.period.end left.end ∷ keys) cells)
        → MatchBool b (Fill (id + 1) keys (map stretch_in cells))
        (Fill id (span c.period.end left.end ∷ keys) (map stretch_in cells))
    rest f g true x = f x
    rest f g false x = g x

-- a lesser value is of a lesser row
lesser : (v w : Value) (xs ys : List Value) → row_cmp (v ∷ []) (w ∷ []) ≡ Less
    → row_cmp (v ∷ xs) (w ∷ ys) ≡ Less
lesser v w xs ys e = step (value_cmp v w) refl e
  where
    step : (o : Ordering) → value_cmp v w ≡ o → ordering_then o Equal ≡ Less
        → row_cmp (v ∷ xs) (w ∷ ys) ≡ Less
    step Less q f = ap (λ o. ordering_then o (row_cmp xs ys)) q
    step Equal q f = absurd (cc)
    step Greater q f = absurd (cc)

module _ (last : Option ℕ) (keys : List Span) (type : ColType) (first : List Cell)
    (rest : List (List Cell)) (run : Run last type 0 keys first) where
  each : ShowEach first first
  each = shows_each keys first (run_filled last type keys first run)

  first_sound : Sound (first ∷ []) (map stretch_in first)
  first_sound p i m k =
      let c = from_map stretch_in p first i in
      let shows = each c.0 c.1 m (subst (λ (x : RowStretch). covers x.period m ≡ true) (sym c.2)
      k) in
      subst (λ (x : RowStretch). x.row ≡ row_at x.id m (first ∷ [])) c.2
      (sym (append-nil (shown_at c.0.id m first) ∙ shows))

  first_apart : ApartAlways keys (first ∷ []) → ApartAlways keys (first ∷ rest)
  first_apart a m i j hi hj e =
      let filled = (run_filled last type keys first run).filled in
      let v = fills_one (get_or keys i (span 0 0)) i first (filled i hi.0) m hi.1 in
      let w = fills_one (get_or keys j (span 0 0)) j first (filled j hj.0) m hj.1 in
      let rows : v.0 ∷ row_at i m rest ≡ w.0 ∷ row_at j m rest =
      sym (ap (λ l. l ++ row_at i m rest) v.1) ∙ e ∙ ap (λ l. l ++ row_at j m rest) w.1 in
      let one : v.0 ≡ w.0 = cc in
      a m i j hi hj (append-nil (shown_at i m first) ∙ v.1 ∙ ap (λ x. x ∷ []) one
      ∙ sym (append-nil (shown_at j m first) ∙ w.1))

  row_is : (p : RowStretch) → In p (map stretch_in first) → covers p.period last_moment ≡ true
      → (v : Value) × (p.row ≡ v ∷ []) × (row_at p.id last_moment (first ∷ rest) ≡ v
      ∷ row_at p.id last_moment rest)
  row_is p i k =
      let c = from_map stretch_in p first i in
      let shows = each c.0 c.1 last_moment (subst
      (λ (x : RowStretch). covers x.period last_moment ≡ true) (sym c.2) k) in (
        c.0.value,
        ap (λ (x : RowStretch). x.row) (sym c.2),
        subst (λ (x : RowStretch). row_at x.id last_moment (first ∷ rest) ≡ c.0.value
            ∷ row_at x.id last_moment rest) c.2
            (ap (λ l. l ++ row_at c.0.id last_moment rest) shows),
      )

  first_grows : (p q : RowStretch) → In p (map stretch_in first) → In q (map stretch_in first)
      → on p ≡ true → on q ≡ true → row_cmp p.row q.row ≡ Less
      → row_cmp (row_at p.id last_moment (first ∷ rest)) (row_at q.id last_moment (first ∷ rest))
      ≡ Less
  first_grows p q i j a b e =
      let fill = first_fill last type 0 keys first run in
      let ends = keys_end last type 0 keys first run in
      let v = row_is p i (still_on keys (map stretch_in first) fill ends p i a) in
      let w = row_is q j (still_on keys (map stretch_in first) fill ends q j b) in
      ap (λ r. row_cmp r (row_at q.id last_moment (first ∷ rest))) v.2
      ∙ ap (row_cmp (v.0 ∷ row_at p.id last_moment rest)) w.2
      ∙ lesser v.0 w.0 (row_at p.id last_moment rest) (row_at q.id last_moment rest)
      (ap (λ r. row_cmp r (w.0 ∷ [])) (sym v.1) ∙ ap (row_cmp p.row) (sym w.1) ∙ e)

  module _ {T : Type 0} (values : T → List Value) (cmp : T → T → Ordering) (same : (x y : T)
      → cmp x y ≡ row_cmp (values x) (values y)) where
    pub first_told : (showing : List (Showing T)) (ids : Vec ℕ Global)
        → map (stretch_at values) showing ≡ map stretch_in first
        → IsShowingChecked cmp showing (Some ids)
        → BothKnown keys (first ∷ rest) ids.items
    first_told showing ids is j =
        let fill = first_fill last type 0 keys first run in
        let ends = keys_end last type 0 keys first run in
        record {
          apart = apart_at_starts keys (first ∷ rest)
              (first_apart (told_apart values cmp same keys (first ∷ []) (map stretch_in first) fill
              first_sound ends showing is ids j));
          order = told_order values cmp same keys (first ∷ [])
              (map stretch_in first) fill first_sound
              ends showing is ids j (first ∷ rest) first_grows;
        }

module _ {T : Type 0} (values : T → List Value) (cmp : T → T → Ordering) (same : (x y : T)
    → cmp x y ≡ row_cmp (values x) (values y)) where
  column_told : (last : Option ℕ) (keys : List Span) (kinds : List Column) (first : List Cell)
      (rest : List (List Cell)) → ColumnsRead last keys kinds (first ∷ rest)
      → (showing : List (Showing T)) (ids : Vec ℕ Global)
      → map (stretch_at values) showing ≡ map stretch_in first
      → IsShowingChecked cmp showing (Some ids)
      → BothKnown keys (first ∷ rest) ids.items
  column_told last keys [] first rest r showing ids is j =
      absurd (let e : first ∷ rest ≡ [] = r in cc)
  column_told last keys (k ∷ kinds) first rest r showing ids is j =
      first_told last keys k.1 first rest r.0.1 values cmp same showing ids is j

  -- the column that stands first
  pub told : (last : Option ℕ) (keys : List Span) (kinds : List Column)
      (cells : List (Vec ReadCell Global)) → ColumnsRead last keys kinds (cells_seen cells)
      → (first : Vec ReadCell Global) → 0 < length cells → first ≡ get_or cells 0 first
      → (showing : List (Showing T)) (ids : Vec ℕ Global)
      → map (stretch_at values) showing ≡ map stretch_in (map cell_seen first.items)
      → IsShowingChecked cmp showing (Some ids) → BothKnown keys (cells_seen cells) ids.items
  told last keys kinds cells r first some at showing ids is j =
      let seen : Vec ReadCell Global → List Cell = λ column. map cell_seen column.items in
      let here : cells_seen cells ≡ seen first ∷ drop 1 (cells_seen cells) =
      dropped_here seen cells 0 first some at in
      subst (λ l. BothKnown keys l ids.items) (sym here)
      (column_told last keys kinds (seen first) (drop 1 (cells_seen cells))
      (subst (λ l. ColumnsRead last keys kinds l) here r) showing ids is j)

pub some_seen : (cells : List (Vec ReadCell Global)) → 0 < length cells
    → 1 ≤ length (cells_seen cells)
some_seen [] h = absurd (omega (arith, h))
some_seen (column ∷ cells) h = omega arith

pub numbers_same : (x y : ℤ) → int_cmp x y ≡ row_cmp (number_alone x) (number_alone y)
numbers_same x y = then_equal (int_cmp x y)

pub values_same : (x y : Val) → value_cmp (shown x) (shown y) ≡ row_cmp (alone x) (alone y)
values_same x y = then_equal (value_cmp (shown x) (shown y))

-- ---- whole rows

abbrev pub vals_cmp : Vec Val Global → Vec Val Global → Ordering
vals_cmp x y = slice_cmp (λ v w. value_cmp (shown v) (shown w)) x.items y.items

module _ (last : Option ℕ) (keys : List Span) (kinds : List Column) (cells : List (List Cell))
    (some : 1 ≤ length cells) (read : ColumnsRead last keys kinds cells)
    (showing : List (Showing (Vec Val Global)))
    (is : map (stretch_at as_row) showing ≡ all_merged (bare_from 0 keys) cells) where
  abbrev pieces : List RowStretch
  pieces = all_merged (bare_from 0 keys) cells

  both : Fill 0 keys pieces × Sound cells pieces
  both = all_pieces last keys kinds cells some read

  same_rows : (x y : Vec Val Global) → vals_cmp x y ≡ row_cmp (as_row x) (as_row y)
  same_rows x y = sym (lex_map shown value_cmp x.items y.items)

  ends : (j : ℕ) → j < length keys → (get_or keys j (span 0 0)).end ≤ forever
  ends = first_run kinds cells some read
    where
      first_run : (kinds : List Column) (cells : List (List Cell)) → 1 ≤ length cells
          → ColumnsRead last keys kinds cells → (j : ℕ) → j < length keys
          → (get_or keys j (span 0 0)).end ≤ forever
      first_run [] cells some r = absurd (let e = ap length r in omega (arith, e, some))
      first_run (k ∷ kinds) [] some r = absurd r
      first_run (k ∷ kinds) (column ∷ cells) some r = keys_end last k.1 0 keys column r.0.1

  grows : (p q : RowStretch) → In p pieces → In q pieces → on p ≡ true → on q ≡ true
      → row_cmp p.row q.row ≡ Less → row_cmp (row_at p.id last_moment cells)
      (row_at q.id last_moment cells) ≡ Less
  grows p q i j a b e =
      ap (λ r. row_cmp r (row_at q.id last_moment cells))
      (sym (both.1 p i last_moment (still_on keys pieces both.0 ends p i a)))
      ∙ ap (row_cmp p.row) (sym (both.1 q j last_moment (still_on keys pieces both.0 ends q j b)))
      ∙ e

  pub rows_told_apart : (verdict : Option (Vec ℕ Global))
      → IsShowingChecked vals_cmp showing verdict
      → is_some verdict ≡ are_apart keys cells
  rows_told_apart (Some ids) j = sym (apart_at_starts keys cells
      (told_apart as_row vals_cmp same_rows keys cells pieces both.0 both.1 ends showing is ids j))
  rows_told_apart None j =
      by_test (are_apart keys cells) (λ a. absurd
      (told_one as_row vals_cmp same_rows keys cells pieces both.0 both.1 ends showing is j
      (apart_always keys cells (all_filled last keys kinds cells read) some a))) (λ a. sym a)

  pub rows_told_order : (verdict : Option (Vec ℕ Global))
      → IsShowingChecked vals_cmp showing verdict
      → IfSome verdict (λ ids. AreOrdered keys cells ids.items)
  rows_told_order (Some ids) j = λ have. told_order as_row vals_cmp same_rows keys cells pieces
      both.0 both.1 ends showing is ids j cells grows
  rows_told_order None j = tt
