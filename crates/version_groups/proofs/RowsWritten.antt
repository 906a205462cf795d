-- What lost and gained rows write into a column: the sizes of a past and a store say the same of
-- it.
use Rattle.std.proofs.Common.{◌≡◌, ◌<◌, ◌+◌, ℕ, suc, zero, Bool, true, false, cond, List, [], ◌∷◌}
use Rattle.std.proofs.Common.{length, map, get_or, refl, sym, ap, subst, ◌∙◌, arith, inl, inr}
use Rattle.std.proofs.Common.{if◌then◌else◌}
use Rattle.std.specs.Prelude.{not}
use Rattle.std.proofs.lemmas.List.{length-map}
use Rattle.relations_spec.specs.Sets.{In, has}
use Rattle.prima_base.specs.declared.value.Value.{Value}
use Rattle.prima_base.specs.Order.{row_cmp, value_eq}
use Rattle.prima_base.specs.Columns.{Column, IsRow}
use Rattle.history_store.specs.Store.{Cell, weight}
use Rattle.history_store.specs.Handing.{AllWidth, at_column, is_same, weigh, written}
use Rattle.smo_ops_spec.specs.Effects.{gained_rows}
use Rattle.smo_ops_spec.specs.OneRow.{Relation}
use Rattle.smo_ops_spec.specs.Sizes.{Written, none_written, one_written, value_bytes, if_differs}
use Rattle.smo_ops_spec.specs.Sizes.{both_written, with_written, row_written, row_replaced}
use Rattle.smo_ops_spec.specs.Sizes.{rows_written}
use Rattle.history_store_columns.proofs.Weights.{one_each}
use Rattle.version_groups.specs.Sizes.{IsWritten, AreWritten}

-- ---- rows as wide as the columns

-- rows of these columns are as wide
pub rows_wide : (columns : List Column) (rows : Relation)
    → ((row : List Value) → In row rows → IsRow columns row) → AllWidth (length columns) rows
rows_wide columns [] h = tt
rows_wide columns (r ∷ rows) h = (
  row_wide columns r (h r (inl refl)),
  rows_wide columns rows (λ s i. h s (inr i)),
)
  where
    row_wide : (columns : List Column) (row : List Value) → IsRow columns row
        → length row ≡ length columns
    row_wide [] [] h = refl
    row_wide [] (v ∷ row) h = absurd h
    row_wide (c ∷ columns) [] h = absurd h
    row_wide (c ∷ columns) (v ∷ row) h = ap suc (row_wide columns row h.1)

-- and so are those of them that another relation does not have
pub gained_wide : (width : ℕ) (old new : Relation) → AllWidth width new
    → AllWidth width (gained_rows old new)
gained_wide width old [] w = tt
gained_wide width old (r ∷ new) w = step (gained_wide width old new w.1) (not (has row_cmp r old))
  where
    step : AllWidth width (gained_rows old new) → (b : Bool)
        → AllWidth width (cond b (r ∷ gained_rows old new) (gained_rows old new))
    step rest true = (w.0, rest)
    step rest false = rest

-- ---- columns stay as many

with_count : (columns more : List Written) → length (with_written columns more) ≡ length columns
with_count [] more = refl
with_count (w ∷ columns) [] = refl
with_count (w ∷ columns) (m ∷ more) = ap suc (with_count columns more)

pub rows_count : (lost gained : Relation) (columns : List Written)
    → length (rows_written lost gained columns) ≡ length columns
rows_count lost [] columns = refl
rows_count [] (g ∷ gained) columns = rows_count [] gained (with_written columns (row_written g))
    ∙ with_count columns (row_written g)
rows_count (l ∷ lost) (g ∷ gained) columns = rows_count lost gained
    (with_written columns (row_replaced l g)) ∙ with_count columns (row_replaced l g)

-- ---- by a number that is counted of what is written, and the weight of a value that it stands for

module _ (f : Value → ℕ) (of : Written → ℕ) (both : (a b : Written)
    → of (both_written a b) ≡ of a + of b) (none : of none_written ≡ 0) (one : (v : Value)
    → of (one_written v) ≡ f v) where
  with_at : (k : ℕ) (columns more : List Written) → k < length columns
      → length more ≡ length columns
      → of (get_or (with_written columns more) k none_written)
      ≡ of (get_or columns k none_written) + of (get_or more k none_written)
  with_at k [] more l w = absurd (omega (arith, l))
  with_at k (c ∷ columns) [] l w = absurd (omega (arith, w))
  with_at zero (c ∷ columns) (m ∷ more) l w = both c m
  with_at (suc k) (c ∷ columns) (m ∷ more) l w =
      with_at k columns more (omega (arith, l)) (omega (arith, w))

  row_at : (k : ℕ) (row : List Value) → k < length row
      → of (get_or (row_written row) k none_written) ≡ weigh f (at_column k row)
  row_at k [] l = absurd (omega (arith, l))
  row_at zero (v ∷ row) l = one v
  row_at (suc k) (v ∷ row) l = row_at k row (omega (arith, l))

  differs : (v w : Value) → of (if_differs v w) ≡ (if is_same (v ∷ []) (w ∷ []) then 0 else f w)
  differs v w = step (value_eq v w)
    where
      step : (b : Bool) → of (cond b none_written (one_written w)) ≡ cond b 0 (f w)
      step true = none
      step false = one w

  replaced_at : (k width : ℕ) (old new : List Value) → k < width → length old ≡ width
      → length new ≡ width
      → of (get_or (row_replaced old new) k none_written)
      ≡ (if is_same (at_column k old) (at_column k new) then 0 else weigh f (at_column k new))
  replaced_at k zero old new l o n = absurd (omega (arith, l))
  replaced_at k (suc width) [] new l o n = absurd (omega (arith, o))
  replaced_at k (suc width) (v ∷ old) [] l o n = absurd (omega (arith, n))
  replaced_at zero (suc width) (v ∷ old) (w ∷ new) l o n = differs v w
  replaced_at (suc k) (suc width) (v ∷ old) (w ∷ new) l o n =
      replaced_at k width old new (omega (arith, l)) (omega (arith, o)) (omega (arith, n))

  row_count : (row : List Value) → length (row_written row) ≡ length row
  row_count [] = refl
  row_count (v ∷ row) = ap suc (row_count row)

  replaced_count : (width : ℕ) (old new : List Value) → length old ≡ width → length new ≡ width
      → length (row_replaced old new) ≡ width
  replaced_count zero [] new o n = refl
  replaced_count zero (v ∷ old) new o n = absurd (omega (arith, o))
  replaced_count (suc width) [] new o n = absurd (omega (arith, o))
  replaced_count (suc width) (v ∷ old) [] o n = absurd (omega (arith, n))
  replaced_count (suc width) (v ∷ old) (w ∷ new) o n =
      ap suc (replaced_count width old new (omega (arith, o)) (omega (arith, n)))

  rows_at : (k width : ℕ) (lost gained : Relation) (columns : List Written) → k < width
      → length columns ≡ width → AllWidth width lost → AllWidth width gained
      → of (get_or (rows_written lost gained columns) k none_written)
      ≡ of (get_or columns k none_written) + written f k lost gained
  rows_at k width lost [] columns l c a b = omega arith
  rows_at k width [] (g ∷ gained) columns l c a b =
      let rest = rows_at k width [] gained (with_written columns (row_written g)) l
      (with_count columns (row_written g) ∙ c) tt b.1 in
      let here = with_at k columns (row_written g) (omega (arith, l, c))
      (row_count g ∙ b.0 ∙ sym c) in
      let row = row_at k g (let w = b.0 in omega (arith, l, w)) in
      omega (arith, rest, here, row)
  rows_at k width (l ∷ lost) (g ∷ gained) columns s c a b =
      let rest = rows_at k width lost gained (with_written columns (row_replaced l g)) s
      (with_count columns (row_replaced l g) ∙ c) a.1 b.1 in
      let here = with_at k columns (row_replaced l g) (omega (arith, s, c))
      (replaced_count width l g a.0 b.0 ∙ sym c) in
      let row = replaced_at k width l g s a.0 b.0 in
      omega (arith, rest, here, row)

-- ---- the cells, and the bytes of their values

module _ (k : ℕ) (lost gained : Relation) (columns : List Written) (l : k < length columns)
    (a : AllWidth (length columns) lost) (b : AllWidth (length columns) gained) where
  pub written_cells : (get_or (rows_written lost gained columns) k none_written).cells
      ≡ (get_or columns k none_written).cells + written (λ v. 1) k lost gained
  written_cells = rows_at (λ v. 1) (λ w. w.cells) (λ x y. refl) refl (λ v. refl) k (length columns)
      lost gained columns l refl a b

  pub written_bytes : (get_or (rows_written lost gained columns) k none_written).bytes
      ≡ (get_or columns k none_written).bytes + written value_bytes k lost gained
  written_bytes = rows_at value_bytes (λ w. w.bytes) (λ x y. refl) refl (λ v. refl) k
      (length columns) lost gained columns l refl a b

-- columns of which so much is written, with what these rows write more
pub written_more : (lost gained : Relation) (columns : List Written) (old new : List (List Cell))
    → AreWritten columns old → AllWidth (length columns) lost → AllWidth (length columns) gained
    → length new ≡ length columns
    → ((f : Value → ℕ) (k : ℕ) → k < length columns
    → weight f (get_or new k []) ≡ weight f (get_or old k []) + written f k lost gained)
    → AreWritten (rows_written lost gained columns) new
written_more lost gained columns old new h a b c w = record {
  count = c ∙ sym (rows_count lost gained columns);
  each = λ k l. (
      let s : k < length columns = (let n = rows_count lost gained columns in
      omega (arith, l, n)) in
      let was = h.each k s in
      record {
        count =
            one_each (get_or new k []) ∙ w (λ v. 1) k s
            ∙ ap (λ n. n + written (λ v. 1) k lost gained)
            (sym (one_each (get_or old k [])) ∙ was.count)
            ∙ sym (written_cells k lost gained columns s a b);
        bytes = w value_bytes k s ∙ ap (λ n. n + written value_bytes k lost gained) was.bytes
            ∙ sym (written_bytes k lost gained columns s a b);
      }
      );
}

-- columns of which nothing was written, with the rows that a table begins with
pub written_first : (rows : Relation) (columns : List Column) (cells : List (List Cell))
    → AllWidth (length columns) rows → length cells ≡ length columns
    → ((f : Value → ℕ) (k : ℕ) → k < length columns
    → weight f (get_or cells k []) ≡ written f k [] rows)
    → AreWritten (rows_written [] rows (map (λ (c : Column). none_written) columns)) cells
written_first rows columns cells w c h =
    written_more [] rows (map (λ (x : Column). none_written) columns)
    (map (λ (x : Column). []) columns) cells (no_cells columns) tt
    (subst (λ n. AllWidth n rows) (sym count) w) (c ∙ sym count)
    (λ f k l. (
    let is = h f k (subst (λ n. k < n) count l) in
    let nothing = none_there f k columns in
    omega (arith, is, nothing)
    ))
  where
    count : length (map (λ (x : Column). none_written) columns) ≡ length columns
    count = length-map columns (λ (x : Column). none_written)

    none_there : (f : Value → ℕ) (k : ℕ) (its : List Column)
        → weight f (get_or (map (λ (x : Column). []) its) k []) ≡ 0
    none_there f k [] = refl
    none_there f zero (x ∷ its) = refl
    none_there f (suc k) (x ∷ its) = none_there f k its

    no_cells : (its : List Column) → AreWritten (map (λ (x : Column). none_written) its)
        (map (λ (x : Column). []) its)
    no_cells its = record {
      count = length-map its (λ (x : Column). [])
          ∙ sym (length-map its (λ (x : Column). none_written));
      each = λ k l. none_at k its l;
    }
      where
        none_at : (k : ℕ) (its : List Column) → k < length (map (λ (x : Column). none_written) its)
            → IsWritten (get_or (map (λ (x : Column). none_written) its) k none_written)
            (get_or (map (λ (x : Column). []) its) k [])
        none_at k [] l = absurd (omega (arith, l))
        none_at zero (x ∷ its) l = record { count = refl; bytes = refl }
        none_at (suc k) (x ∷ its) l = none_at k its (omega (arith, l))
