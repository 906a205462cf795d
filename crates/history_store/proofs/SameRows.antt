-- Two tables that have the same rows, row by row and column by column.
use Rattle.std.proofs.Common.{◌≡◌, ℕ, ◌+◌, ◌<◌, ◌≤◌, false, List, [], ◌∷◌, ◌++◌, length}
use Rattle.std.proofs.Common.{get_or, take, drop, refl, sym, ap, ◌∙◌, arith}
use Rattle.std.proofs.lemmas.List.{drop_more, take_more}
use Rattle.std.specs.Ordering.{is_ne}
use Rattle.std.specs.declared.cmp.Ordering.{Ordering}
use Rattle.std.specs.declared.cmp.Ordering.TheVariants.{Less, Equal, Greater}
use Rattle.relations_spec.specs.Spans.{Span, forever}
use Rattle.prima_base.specs.Order.{row_cmp, value_cmp}
use Rattle.prima_base.specs.Columns.{Column}
use Rattle.prima_base.specs.declared.value.Value.{Value}
use Rattle.history_store_columns.specs.Log.{Log, Write, newest}
use Rattle.history_store_spec.specs.Store.{relation_at}
use Rattle.history_store_row_order.specs.Logs.{cells_of}
use Rattle.history_store_row_order.specs.Rows.{row_now, rows_of}
use Rattle.history_store_row_order.proofs.Sides.{exact_rows}
use Rattle.history_store_change_spec.specs.Kept.{store_of, IsKept}
use Rattle.history_store_change_spec.specs.Table.{IsStored}
use Rattle.history_store_change_spec.proofs.Now.{at_now}
use Rattle.history_store_change_spec.proofs.Showing.{relation_is}

-- ---- values

one_alike : (v w : Value) → value_cmp v w ≡ Equal → row_cmp (v ∷ []) (w ∷ []) ≡ Equal
one_alike v w e = rw e refl

pub same_value : (v w : Value) → is_ne (value_cmp v w) ≡ false → v ∷ [] ≡ w ∷ []
same_value v w e = step (value_cmp v w) refl e
  where
    step : (o : Ordering) → value_cmp v w ≡ o → is_ne o ≡ false → v ∷ [] ≡ w ∷ []
    step Less q h = absurd (cc)
    step Equal q h = exact_rows (v ∷ []) (w ∷ []) (one_alike v w q)
    step Greater q h = absurd (cc)

-- ---- one column more of a row

left_is : (columns : List Log) (k : ℕ) (c : Log) → k < length columns → c ≡ get_or columns k c
    → drop k columns ≡ c ∷ drop (k + 1) columns
left_is columns k c l e = drop_more columns k c l
    ∙ ap (λ (x : Log). x ∷ drop (k + 1) columns) (sym e)

pub row_more : (columns others : List Log) (k : ℕ) (c d : Log) (id other : ℕ)
    → k < length columns → k < length others → c ≡ get_or columns k c → d ≡ get_or others k d
    → newest id c.cells ≡ newest other d.cells
    → row_now id (cells_of (drop (k + 1) columns)) ≡ row_now other (cells_of (drop (k + 1) others))
    → row_now id (cells_of (drop k columns)) ≡ row_now other (cells_of (drop k others))
row_more columns others k c d id other l h is at e rest =
    ap (λ (cs : List Log). row_now id (cells_of cs)) (left_is columns k c l is)
    ∙ ap (λ (vs : List Value). vs ++ row_now id (cells_of (drop (k + 1) columns))) e
    ∙ ap (λ (vs : List Value). newest other d.cells ++ vs) rest
    ∙ sym (ap (λ (cs : List Log). row_now other (cells_of cs)) (left_is others k d h at))

-- ---- one row more

rows_joined : (ids : List ℕ) (id : ℕ) (columns : List (List Write))
    → rows_of (ids ++ id ∷ []) columns ≡ rows_of ids columns ++ row_now id columns ∷ []
rows_joined [] id columns = refl
rows_joined (x ∷ ids) id columns =
    ap (λ (rows : List (List Value)). row_now x columns ∷ rows) (rows_joined ids id columns)

rows_more : (ids : List ℕ) (i : ℕ) (columns : List (List Write)) → i < length ids
    → rows_of (take (i + 1) ids) columns
    ≡ rows_of (take i ids) columns ++ row_now (get_or ids i 0) columns ∷ []
rows_more ids i columns l =
    ap (λ (more : List ℕ). rows_of more columns) (take_more ids i 0 l)
    ∙ rows_joined (take i ids) (get_or ids i 0) columns

pub row_beside : (ids others : List ℕ) (i : ℕ) (columns beside : List (List Write))
    → i < length ids → i < length others
    → rows_of (take i ids) columns ≡ rows_of (take i others) beside
    → row_now (get_or ids i 0) columns ≡ row_now (get_or others i 0) beside
    → rows_of (take (i + 1) ids) columns ≡ rows_of (take (i + 1) others) beside
row_beside ids others i columns beside l h e f =
    rows_more ids i columns l
    ∙ ap (λ (rows : List (List Value)). rows ++ row_now (get_or ids i 0) columns ∷ []) e
    ∙ ap (λ (row : List Value). rows_of (take i others) beside ++ row ∷ []) f
    ∙ sym (rows_more others i beside h)

-- ---- what a table shows from its last stamp on

pub shows : (indexed : List ℕ) (columns : List Column) (keys : List Span)
    (logs : List (List Write)) (live : List ℕ) (spare last m : ℕ) → IsKept columns keys logs live
    → IsStored keys logs live last → last ≤ m → m < forever
    → relation_at (store_of columns keys logs spare indexed) m ≡ rows_of live logs
shows indexed columns keys logs live spare last m k s l t =
    relation_is indexed columns keys logs spare m k.histories ∙ at_now keys logs live last m s l t
