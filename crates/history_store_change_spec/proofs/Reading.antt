-- What is read of a table: a column, and whether a row is there.
use Rattle.std.proofs.Common.{◌≡◌, ◌⊎◌, ℕ, suc, ◌+◌, ◌<◌, ◌≤◌, true, false, List, [], ◌∷◌, length}
use Rattle.std.proofs.Common.{get_or, sym, ap, ◌∙◌, subst, arith, inl, inr}
use Rattle.std.proofs.lemmas.Bool.{cases_lt}
use Rattle.std.specs.declared.cmp.Ordering.TheVariants.{Less, Equal, Greater}
use Rattle.std.proofs.lemmas.Cmp.{tied_itself}
use Rattle.relations_spec.specs.Sets.{In, has}
use Rattle.relations_spec.specs.Spans.{Span, forever}
use Rattle.relations_spec.proofs.SetLaws.{in_has, has_in}
use Rattle.prima_base.specs.Order.{row_cmp}
use Rattle.prima_base.specs.OrderLaws.{row_exact, row_total}
use Rattle.prima_base.specs.declared.value.Value.{Value}
use Rattle.history_store_columns.specs.Log.{Log, Write}
use Rattle.history_store_row_order.specs.Logs.{cells_of}
use Rattle.prima_base.specs.Columns.{Column, IsRow}
use Rattle.history_store_spec.specs.Store.{Store, relation_at, IsBefore, AllBefore}
use Rattle.history_store_columns.specs.Entries.{entries_from, IsHistory}
use Rattle.history_store_change_spec.specs.Entries.{all_entries}
use Rattle.history_store_row_order.specs.Rows.{row_now, rows_of}
use Rattle.history_store_change_spec.specs.Kept.{store_of, IsKept}
use Rattle.history_store_row_order.proofs.Cells.{get_or-cells_of, length-cells_of}
use Rattle.history_store_change_spec.proofs.Counting.{column_count, column_entries, column_history}
use Rattle.history_store_row_order.proofs.RowsOf.{rows_of_in, in_rows_of}
use Rattle.history_store_row_order.proofs.Sides.{exact_rows}
use Rattle.history_store_value_order.proofs.Places.{not_true, in_get}
use Rattle.history_store_change_spec.proofs.Making.{row_wide}
use Rattle.history_store_change_spec.proofs.Showing.{relation_now}

-- the column at a place
module _ (columns : List Column) (keys : List Span) (logs : List Log) (live : List ℕ)
    (w : IsKept columns keys (cells_of logs) live) (k : ℕ) (c : Log) (h : k < length logs)
    (is : c ≡ get_or logs k c) where
  log_is : get_or (cells_of logs) k [] ≡ c.cells
  log_is = get_or-cells_of logs k c h ∙ ap (λ (l : Log). l.cells) (sym is)

  inside : k < length (cells_of logs)
  inside = subst (λ n. k < n) (sym (length-cells_of logs)) h

  pub here : get_or (all_entries keys (cells_of logs)) k [] ≡ entries_from 0 keys c.cells
  here = column_entries k keys (cells_of logs) inside ∙ ap (entries_from 0 keys) log_is

  pub history : IsHistory keys c.cells
  history = subst (IsHistory keys) log_is (column_history k keys (cells_of logs) inside w.histories)

  pub counted : length (get_or (all_entries keys (cells_of logs)) k []) ≡ length c.cells
  counted = column_count k keys (cells_of logs) w.histories ∙ ap length log_is

-- a row by its place
place_in : (xs : List ℕ) (x : ℕ) → In x xs → (k : ℕ) × (k < length xs) × (get_or xs k 0 ≡ x)
place_in [] x i = absurd i
place_in (y ∷ xs) x (inl e) = (0, omega arith, e)
place_in (y ∷ xs) x (inr i) = let r = place_in xs x i in
    (suc r.0, (let h = r.1 in omega (arith, h)), r.2)

module _ {indexed : List ℕ} (columns : List Column) (keys : List Span) (logs : List (List Write))
    (live : List ℕ) (spare : ℕ) (w : IsKept columns keys logs live) (row : List Value) (m : ℕ)
    (l : m < forever) (b : AllBefore (store_of columns keys logs spare indexed) (m + 1)) where
  now : relation_at (store_of columns keys logs spare indexed) m ≡ rows_of live logs
  now = relation_now columns keys logs live spare m w b l

  pub found_has : (at : ℕ) → at < length live
      → row_cmp (row_now (get_or live at 0) logs) row ≡ Equal
      → true ≡ has row_cmp row (relation_at (store_of columns keys logs spare indexed) m)
  found_has at h e =
      let i : In row (rows_of live logs) = subst (λ r. In r (rows_of live logs))
      (exact_rows (row_now (get_or live at 0) logs) row e)
      (rows_of_in (get_or live at 0) live logs (in_get live at 0 h)) in
      sym (ap (has row_cmp row) now ∙ in_has row_cmp row_exact row (rows_of live logs) i)

  there : has row_cmp row (relation_at (store_of columns keys logs spare indexed) m) ≡ true
      → (id : ℕ) × (In id live) × (row_now id logs ≡ row)
  there t = in_rows_of row live logs (has_in row_cmp row_exact row (rows_of live logs)
      (sym (ap (has row_cmp row) now) ∙ t))

  pub not_found : (at : ℕ) → ((k : ℕ) → k < at
      → row_cmp (row_now (get_or live k 0) logs) row ≡ Less)
      → ((k : ℕ) → at ≤ k → k < length live → row_cmp (row_now (get_or live k 0) logs) row
      ≡ Greater) → false ≡ has row_cmp row (relation_at (store_of columns keys logs spare indexed)
      m)
  not_found at f g = sym (not_true (has row_cmp row
      (relation_at (store_of columns keys logs spare indexed) m)) (λ t. no (there t)))
    where
      no : (id : ℕ) × (In id live) × (row_now id logs ≡ row) → ⊥
      no r =
          let p = place_in live r.0 r.1 in
          let e : row_cmp (row_now (get_or live p.0 0) logs) row ≡ Equal =
          ap (λ n. row_cmp (row_now n logs) row) p.2 ∙ ap (λ x. row_cmp x row) r.2
          ∙ tied_itself row_total row in
          elim (cases_lt p.0 at) [
            | inl q ↦ (let c = f p.0 q in cc)
            | inr q ↦ (let c = g p.0 q p.1 in cc)
          ]

  pub not_wide : (length row ≡ length columns → ⊥)
      → false ≡ has row_cmp row (relation_at (store_of columns keys logs spare indexed) m)
  not_wide n = sym (not_true (has row_cmp row
      (relation_at (store_of columns keys logs spare indexed) m)) (λ t. no (there t)))
    where
      no : (id : ℕ) × (In id live) × (row_now id logs ≡ row) → ⊥
      no r = n (row_wide columns row (subst (IsRow columns) r.2 (w.fitting r.0 r.1)))

-- a moment later
before_later : (m n : ℕ) (p : Span) → m ≤ n → IsBefore m p → IsBefore n p
before_later m n p l h = (
  omega (arith, h.0),
  elim h.1 as (λ w. (p.end < n) ⊎ (p.end ≡ forever)) [
    | inl k ↦ inl (omega (arith, k))
    | inr k ↦ inr k
  ],
)

all_later : (s : Store) (m n : ℕ) → m ≤ n → AllBefore s m → AllBefore s n
all_later s m n l h = record {
  keys = λ p i. before_later m n p l (h.keys p i);
  cells =
      λ cells i c j. before_later m n c.period l (h.cells cells i c j);
}

-- from the last stamp on the relation is one
pub now_stays : {indexed : List ℕ} → (columns : List Column) (keys : List Span)
    (logs : List (List Write)) (live : List ℕ) (spare m n : ℕ) → IsKept columns keys logs live
    → AllBefore (store_of columns keys logs spare indexed) (m + 1) → m ≤ n → n < forever
    → relation_at (store_of columns keys logs spare indexed) n
    ≡ relation_at (store_of columns keys logs spare indexed) m
now_stays columns keys logs live spare m n k b d l =
    relation_now columns keys logs live spare n k (all_later _ (m + 1) (n + 1) (omega arith) b) l
    ∙ sym (relation_now columns keys logs live spare m k b (omega arith))
