-- How many cells there are in all columns.
use Rattle.std.proofs.Common.{◌≡◌, ℕ, suc, ◌+◌, ◌-◌, ◌*◌, ◌^◌, ◌<◌, ◌≤◌, List, [], ◌∷◌, length}
use Rattle.std.proofs.Common.{refl, ap, subst, arith, length-append}
use Rattle.std.specs.Prelude.{max, All}
use Rattle.std.proofs.Math.Nat.{div-mul-le_self, mul-le-mul}
use Rattle.relations_spec.specs.Spans.{Span}
use Rattle.prima_base.specs.declared.value.Value.{Value}
use Rattle.history_store_columns.specs.Log.{Log, Write}
use Rattle.history_store_row_order.specs.Logs.{cells_of}
use Rattle.history_store_writes.specs.Logs.{countable_rows}
use Rattle.history_store_spec.specs.Store.{cells_in}
use Rattle.history_store_change_spec.specs.Entries.{all_entries, AreHistories}
use Rattle.history_store_columns.specs.Puts.{put}
use Rattle.history_store_writes.specs.Writing.{put_row, put_rows}
use Rattle.history_store_columns.proofs.Puts.{by_put}
use Rattle.history_store_change_spec.proofs.Puts.{row_width}
use Rattle.history_store_change_spec.proofs.Counting.{column_count}

-- there are as many entries as writes
pub all_count : (keys : List Span) (columns : List (List Write)) → AreHistories keys columns
    → cells_in (all_entries keys columns) ≡ cells_in columns
all_count keys [] h = refl
all_count keys (c ∷ columns) h = let e = column_count 0 keys (c ∷ columns) h in let r =
    all_count keys columns h.1 in omega (arith, e, r)

-- a value that is put adds a cell at most
put_count : (id : ℕ) (v : Value) (stamp : ℕ) (cells : List Write)
    → length (put id v stamp cells) ≤ length cells + 1
put_count id v stamp cells =
    let added = length-append cells (record { id = id; value = v; start = stamp } ∷ []) in
    by_put (λ cs. length cs ≤ length cells + 1) id v stamp cells (λ e. omega arith)
    (omega (arith, added))

-- a row adds a cell to each column at most
row_count : (id : ℕ) (row : List Value) (stamp : ℕ) (columns : List (List Write))
    → cells_in (put_row id row stamp columns) ≤ cells_in columns + length columns
row_count id row stamp [] = omega arith
row_count id [] stamp (c ∷ columns) = omega arith
row_count id (v ∷ row) stamp (c ∷ columns) = let p = put_count id v stamp c in let r =
    row_count id row stamp columns in omega (arith, p, r)

-- rows add as many cells to each column at most
rows_count : (ids : List ℕ) (rows : List (List Value)) (stamp : ℕ) (columns : List (List Write))
    → cells_in (put_rows ids rows stamp columns) ≤ cells_in columns + length rows * length columns
rows_count [] rows stamp columns = omega arith
rows_count (id ∷ ids) [] stamp columns = omega arith
rows_count (id ∷ ids) (row ∷ rows) stamp columns =
    let one = row_count id row stamp columns in
    let rest = subst (λ n. cells_in (put_rows ids rows stamp (put_row id row stamp columns)) ≤
    cells_in (put_row id row stamp columns) + length rows * n) (row_width id row stamp columns)
    (rows_count ids rows stamp (put_row id row stamp columns)) in
    omega (arith, one, rest)

-- where there is room for so many rows more, the cells can be counted with them
pub still_counted : (ids : List ℕ) (rows : List (List Value)) (stamp : ℕ)
    (columns : List (List Write)) → cells_in columns < 2 ^ 64 → length rows ≤ countable_rows columns
    → cells_in (put_rows ids rows stamp columns) < 2 ^ 64
still_counted ids rows stamp columns b l =
    let more = rows_count ids rows stamp columns in
    let wide : length columns ≤ max (length columns) 1 = grind arith in
    let product = mul-le-mul l wide in
    let whole = div-mul-le_self (2 ^ 64 - 1 - cells_in columns) (max (length columns) 1) in
    omega (arith, b, more, product, whole)

-- columns without a cell
pub none_counted : (columns : List Log) → All (λ c. c.cells ≡ []) columns
    → cells_in (cells_of columns) ≡ 0
none_counted [] a = refl
none_counted (c ∷ columns) a =
    let e = ap length (a 0 c (omega arith)) in
    let r = none_counted columns (λ k d h. a (suc k) d (omega arith)) in
    omega (arith, e, r)
