-- The value of one column of an id's newest row.
use Rattle.std.proofs.Common.{◌≡◌, ℕ, zero, suc, ◌<◌, ◌≤◌, Bool, true, false, List, [], ◌∷◌, length}
use Rattle.std.proofs.Common.{get_or, refl, arith, if◌then◌else◌, length-append}
use Rattle.std.specs.Prelude.{Some, None, slice_get, ◌==◌}
use Rattle.prima_base.specs.declared.value.Value.{Value}
use Rattle.history_store_columns.specs.Log.{Write, newest, over}
use Rattle.history_store_row_order.specs.Rows.{row_now}

-- ---- an id has one newest value at most

newest_few : (id : ℕ) (cells : List Write) → length (newest id cells) ≤ 1
newest_few id [] = omega arith
newest_few id (c ∷ cells) = step (newest id cells) (newest_few id cells)
  where
    by_case : (b : Bool) → length (if b then c.value ∷ [] else []) ≤ 1
    by_case true = omega arith
    by_case false = omega arith

    step : (vs : List Value) → length vs ≤ 1 → length
        (over vs (if c.id == id then c.value ∷ [] else [])) ≤ 1
    step [] h = by_case (c.id == id)
    step (v ∷ vs) h = h

row_few : (id : ℕ) (columns : List (List Write)) → length (row_now id columns) ≤ length columns
row_few id [] = omega arith
row_few id (c ∷ columns) =
    let a = newest_few id c in
    let b = row_few id columns in
    let l = length-append (newest id c) (row_now id columns) in
    omega (arith, a, b, l)

one_is : (vs : List Value) → length vs ≡ 1 → (v : Value) × (vs ≡ v ∷ [])
one_is [] e = absurd (omega (arith, e))
one_is (v ∷ []) e = (v, refl)
one_is (v ∷ (w ∷ vs)) e = absurd (omega (arith, e))

-- ---- and one in each column where there are so many

first_is : (id : ℕ) (c : List Write) (columns : List (List Write))
    → length (row_now id (c ∷ columns)) ≡ suc (length columns) → length (newest id c) ≡ 1
first_is id c columns w =
    let a = newest_few id c in
    let b = row_few id columns in
    let l = length-append (newest id c) (row_now id columns) in
    omega (arith, a, b, l, w)

rest_is : (id : ℕ) (c : List Write) (columns : List (List Write))
    → length (row_now id (c ∷ columns)) ≡ suc (length columns)
    → length (row_now id columns) ≡ length columns
rest_is id c columns w =
    let a = newest_few id c in
    let b = row_few id columns in
    let l = length-append (newest id c) (row_now id columns) in
    omega (arith, a, b, l, w)

pub value_there : (k id : ℕ) (columns : List (List Write)) (v : Value) → k < length columns
    → length (row_now id columns) ≡ length columns → newest id (get_or columns k []) ≡ v ∷ []
    → slice_get (row_now id columns) k ≡ Some v
value_there k id [] v h w e = absurd (omega arith)
value_there zero id (c ∷ columns) v h w e = rw e refl
value_there (suc k) id (c ∷ columns) v h w e =
    let o = one_is (newest id c) (first_is id c columns w) in
    rw o.1 (value_there k id columns v (omega arith) (rest_is id c columns w) e)

past : (row : List Value) (k : ℕ) → length row ≤ k → slice_get row k ≡ None
past [] k h = refl
past (v ∷ row) zero h = absurd (omega arith)
past (v ∷ row) (suc k) h = past row k (omega arith)

pub none_there : (k id : ℕ) (columns : List (List Write)) → length columns ≤ k
    → slice_get (row_now id columns) k ≡ None
none_there k id columns h = let f = row_few id columns in
    past (row_now id columns) k (omega (arith, f))
