-- What is seen of the columns after a stamp wrote some rows.
use Rattle.std.proofs.Common.{◌≡◌, ◌≢◌, ℕ, ◌<◌, ◌≤◌, List, [], ◌∷◌, length, refl, arith}
use Rattle.prima_base.specs.declared.value.Value.{Value}
use Rattle.history_store_columns.specs.Log.{Write}
use Rattle.history_store_change_spec.specs.Table.{row_then, AllColumns}
use Rattle.history_store_row_order.specs.Rows.{row_now}
use Rattle.history_store_writes.specs.Writing.{put_row}
use Rattle.history_store_columns.proofs.Puts.{all_more, put_all_cells, put_before, put_other}
use Rattle.history_store_columns.proofs.Puts.{put_same}

pub row_before : (j m id : ℕ) (row : List Value) (stamp : ℕ) (columns : List (List Write))
    → m < stamp → row_then j m (put_row id row stamp columns) ≡ row_then j m columns
row_before j m id row stamp [] h = refl
row_before j m id [] stamp (c ∷ columns) h = refl
row_before j m id (v ∷ row) stamp (c ∷ columns) h = let e = put_before j m id v stamp c h in let f =
    row_before j m id row stamp columns h in cc

pub row_same : (id : ℕ) (row : List Value) (stamp : ℕ) (columns : List (List Write))
    → length row ≡ length columns → row_now id (put_row id row stamp columns) ≡ row
row_same id [] stamp [] h = refl
row_same id (v ∷ row) stamp [] h = absurd (omega arith)
row_same id [] stamp (c ∷ columns) h = absurd (omega arith)
row_same id (v ∷ row) stamp (c ∷ columns) h =
    let e = put_same id v stamp c in let f = row_same id row stamp columns (omega arith) in
    rw (e, f) refl

pub row_other : (j id : ℕ) (row : List Value) (stamp : ℕ) (columns : List (List Write)) → id ≢ j
    → row_now j (put_row id row stamp columns) ≡ row_now j columns
row_other j id row stamp [] n = refl
row_other j id [] stamp (c ∷ columns) n = refl
row_other j id (v ∷ row) stamp (c ∷ columns) n = let e = put_other j id v stamp c n in let f =
    row_other j id row stamp columns n in cc

pub row_all : (id : ℕ) (row : List Value) (stamp : ℕ) (columns : List (List Write))
    → AllColumns stamp columns → AllColumns stamp (put_row id row stamp columns)
row_all id row stamp [] a = tt
row_all id [] stamp (c ∷ columns) a = a
row_all id (v ∷ row) stamp (c ∷ columns) a = (
  put_all_cells id v stamp c a.0,
  row_all id row stamp columns a.1,
)

pub row_width : (id : ℕ) (row : List Value) (stamp : ℕ) (columns : List (List Write))
    → length (put_row id row stamp columns) ≡ length columns
row_width id row stamp [] = refl
row_width id [] stamp (c ∷ columns) = refl
row_width id (v ∷ row) stamp (c ∷ columns) = let e = row_width id row stamp columns in grind (arith)

pub columns_more : (last stamp : ℕ) (columns : List (List Write)) → last ≤ stamp
    → AllColumns last columns → AllColumns stamp columns
columns_more last stamp [] h a = tt
columns_more last stamp (c ∷ columns) h a = (
  all_more last stamp c h a.0,
  columns_more last stamp columns h a.1,
)
