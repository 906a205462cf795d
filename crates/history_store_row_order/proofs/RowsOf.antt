-- The rows of ids, as members of a list.
use Rattle.std.proofs.Common.{◌≡◌, ℕ, List, [], ◌∷◌, refl, ap, inl, inr}
use Rattle.prima_base.specs.declared.value.Value.{Value}
use Rattle.history_store_columns.specs.Log.{Write}
use Rattle.relations_spec.specs.Sets.{In}
use Rattle.history_store_row_order.specs.Rows.{row_now, rows_of}

pub rows_of_in : (id : ℕ) (ids : List ℕ) (columns : List (List Write)) → In id ids
    → In (row_now id columns) (rows_of ids columns)
rows_of_in id [] columns i = absurd i
rows_of_in id (j ∷ ids) columns (inl e) = inl (ap (λ n. row_now n columns) e)
rows_of_in id (j ∷ ids) columns (inr i) = inr (rows_of_in id ids columns i)

pub in_rows_of : (q : List Value) (ids : List ℕ) (columns : List (List Write))
    → In q (rows_of ids columns) → (id : ℕ) × (In id ids) × (row_now id columns ≡ q)
in_rows_of q [] columns i = absurd i
in_rows_of q (j ∷ ids) columns (inl e) = (j, inl refl, e)
in_rows_of q (j ∷ ids) columns (inr i) = let r = in_rows_of q ids columns i in (r.0, inr r.1, r.2)
