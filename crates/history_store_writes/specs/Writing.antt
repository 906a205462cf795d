-- What rows write into columns and keys.
use Rattle.std.specs.Prelude.{length, ℕ, ◌+◌, List, [], ◌∷◌, ◌++◌, slice_index_or, slice_set}
use Rattle.relations_spec.specs.Spans.{Span, forever}
use Rattle.prima_base.specs.declared.value.Value.{Value}
use Rattle.history_store_columns.specs.Log.{Write}
use Rattle.history_store_columns.specs.Keys.{no_span, ended_at}
use Rattle.history_store_columns.specs.Puts.{put}
use Rattle.history_store_row_order.specs.Handing.{handed}

-- the columns with this row of the id from the stamp on
abbrev pub put_row : ℕ → List Value → ℕ → List (List Write) → List (List Write)
put_row id row stamp [] = []
put_row id [] stamp (c ∷ columns) = c ∷ columns
put_row id (v ∷ row) stamp (c ∷ columns) = put id v stamp c ∷ put_row id row stamp columns

-- the i-th row for the i-th id
abbrev pub put_rows : List ℕ → List (List Value) → ℕ → List (List Write) → List (List Write)
put_rows [] rows stamp columns = columns
put_rows (id ∷ ids) [] stamp columns = columns
put_rows (id ∷ ids) (row ∷ rows) stamp columns =
    put_rows ids rows stamp (put_row id row stamp columns)

-- the keys with these ids ended at the stamp
abbrev pub end_keys : List ℕ → ℕ → List Span → List Span
end_keys [] stamp keys = keys
end_keys (id ∷ ids) stamp keys = end_keys ids stamp
    (slice_set keys id (ended_at stamp (slice_index_or keys id no_span)))

-- what of the first list has no partner in the second
abbrev pub unpaired : {A B : Type 0} → List A → List B → List A
unpaired xs [] = xs
unpaired [] (y ∷ ys) = []
unpaired (x ∷ xs) (y ∷ ys) = unpaired xs ys

-- one open key for each
abbrev pub new_keys : {A : Type 0} → ℕ → List A → List Span
new_keys stamp [] = []
new_keys stamp (x ∷ xs) = record { start = stamp; end = forever } ∷ new_keys stamp xs

abbrev pub keys_handed : List Span → List ℕ → List (List Value) → ℕ → List Span
keys_handed keys lost gained stamp = end_keys (unpaired lost gained) stamp
    (keys ++ new_keys stamp (unpaired gained lost))

abbrev pub logs_handed : List Span → List (List Write) → List ℕ → List (List Value) → ℕ
    → List (List Write)
logs_handed keys columns lost gained stamp = put_rows (handed lost (length keys) gained) gained
    stamp columns
