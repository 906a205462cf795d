-- A change has as many columns as its table.
use Rattle.std.proofs.Common.{◌≡◌, ℕ, suc, List, [], ◌∷◌, length, refl, ap, ◌∙◌}
use Rattle.prima_base.specs.declared.value.Value.{Value}
use Rattle.history_store.specs.Store.{Store, Cell}
use Rattle.history_store.specs.Handing.{unpaired, handed}
use Rattle.history_store.specs.Change.{PreparedChange, write_row, write_rows, close_all}
use Rattle.history_store.specs.Change.{cells_after}

closed : (ids : List ℕ) (stamp : ℕ) (columns : List (List Cell))
    → length (close_all ids stamp columns) ≡ length columns
closed ids stamp [] = refl
closed ids stamp (c ∷ columns) = ap suc (closed ids stamp columns)

row_put : (id : ℕ) (row : List Value) (stamp : ℕ) (columns : List (List Cell))
    → length (write_row id row stamp columns) ≡ length columns
row_put id row stamp [] = refl
row_put id [] stamp (c ∷ columns) = refl
row_put id (v ∷ row) stamp (c ∷ columns) = ap suc (row_put id row stamp columns)

rows_put : (ids : List ℕ) (rows : List (List Value)) (stamp : ℕ) (columns : List (List Cell))
    → length (write_rows ids rows stamp columns) ≡ length columns
rows_put [] rows stamp columns = refl
rows_put (id ∷ ids) [] stamp columns = refl
rows_put (id ∷ ids) (row ∷ rows) stamp columns =
    rows_put ids rows stamp (write_row id row stamp columns) ∙ row_put id row stamp columns

pub as_many_columns : (s : Store) (p : PreparedChange) → length (cells_after s p) ≡ length s.cells
as_many_columns s p =
    let ids = handed p.lost (length s.keys) p.gained in
    closed (unpaired p.lost p.gained) p.stamp (write_rows ids p.gained p.stamp s.cells)
    ∙ rows_put ids p.gained p.stamp s.cells
