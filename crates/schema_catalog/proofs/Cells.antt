-- A row is the list of its cells.
use Rattle.std.proofs.Common.{◌≡◌, List, [], ◌∷◌, map, refl, ap, ◌∙◌}
use Rattle.std.specs.Prelude.{cond}
use Rattle.std.specs.Ordering.{is_eq}
use Rattle.std.specs.Cmp.Lexicographic.{nat_list_cmp_total}
use Rattle.std.proofs.lemmas.Cmp.{tied_itself}
use Rattle.relations_spec.specs.Sets.{BeforeAll}
use Rattle.prima_base.specs.declared.value.Value.{Value}
use Rattle.prima_base.specs.Order.{bytes_cmp}
use Rattle.prima_base.specs.Columns.{Column, IsRow, AreColumns, names_of}
use Rattle.schema_catalog.specs.Databases.{cell, cells_of}

-- the cells of later columns are those of the row without its first value
later : (c : Column) (columns : List Column) (v : Value) (row : List Value) (ds : List Column)
    → BeforeAll bytes_cmp c.0 (names_of ds)
    → map (λ (d : Column). cell (c ∷ columns) (v ∷ row) d.0) ds
    ≡ map (λ (d : Column). cell columns row d.0) ds
later c columns v row [] h = refl
later c columns v row (d ∷ ds) h =
    ap (λ o. cond (is_eq o) v (cell columns row d.0)
    ∷ map (λ (d : Column). cell (c ∷ columns) (v ∷ row) d.0) ds) h.0
    ∙ ap (λ l. cell columns row d.0 ∷ l) (later c columns v row ds h.1)

pub cells_again : (columns : List Column) (row : List Value) → AreColumns columns
    → IsRow columns row → cells_of columns row ≡ row
cells_again [] [] a h = refl
cells_again [] (v ∷ row) a h = absurd h
cells_again (c ∷ columns) [] a h = absurd h
cells_again (c ∷ columns) (v ∷ row) a h =
    ap (λ o. cond (is_eq o) v (cell columns row c.0)
    ∷ map (λ (d : Column). cell (c ∷ columns) (v ∷ row) d.0) columns)
    (tied_itself nat_list_cmp_total c.0)
    ∙ ap (λ l. v ∷ l) (later c columns v row columns a.0 ∙ cells_again columns row a.1 h.1)
