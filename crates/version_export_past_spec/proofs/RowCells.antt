-- The condition of a row is met by that row alone, and the cells of a row give it.
use Rattle.std.specs.Prelude.{◌≡◌, ◌==◌, ℕ, ◌&&◌, Bool, true, false, List, [], ◌∷◌, map, cond, pos}
use Rattle.std.proofs.Common.{refl, sym, ap, ◌∙◌, inl, inr}
use Rattle.std.specs.Ordering.{is_eq, ordering_then}
use Rattle.std.specs.declared.cmp.Ordering.{Ordering}
use Rattle.std.specs.declared.cmp.Ordering.TheVariants.{Less, Equal, Greater}
use Rattle.relations_spec.specs.Sets.{In}
use Rattle.prima_base.specs.declared.value.Value.{Value}
use Rattle.prima_base.specs.declared.value.Value.TheVariants.{Int}
use Rattle.prima_base.specs.Order.{value_cmp, row_cmp}
use Rattle.prima_base.specs.Columns.{Column, AreColumns, IsRow}
use Rattle.schema_catalog.specs.Databases.{cell}
use Rattle.cond_expr.specs.Values.{Cells, over, truth, all_true}
use Rattle.smo_ops_spec.specs.OneRow.{Row, meets, given, row_of}
use Rattle.smo_ops_spec.proofs.NameLaws.{same_itself, same_not, before_column}
use Rattle.version_export_past_spec.specs.Rows.{Cell, row_cells, has_cell, have_cells, is_row_of}

-- ---- the condition

both_equal : (a b : Ordering) → is_eq (ordering_then a b) ≡ (is_eq a && is_eq b)
both_equal Less b = refl
both_equal Equal b = refl
both_equal Greater b = refl

and_true : (b : Bool) → b ≡ (b && true)
and_true true = refl
and_true false = refl

-- what a name stands for, as a reference to atom 0
abbrev named_cells : (List ℕ → Value) → Cells
named_cells f = over (λ i n. cond (0 == i) (f n) (Int (pos 0)))

all_equal : (columns : List Column) (row other : Row) (f : List ℕ → Value) → AreColumns columns
    → IsRow columns row → IsRow columns other
    → ((d : Column) → In d columns → f d.0 ≡ cell columns other d.0)
    → all_true (named_cells f) (have_cells (row_cells columns row)) ≡ is_eq (row_cmp other row)
all_equal [] [] [] f a r s h = refl
all_equal [] [] (w ∷ other) f a r s h = absurd s
all_equal [] (v ∷ row) other f a r s h = absurd r
all_equal (c ∷ columns) [] other f a r s h = absurd r
all_equal (c ∷ columns) (v ∷ row) [] f a r s h = absurd s
all_equal (c ∷ columns) (v ∷ row) (w ∷ other) f a r s h =
    ap (λ (x : Value). is_eq (value_cmp x v)
    && all_true (named_cells f) (have_cells (row_cells columns row))) first
    ∙ ap (λ b. is_eq (value_cmp w v) && b) (all_equal columns row other f a.1 r.1 s.1 rest)
    ∙ sym (both_equal (value_cmp w v) (row_cmp other row))
  where
    first : f c.0 ≡ w
    first = h c (inl refl) ∙ ap (λ b. cond b w (cell columns other c.0)) (same_itself c.0)

    rest : (d : Column) → In d columns → f d.0 ≡ cell columns other d.0
    rest d m = h d (inr m) ∙ ap (λ b. cond b w (cell columns other d.0))
        (same_not c.0 d.0 (before_column c columns d a.0 m))

one_or_more : (at : Cells) (cells : List Cell)
    → truth at (is_row_of cells) ≡ all_true at (have_cells cells)
one_or_more at [] = refl
one_or_more at (c ∷ []) = and_true (truth at (has_cell c))
one_or_more at (c ∷ d ∷ cells) = refl

pub meets_is : (columns : List Column) (row other : Row) → AreColumns columns → IsRow columns row
    → IsRow columns other
    → meets columns (is_row_of (row_cells columns row)) other ≡ is_eq (row_cmp other row)
meets_is columns row other a r s =
    one_or_more (named_cells (cell columns other)) (row_cells columns row)
    ∙ all_equal columns row other (cell columns other) a r s (λ d m. refl)

-- ---- the row of its cells

map_same : {X Y : Type 0} (f g : X → Y) (xs : List X) → ((x : X) → In x xs → f x ≡ g x)
    → map f xs ≡ map g xs
map_same f g [] h = refl
map_same f g (x ∷ xs) h = ap (λ y. y ∷ map f xs) (h x (inl refl))
    ∙ ap (λ ys. g x ∷ ys) (map_same f g xs (λ y m. h y (inr m)))

pub row_again : (columns : List Column) (row : Row) → AreColumns columns → IsRow columns row
    → row_of columns (row_cells columns row) ≡ row
row_again [] [] a r = refl
row_again [] (v ∷ row) a r = absurd r
row_again (c ∷ columns) [] a r = absurd r
row_again (c ∷ columns) (v ∷ row) a r =
    ap (λ b. cond b v (given (row_cells columns row) c.0)
    ∷ map (λ (d : Column). given ((c.0, v) ∷ row_cells columns row) d.0) columns)
    (same_itself c.0)
    ∙ ap (λ more. v ∷ more) (map_same (λ (d : Column). given ((c.0, v) ∷ row_cells columns row) d.0)
    (λ (d : Column). given (row_cells columns row) d.0) columns
    (λ d m. ap (λ b. cond b v (given (row_cells columns row) d.0))
    (same_not c.0 d.0 (before_column c columns d a.0 m))) ∙ row_again columns row a.1 r.1)
