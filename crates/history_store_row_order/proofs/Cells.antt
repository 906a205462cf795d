-- The writes of several columns, by place.
use Rattle.std.proofs.Common.{◌≡◌, ℕ, zero, suc, ◌+◌, ◌<◌, List, [], ◌∷◌, ◌++◌, length, get_or, set}
use Rattle.std.proofs.Common.{refl, sym, ap, ◌∙◌, arith}
use Rattle.history_store_columns.specs.Log.{Log}
use Rattle.history_store_row_order.specs.Logs.{cells_of}

pub length-cells_of : (columns : List Log) → length (cells_of columns) ≡ length columns
length-cells_of [] = refl
length-cells_of (c ∷ columns) = let e = length-cells_of columns in grind arith

pub cells_of-push : (columns : List Log) (c : Log)
    → cells_of (columns ++ c ∷ []) ≡ cells_of columns ++ c.cells ∷ []
cells_of-push [] c = refl
cells_of-push (d ∷ columns) c = ap (λ cs. d.cells ∷ cs) (cells_of-push columns c)

pub cells_of-set : (columns : List Log) (k : ℕ) (c : Log)
    → cells_of (set columns k c) ≡ set (cells_of columns) k c.cells
cells_of-set [] k c = refl
cells_of-set (d ∷ columns) zero c = refl
cells_of-set (d ∷ columns) (suc k) c = ap (λ cs. d.cells ∷ cs) (cells_of-set columns k c)

pub get_or-cells_of : (columns : List Log) (k : ℕ) (d : Log) → k < length columns
    → get_or (cells_of columns) k [] ≡ (get_or columns k d).cells
get_or-cells_of [] k d h = absurd (omega arith)
get_or-cells_of (c ∷ columns) zero d h = refl
get_or-cells_of (c ∷ columns) (suc k) d h = get_or-cells_of columns k d (omega arith)

pub cells_at : (columns : List Log) (k : ℕ) (r : Log) → k < length columns → r ≡ get_or columns k r
    → get_or (cells_of columns) k [] ≡ r.cells
cells_at columns k r h is = get_or-cells_of columns k r h ∙ ap (λ (c : Log). c.cells) (sym is)

-- a column that is put back with more room
pub cells_kept : (columns : List Log) (k : ℕ) (c d : Log) → k < length columns
    → c.cells ≡ (get_or columns k d).cells → cells_of (set columns k c) ≡ cells_of columns
cells_kept [] k c d h e = absurd (omega arith)
cells_kept (b ∷ columns) zero c d h e = ap (λ x. x ∷ cells_of columns) e
cells_kept (b ∷ columns) (suc k) c d h e = ap (λ xs. b.cells ∷ xs)
    (cells_kept columns k c d (omega arith) e)
