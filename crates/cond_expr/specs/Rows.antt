-- What the columns of a flat row hold, and which rows are valid.
use Rattle.std.specs.Prelude.{ℕ, List, [], ◌∷◌, map, Bool, true, false, cond, ◌&&◌, ◌==◌, pos, ⊤}
use Rattle.prima_base.specs.declared.value.Value.{Value}
use Rattle.prima_base.specs.declared.value.Value.TheVariants.{Int}
use Rattle.prima_base.specs.declared.value.Val.{Val}
pub use Rattle.prima_base.specs.Columns.{IsValid}
pub use Rattle.prima_base.specs.Order.{same, AreBorrowed}
use Rattle.prima_base.specs.Order.{shown, is_borrowed}
use Rattle.cond_expr.specs.declared.expr.Whose.{Whose}
use Rattle.cond_expr.specs.declared.expr.Whose.TheVariants.{Free, Alias, Atom}
use Rattle.cond_expr.specs.declared.expr.Column.{Column}
use Rattle.cond_expr.specs.Values.{Cells}

-- the reference names this column
abbrev pub names : Whose → List ℕ → Column → Bool
names Free n c = false
names (Alias a) n c = false
names (Atom i) n c = (c.atom == i) && same n c.name

-- what a reference stands for in a row of one value a column: the first column that it names
-- decides
abbrev pub cells : List Column → List Value → Cells
cells [] row w n = Int (pos 0)
cells (c ∷ cs) [] w n = Int (pos 0)
cells (c ∷ cs) (v ∷ row) w n = cond (names w n c) v (cells cs row w n)

-- the same in the row that such values show
abbrev pub flat : List Column → List Val → Cells
flat columns vs = cells columns (map shown vs)

abbrev pub AreValid : List Val → Type 0
AreValid [] = ⊤
AreValid (v ∷ vs) = IsValid (shown v) × AreValid vs

-- whether what a reference stands for is such a text
abbrev pub lies_elsewhere : List Column → List Val → Whose → List ℕ → Bool
lies_elsewhere [] vs w n = false
lies_elsewhere (c ∷ cs) [] w n = false
lies_elsewhere (c ∷ cs) (v ∷ vs) w n = cond (names w n c) (is_borrowed v) (lies_elsewhere cs vs w n)
