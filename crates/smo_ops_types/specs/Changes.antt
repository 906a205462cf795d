-- Changes of rows as plain data, and the one that a change of the code stands for.
use Rattle.std.specs.Prelude.{ℕ, List, map}
use Rattle.prima_base.specs.declared.value.Value.{Value}
use Rattle.cond_expr.specs.Trees.{Tree, Test}
use Rattle.cond_expr.specs.Seen.{tree, test}
use Rattle.cond_expr.specs.declared.expr.Expr.{Expr}
use Rattle.smo_ops_types.specs.declared.change.Change.{Change}
use Rattle.smo_ops_types.specs.declared.change.Change.TheVariants.{Insert, Delete, Update}

pub data PlainChange : Type 0 where
  -- the table, and the value of each named column
  insertion : List ℕ → List (List ℕ × Value) → PlainChange
  -- the table, and which rows go
  deletion : List ℕ → Test → PlainChange
  -- the table, what each named column is to have, and which rows are changed
  update : List ℕ → List (List ℕ × Tree) → Test → PlainChange

abbrev pub set_of_expr : List ℕ × Expr → List ℕ × Tree
set_of_expr s = (s.0, tree s.1)

abbrev pub sets_of : List (List ℕ × Expr) → List (List ℕ × Tree)
sets_of sets = map set_of_expr sets

abbrev pub change_of : Change → PlainChange
change_of (Insert t cells) = insertion t cells.items
change_of (Delete t c) = deletion t (test c)
change_of (Update t sets c) = update t (sets_of sets.items) (test c)

abbrev pub changes_of : List Change → List PlainChange
changes_of changes = map change_of changes

-- the table that a change is of
abbrev pub table_of : PlainChange → List ℕ
table_of (insertion t cells) = t
table_of (deletion t c) = t
table_of (update t sets c) = t
