-- Expressions whose constants are valid values. Those of a condition come into no value.
use Rattle.std.specs.Prelude.{⊤}
use Rattle.prima_base.specs.Columns.{IsValid}
use Rattle.cond_expr.specs.Trees.{Tree, column, constant, length_of, joined, choose, Trees}
use Rattle.cond_expr.specs.Trees.{no_trees, a_tree}

abbrev mutual
  pub HasValid : Tree → Type 0
  HasValid (column w n) = ⊤
  HasValid (constant v) = IsValid v
  HasValid (length_of t) = HasValid t
  HasValid (joined ts) = HaveValid ts
  HasValid (choose c a b) = HasValid a × HasValid b

  pub HaveValid : Trees → Type 0
  HaveValid no_trees = ⊤
  HaveValid (a_tree t ts) = HasValid t × HaveValid ts
