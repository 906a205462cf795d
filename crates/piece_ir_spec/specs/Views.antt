-- Views: what a made table is, over the tables before.
use Rattle.std.specs.Prelude.{ℕ, List, [], ◌∷◌, if◌then◌else◌}
use Rattle.cond_expr.specs.declared.expr.Whose.TheVariants.{Atom}
use Rattle.cond_expr.specs.Trees.{Tree, column, Test}
use Rattle.smo_ops_spec.specs.OneRow.{same}

-- Of each choice of one row per atom that meets all parts, a row: in each column that is named it
-- has the output, and in any other what the first atom's row has there. No part: each choice.
pub record PlainView : Type 0 where
  pub atoms : List (List ℕ)
  pub parts : List Test
  pub outs : List (List ℕ × Tree)

-- the output in a column
abbrev pub out_of : List (List ℕ × Tree) → List ℕ → Tree
out_of [] n = column (Atom 0) n
out_of (o ∷ outs) n = if same o.0 n then o.1 else out_of outs n

-- all rows of one table, as they are
abbrev pub whole : List ℕ → PlainView
whole a = record { atoms = a ∷ []; parts = []; outs = [] }

-- for each table that an operator makes, its views: the table is their union
abbrev pub Views : Type 0
Views = List (List ℕ × List PlainView)

-- the views of any table: of one that is not made, the whole table
abbrev pub views_of : Views → List ℕ → List PlainView
views_of [] a = whole a ∷ []
views_of (m ∷ views) a = if same m.0 a then m.1 else views_of views a
