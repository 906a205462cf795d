-- The columns of atoms, and the kinds of references to them.
use Rattle.std.specs.Prelude.{ℕ, ◌+◌, ◌++◌, List, [], ◌∷◌, map}
use Rattle.prima_base.specs.Columns.{Column}
use Rattle.cond_expr.specs.declared.expr.Column.{Column as AtomColumn}
use Rattle.cond_expr.specs.Kinds.{Kinds, kinds_of}

-- columns, as those of the atom with this number
abbrev pub columns_at : ℕ → List Column → List AtomColumn
columns_at i columns = map (λ (c : Column). record { atom = i; name = c.0; kind = c.1 }) columns

-- those of several atoms, the first of which has this number
abbrev pub atoms_from : ℕ → List (List Column) → List AtomColumn
atoms_from i [] = []
atoms_from i (cs ∷ columns) = columns_at i cs ++ atoms_from (i + 1) columns

abbrev pub kinds_of_atoms : List (List Column) → Kinds
kinds_of_atoms columns = kinds_of (atoms_from 0 columns)
