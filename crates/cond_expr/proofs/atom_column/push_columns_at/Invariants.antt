use Rattle.std.proofs.Common.{◌≡◌, ◌++◌, drop}
use Rattle.cond_expr.specs.AtomColumns.{columns_at}
use Rattle.cond_expr.proofs.atom_column.push_columns_at.Given as goal

abbrev pub invariant-loop-name : goal.invariant-loop-name
invariant-loop-name l = l.into.items ++ columns_at l.atom (drop l.name-index l.columns)
    ≡ l.initial.into.items ++ columns_at l.atom l.columns
