use Rattle.std.proofs.Common.{◌≡◌, ◌++◌, drop}
use Rattle.cond_expr.specs.AtomColumns.{atoms_from}
use Rattle.plain_answers_spec.specs.Branches.{item_columns}
use Rattle.temporal_lang.proofs.atom.columns_of_items.Given as goal

abbrev pub invariant-loop-i : goal.invariant-loop-i
invariant-loop-i l = l.columns.items ++ atoms_from l.i (item_columns l.schema (drop l.i l.from))
    ≡ atoms_from 0 (item_columns l.schema l.from)
