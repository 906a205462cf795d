use Rattle.std.proofs.Common.{◌≡◌, take}
use Rattle.smo_ops_spec.specs.Making.{without}
use Rattle.smo_ops_columns.proofs.made_column.columns_without.Given as goal

abbrev pub invariant-loop-column : goal.invariant-loop-column
invariant-loop-column l = l.kept.items ≡ without l.name (take l.column-index l.columns)
