use Rattle.std.proofs.Common.{◌≡◌, drop}
use Rattle.smo_ops_spec.specs.Preconditions.{type_in}
use Rattle.smo_ops_columns.proofs.column.type_in.Given as goal

abbrev pub invariant-loop-column : goal.invariant-loop-column
invariant-loop-column l = type_in l.columns l.name ≡ type_in (drop l.column-index l.columns) l.name
