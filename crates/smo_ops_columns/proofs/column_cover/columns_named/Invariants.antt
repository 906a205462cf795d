use Rattle.std.proofs.Common.{◌≡◌, take}
use Rattle.smo_ops_spec.specs.Making.{named}
use Rattle.smo_ops_columns.proofs.column_cover.columns_named.Given as goal

abbrev pub invariant-loop-column : goal.invariant-loop-column
invariant-loop-column l = l.kept.items ≡ named l.names (take l.column-index l.columns)
