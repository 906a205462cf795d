use Rattle.std.proofs.Common.{◌≡◌, take, map}
use Rattle.std.specs.Prelude.{if◌then◌else◌}
use Rattle.prima_base.specs.Columns.{Column}
use Rattle.smo_ops_spec.specs.OneRow.{same}
use Rattle.smo_ops_columns.proofs.made_column.columns_renamed.Given as goal

abbrev pub invariant-loop-column : goal.invariant-loop-column
invariant-loop-column l = l.made.items ≡ map (λ (c : Column). if same c.0 l.old then (l.new, c.1)
    else c) (take l.column-index l.columns)
