use Rattle.std.proofs.Common.{◌≡◌, drop}
use Rattle.prima_base.specs.Columns.{names_of}
use Rattle.smo_ops_spec.specs.Preconditions.{first_not_among}
use Rattle.smo_ops_spec.specs.Checks.{pair_names}
use Rattle.smo_ops.proofs.check.check_missing.Given as goal

abbrev pub invariant-loop-column : goal.invariant-loop-column
invariant-loop-column l = first_not_among (pair_names l.cells) (names_of l.columns)
    ≡ first_not_among (pair_names l.cells) (names_of (drop l.column-index l.columns))
