use Rattle.std.proofs.Common.{◌≡◌, drop}
use Rattle.prima_base.specs.Columns.{names_of}
use Rattle.smo_ops_spec.specs.Preconditions.{first_not_among}
use Rattle.smo_ops_operators.proofs.operator.column_precondition.check_each_known.Given as goal

abbrev pub invariant-loop-name : goal.invariant-loop-name
invariant-loop-name l = first_not_among (names_of l.columns) l.names
    ≡ first_not_among (names_of l.columns) (drop l.name-index l.names)
