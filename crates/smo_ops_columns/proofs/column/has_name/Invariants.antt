use Rattle.std.proofs.Common.{◌≡◌, drop}
use Rattle.smo_ops_spec.specs.Preconditions.{among}
use Rattle.smo_ops_spec.specs.Checks.{pair_names}
use Rattle.smo_ops_columns.proofs.column.has_name.Given as goal

abbrev pub invariant-loop-other : goal.invariant-loop-other
invariant-loop-other g l = among l.name (pair_names l.pairs)
    ≡ among l.name (pair_names (drop l.other-index l.pairs))
