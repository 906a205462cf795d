use Rattle.std.proofs.Common.{◌≡◌, drop}
use Rattle.smo_ops_spec.specs.Preconditions.{among}
use Rattle.smo_ops_columns.proofs.name_list.is_among.Given as goal

abbrev pub invariant-loop-other : goal.invariant-loop-other
invariant-loop-other l = among l.name l.names ≡ among l.name (drop l.other-index l.names)
