use Rattle.std.proofs.Common.{drop}
use Rattle.smo_ops_types.specs.Operators.{evolutions_of}
use Rattle.smo_ops_spec.specs.ValidValues.{AllOperatorsHold}
use Rattle.rewrite.proofs.constants.meet_operators.Given as goal

abbrev pub invariant-loop-op : goal.invariant-loop-op
invariant-loop-op l = AllOperatorsHold (evolutions_of (drop l.op-index l.ops))
    → AllOperatorsHold (evolutions_of l.ops)
