use Rattle.std.proofs.Common.{◌≡◌, take}
use Rattle.smo_ops_types.specs.Operators.{operators_of}
use Rattle.smo_ops_types.proofs.copy.copy_ops.Given as goal

abbrev pub invariant-loop-op : goal.invariant-loop-op
invariant-loop-op l = operators_of l.copied.items ≡ operators_of (take l.op-index l.ops)
