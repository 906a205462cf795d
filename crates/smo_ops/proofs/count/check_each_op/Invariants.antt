use Rattle.std.proofs.Common.{◌≡◌, drop}
use Rattle.std.specs.List.{flat_map}
use Rattle.smo_ops_types.specs.Operators.{operators_of}
use Rattle.smo_ops_spec.specs.First.{first_refusal}
use Rattle.smo_ops_spec.specs.Counts.{operator_counts}
use Rattle.smo_ops_spec.specs.ValidValues.{OperatorsHold}
use Rattle.smo_ops.proofs.count.check_each_op.Given as goal

abbrev pub invariant-loop-op : goal.invariant-loop-op
invariant-loop-op l = record {
  counts : first_refusal (flat_map operator_counts (operators_of l.ops))
      ≡ first_refusal (flat_map operator_counts (operators_of (drop l.op-index l.ops)));
  constants : OperatorsHold (operators_of (drop l.op-index l.ops))
      → OperatorsHold (operators_of l.ops);
}
