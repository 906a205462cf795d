use Rattle.std.proofs.Common.{◌≡◌, ◌++◌, drop}
use Rattle.std.specs.List.{flat_map, AllByRecursion}
use Rattle.smo_ops_types.specs.Operators.{evolutions_of}
use Rattle.command_codec_spec.specs.Encoding.{evolution_bytes}
use Rattle.command_codec_spec.specs.Valid.{IsWritableEvolution, EvolutionNamed}
use Rattle.command_codec_writer.proofs.operator_writer.write_each_op.Given as goal

abbrev pub invariant-loop-op : goal.invariant-loop-op
invariant-loop-op l = record {
  written : l.out.items ++ flat_map evolution_bytes (evolutions_of (drop l.op-index l.ops))
      ≡ l.initial.out.items ++ flat_map evolution_bytes (evolutions_of l.ops);
  named : AllByRecursion EvolutionNamed (evolutions_of (drop l.op-index l.ops))
      → AllByRecursion EvolutionNamed (evolutions_of l.ops);
  fit : AllByRecursion IsWritableEvolution (evolutions_of (drop l.op-index l.ops));
}
