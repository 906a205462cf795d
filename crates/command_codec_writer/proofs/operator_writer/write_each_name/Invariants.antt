use Rattle.std.proofs.Common.{◌≡◌, ◌++◌, drop}
use Rattle.std.specs.List.{flat_map, AllByRecursion}
use Rattle.prima_base.specs.Bytes.{IsName}
use Rattle.command_codec_spec.specs.Encoding.{name_bytes}
use Rattle.command_codec_writer.proofs.operator_writer.write_each_name.Given as goal

abbrev pub invariant-loop-name : goal.invariant-loop-name
invariant-loop-name l = record {
  written : l.out.items ++ flat_map name_bytes (drop l.name-index l.names) ≡ l.initial.out.items
      ++ flat_map name_bytes l.names;
  named : AllByRecursion IsName (drop l.name-index l.names) → AllByRecursion IsName l.names;
}
