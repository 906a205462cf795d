use Rattle.std.proofs.Common.{◌≡◌, ◌+◌, ◌≤◌, length, min, drop}
use Rattle.std.specs.List.{flat_map}
use Rattle.smo_ops_types.specs.Operators.{evolutions_of}
use Rattle.command_codec_spec.specs.Encoding.{evolution_bytes}
use Rattle.command_codec_writer.proofs.size.ops_size.Given as goal

abbrev pub invariant-loop-item : goal.invariant-loop-item
invariant-loop-item l = record {
  counted : min (length (flat_map evolution_bytes (evolutions_of l.list))) 18446744073709551615
      ≡ min (l.size + length (flat_map evolution_bytes (evolutions_of (drop l.item-index l.list))))
      18446744073709551615;
  fits : l.size ≤ 18446744073709551615;
}
