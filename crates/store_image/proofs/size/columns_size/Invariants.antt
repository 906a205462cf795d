use Rattle.std.proofs.Common.{◌≡◌, ◌+◌, ◌≤◌, length, min, drop}
use Rattle.std.specs.List.{flat_map}
use Rattle.command_codec_spec.specs.Encoding.{list_bytes}
use Rattle.store_image_spec.specs.Encoding.{cell_bytes}
use Rattle.store_image.proofs.size.columns_size.Given as goal

abbrev pub invariant-loop-column : goal.invariant-loop-column
invariant-loop-column g l = record {
  counted : min (length (flat_map (list_bytes 8 cell_bytes) l.store.cells)) 18446744073709551615
      ≡ min (l.size + length (flat_map (list_bytes 8 cell_bytes) (drop l.column l.store.cells)))
      18446744073709551615;
  fits : l.size ≤ 18446744073709551615;
}
