use Rattle.std.proofs.Common.{◌≡◌, ◌+◌, ◌≤◌, length, map, min, drop}
use Rattle.std.specs.List.{flat_map}
use Rattle.store_image_spec.specs.Encoding.{stored_bytes}
use Rattle.store_image.specs.ImageIn.{kept_line}
use Rattle.store_image.proofs.size.lines_size.Given as goal

abbrev pub invariant-loop-table : goal.invariant-loop-table
invariant-loop-table g l = record {
  counted : min (length (flat_map stored_bytes (map kept_line l.tables))) 18446744073709551615
      ≡ min (l.size + length (flat_map stored_bytes (map kept_line (drop l.table-index l.tables))))
      18446744073709551615;
  fits : l.size ≤ 18446744073709551615;
}
