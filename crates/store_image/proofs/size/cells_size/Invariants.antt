use Rattle.std.proofs.Common.{◌≡◌, ◌+◌, ◌≤◌, length, min}
use Rattle.std.specs.List.{flat_map}
use Rattle.store_image_spec.specs.Encoding.{cell_bytes}
use Rattle.store_image.proofs.size.cells_size.Given as goal

abbrev pub invariant-cells : goal.invariant-cells
invariant-cells g l = record {
  counted : min (length (flat_map cell_bytes l.initial.cells)) 18446744073709551615
      ≡ min (l.size + length (flat_map cell_bytes l.cells)) 18446744073709551615;
  fits : l.size ≤ 18446744073709551615;
}

abbrev pub decreases-cells : goal.decreases-cells
decreases-cells g l = length l.cells
