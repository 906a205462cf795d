use Rattle.std.proofs.Common.{◌≡◌, ◌++◌, length}
use Rattle.std.specs.List.{flat_map}
use Rattle.store_image_spec.specs.Encoding.{cell_bytes}
use Rattle.store_image.specs.ImageIn.{AreValid}
use Rattle.store_image.proofs.image_of_store.put_each_cell.Given as goal

abbrev pub invariant-cells : goal.invariant-cells
invariant-cells g l = record {
  written : l.out.items ++ flat_map cell_bytes l.cells ≡ l.initial.out.items
      ++ flat_map cell_bytes l.initial.cells;
  valid : AreValid l.cells → AreValid l.initial.cells;
}

abbrev pub decreases-cells : goal.decreases-cells
decreases-cells g l = length l.cells
