use Rattle.std.proofs.Common.{◌<◌, length, ap, arith}
use Rattle.std.specs.List.{flat_map}
use Rattle.store_image_spec.specs.Encoding.{cell_bytes}
use Rattle.store_image.proofs.Lengths.{columns_length}
use Rattle.store_image.proofs.size.columns_size.Goals as goal

pub loop-column-preserved : goal.loop-column-preserved
loop-column-preserved g c =
    let columns = c.args.store.now.cells in
    let k = c.loop-column.column in
    let inside : k < length columns = grind (
      arith,
      c.loop-column-test.true,
      c.width-column-end.ensures.cells,
    ) in
    let own = ap (λ l. length (flat_map cell_bytes l)) c.scan_at.ensures in
    record {
      counted = omega (
        arith,
        c.loop-column.invariant.counted,
        columns_length columns k inside,
        own,
        c.cells_size-cells.ensures,
        c.saturating_add.ensures,
        c.saturating_add-size.ensures,
      );
      fits = omega (arith, c.saturating_add-size.ensures);
    }
