use Rattle.std.proofs.Common.{◌<◌, length, ◌∙◌, arith}
use Rattle.cases_store_tables.proofs.ScannedLaws.{columns_more, columns_valid}
use Rattle.cases_store_tables.proofs.tested_table.take_columns.Goals as goal

pub loop-column-preserved : goal.loop-column-preserved
loop-column-preserved g c =
    let cells = c.args.stored.now.cells in
    let k = c.loop-column.column in
    let inside : k < length cells = grind (
      arith,
      c.loop-column-test.true,
      c.width-column-end.ensures.cells,
    ) in
    let i = c.loop-column.invariant in
    let taken = c.in_ok-take_cells.ensures in
    record {
      taken = columns_more c.loop-column.columns.items c.in_ok-take_cells.field-0
          c.push.new.self.items cells k c.in_ok-push.ensures.items (taken.cells ∙ c.scan_at.ensures)
          inside i.taken;
      valid = columns_valid c.loop-column.columns.items c.in_ok-take_cells.field-0
          c.push.new.self.items c.in_ok-push.ensures.items taken.valid i.valid;
    }
