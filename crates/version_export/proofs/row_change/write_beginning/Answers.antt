use Rattle.std.proofs.lemmas.Result.{on_ok_weaker}
use Rattle.version_export.specs.RowTexts.{shown_row}
use Rattle.version_export.proofs.PartTexts.{row_begun}
use Rattle.version_export.proofs.row_change.write_beginning.Goals as goal

pub returns : goal.returns
returns c = on_ok_weaker c.write_row.result (row_begun c.args.out.now.items c.put.new.out.items
    c.write_part.new.out.items c.write_row.new.out.items c.args.table.now c.columns.result.now
    (shown_row c.args.values.now) c.columns.ensures.value c.in_ok-put.ensures.ok
    c.in_ok-write_part.ensures) c.write_row.ensures
