use Rattle.std.proofs.Common.{sym, ◌∙◌}
use Rattle.store_image.specs.ImageIn.{TableHolds}
use Rattle.store_image.proofs.KeptTables.{all_next}
use Rattle.store_image.proofs.WrittenParts.{stored_more}
use Rattle.store_image.proofs.image_of_store.put_each_stored.Goals as goal

pub loop-table-preserved : goal.loop-table-preserved
loop-table-preserved g c = record {
  written = stored_more c.loop-table.out.items c.put_stored.new.out.items c.args.tables.now
      c.loop-table.table-index c.table-item.result c.loop-table-test.true (sym c.table-item.is)
      c.in_ok-put_stored.ensures.bytes ∙ c.loop-table.invariant.written;
  holds = all_next TableHolds c.args.tables.now c.loop-table.table-index c.table-item.result
      c.loop-table-test.true (sym c.table-item.is) c.in_ok-put_stored.ensures.holds
      c.loop-table.invariant.holds;
}
