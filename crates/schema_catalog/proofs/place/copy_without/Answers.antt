use Rattle.std.proofs.Common.{◌∙◌}
use Rattle.schema_catalog.proofs.Removing.{kept_unless}
use Rattle.schema_catalog.proofs.place.copy_without.Goals as goal

pub loop-table-preserved : goal.loop-table-preserved
loop-table-preserved c =
    c.in_ok-push_unless.ensures
    ∙ kept_unless c.args.name.now c.loop-table.copied.items c.args.tables.now
    c.loop-table.table-index c.table-item.result c.loop-table-test.true c.table-item.is
    c.loop-table.invariant
