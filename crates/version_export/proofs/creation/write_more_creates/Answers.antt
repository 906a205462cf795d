use Rattle.version_export.specs.Statements.{then_creates}
use Rattle.version_export.specs.Written.{tables_seen}
use Rattle.std.proofs.Common.{◌++◌}
use Rattle.version_export.proofs.PartTexts.{one_created}
use Rattle.version_export.proofs.creation.write_more_creates.Goals as goal

pub loop-table-preserved : goal.loop-table-preserved
loop-table-preserved c = one_created c.args.tables.now c.loop-table.table-index
    c.table-item.result c.loop-table.out.items c.put.new.out.items c.write_create.new.out.items
    (c.args.out.now.items ++ then_creates (tables_seen c.args.tables.now)) c.loop-table-test.true
    c.table-item.is c.loop-table.invariant c.in_ok-put.ensures.ok c.in_ok-write_create.ensures
