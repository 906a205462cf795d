use Rattle.std.proofs.Common.{◌∙◌}
use Rattle.smo_ops_columns.proofs.PairedColumns.{kept_named}
use Rattle.smo_ops_columns.proofs.column_cover.columns_named.Goals as goal

pub loop-column-preserved : goal.loop-column-preserved
loop-column-preserved c =
    c.in_ok-push_named.ensures
    ∙ kept_named c.args.names.now c.loop-column.kept.items c.args.columns.now
    c.loop-column.column-index c.column-item.result c.loop-column-test.true c.column-item.is
    c.loop-column.invariant
