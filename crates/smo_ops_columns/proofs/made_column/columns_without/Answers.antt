use Rattle.std.proofs.Common.{◌∙◌}
use Rattle.smo_ops_columns.proofs.LeftColumns.{kept_unless}
use Rattle.smo_ops_columns.proofs.made_column.columns_without.Goals as goal

pub loop-column-preserved : goal.loop-column-preserved
loop-column-preserved c =
    c.in_ok-push_unless.ensures
    ∙ kept_unless c.args.name.now c.loop-column.kept.items c.args.columns.now
    c.loop-column.column-index c.column-item.result c.loop-column-test.true c.column-item.is
    c.loop-column.invariant
