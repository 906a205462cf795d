use Rattle.std.proofs.Common.{sym, subst}
use Rattle.std.proofs.lemmas.Result.{IfOk-weaker}
use Rattle.smo_ops_types.specs.declared.op.Op.{Op}
use Rattle.smo_ops_types.specs.Operators.{operator_of}
use Rattle.smo_ops_widths.specs.Widths.{widths_over}
use Rattle.smo_ops_widths.specs.Shown.{Show}
use Rattle.smo_ops_widths.specs.AtHand.{all_widths}
use Rattle.smo_ops_widths.proofs.KeptTables.{show_kept}
use Rattle.smo_ops_widths.proofs.way.carry.Goals as goal

pub returns-in-CreateTable : goal.returns-in-CreateTable
returns-in-CreateTable c = IfOk-weaker c.create_table.result _ _ (λ done h. λ shown s.
    subst (λ (o : Op). Show (all_widths c.create_table.new.widths) (widths_over
    c.args.before.now (operator_of o) shown)) (sym c.in-CreateTable.is)
    (h c.args.before.now c.in-CreateTable.columns.items shown s)) c.create_table.ensures

pub returns-in-DropTable : goal.returns-in-DropTable
returns-in-DropTable c = λ shown s.
    subst (λ (o : Op). Show (all_widths c.drop_table.new.widths) (widths_over
    c.args.before.now (operator_of o) shown)) (sym c.in-DropTable.is)
    (c.drop_table.ensures c.args.before.now shown s)

pub returns-in-RenameTable : goal.returns-in-RenameTable
returns-in-RenameTable c = IfOk-weaker c.rename_table.result _ _ (λ done h. λ shown s.
    subst (λ (o : Op). Show (all_widths c.rename_table.new.widths) (widths_over
    c.args.before.now (operator_of o) shown)) (sym c.in-RenameTable.is)
    (h c.args.before.now shown s)) c.rename_table.ensures

pub returns-in-CopyTable : goal.returns-in-CopyTable
returns-in-CopyTable c = IfOk-weaker c.copy_table.result _ _ (λ done h. λ shown s.
    subst (λ (o : Op). Show (all_widths c.copy_table.new.widths) (widths_over
    c.args.before.now (operator_of o) shown)) (sym c.in-CopyTable.is)
    (h c.args.before.now shown s)) c.copy_table.ensures

pub returns-in-MergeTable : goal.returns-in-MergeTable
returns-in-MergeTable c = IfOk-weaker c.merge_table.result _ _ (λ done h. λ shown s.
    subst (λ (o : Op). Show (all_widths c.merge_table.new.widths) (widths_over
    c.args.before.now (operator_of o) shown)) (sym c.in-MergeTable.is)
    (h c.args.before.now shown s)) c.merge_table.ensures

pub returns-in-PartitionTable : goal.returns-in-PartitionTable
returns-in-PartitionTable c = IfOk-weaker c.partition_table.result _ _ (λ done h. λ shown s.
    subst (λ (o : Op). Show (all_widths c.partition_table.new.widths) (widths_over
    c.args.before.now (operator_of o) shown)) (sym c.in-PartitionTable.is)
    (h c.args.before.now shown s)) c.partition_table.ensures

pub returns-in-DecomposeTable : goal.returns-in-DecomposeTable
returns-in-DecomposeTable c = IfOk-weaker c.decompose_table.result _ _ (λ done h. λ shown s.
    subst (λ (o : Op). Show (all_widths c.decompose_table.new.widths) (widths_over
    c.args.before.now (operator_of o) shown)) (sym c.in-DecomposeTable.is)
    (h c.args.before.now c.in-DecomposeTable.left_columns.items
    c.in-DecomposeTable.right_columns.items shown s)) c.decompose_table.ensures

pub returns-in-AddColumn : goal.returns-in-AddColumn
returns-in-AddColumn c = IfOk-weaker c.add_column.result _ _ (λ done h. λ shown s.
    subst (λ (o : Op). Show (all_widths c.add_column.new.widths) (widths_over
    c.args.before.now (operator_of o) shown)) (sym c.in-AddColumn.is)
    (h c.args.before.now shown s)) c.add_column.ensures

pub returns-in-DropColumn : goal.returns-in-DropColumn
returns-in-DropColumn c = λ shown s.
    subst (λ (o : Op). Show (all_widths c.args.widths.now) (widths_over
    c.args.before.now (operator_of o) shown)) (sym c.in-DropColumn.is)
    (show_kept (all_widths c.args.widths.now) shown c.args.before.now c.in-DropColumn.column
    c.in-DropColumn.table s)

pub returns-in-RenameColumn : goal.returns-in-RenameColumn
returns-in-RenameColumn c = IfOk-weaker c.rename_column.result _ _ (λ done h. λ shown s.
    subst (λ (o : Op). Show (all_widths c.rename_column.new.widths) (widths_over
    c.args.before.now (operator_of o) shown)) (sym c.in-RenameColumn.is)
    (h c.args.before.now shown s)) c.rename_column.ensures
