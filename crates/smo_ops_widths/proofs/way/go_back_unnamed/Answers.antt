use Rattle.std.proofs.Common.{sym, subst}
use Rattle.std.proofs.lemmas.Result.{IfOk-weaker}
use Rattle.prima_base.specs.declared.value.ColType.TheVariants.{Int as INT}
use Rattle.smo_ops_types.specs.declared.op.Op.{Op}
use Rattle.smo_ops_types.specs.Operators.{operator_of}
use Rattle.smo_ops_spec.specs.WaysBack.{blank}
use Rattle.smo_ops_versions_spec.specs.Ways.{step_back}
use Rattle.smo_ops_widths.specs.Widths.{widths_stepped}
use Rattle.smo_ops_widths.specs.Shown.{Show}
use Rattle.smo_ops_widths.specs.AtHand.{all_widths}
use Rattle.smo_ops_widths.proofs.KeptTables.{show_kept}
use Rattle.smo_ops_widths.proofs.way.go_back_unnamed.Goals as goal

pub returns-in-CreateTable : goal.returns-in-CreateTable
returns-in-CreateTable c = λ before loss shown s.
    subst (λ (o : Op). Show (all_widths c.drop_table.new.widths) (widths_stepped
    (step_back loss before (operator_of o)) shown)) (sym c.in-CreateTable.is)
    (c.drop_table.ensures before shown s)

pub returns-in-RenameTable : goal.returns-in-RenameTable
returns-in-RenameTable c = IfOk-weaker c.rename_table.result _ _ (λ done h. λ before loss shown s.
    subst (λ (o : Op). Show (all_widths c.rename_table.new.widths) (widths_stepped
    (step_back loss before (operator_of o)) shown)) (sym c.in-RenameTable.is)
    (h before shown s)) c.rename_table.ensures

pub returns-in-CopyTable : goal.returns-in-CopyTable
returns-in-CopyTable c = λ before loss shown s.
    subst (λ (o : Op). Show (all_widths c.drop_table-in-CopyTable.new.widths) (widths_stepped
    (step_back loss before (operator_of o)) shown)) (sym c.in-CopyTable.is)
    (c.drop_table-in-CopyTable.ensures before shown s)

pub returns-in-PartitionTable : goal.returns-in-PartitionTable
returns-in-PartitionTable c = IfOk-weaker c.merge_table.result _ _ (λ done h. λ before loss shown s.
    subst (λ (o : Op). Show (all_widths c.merge_table.new.widths) (widths_stepped
    (step_back loss before (operator_of o)) shown)) (sym c.in-PartitionTable.is)
    (h before shown s)) c.merge_table.ensures

pub returns-in-DropColumn : goal.returns-in-DropColumn
returns-in-DropColumn c = IfOk-weaker c.fill_column.result _ _ (λ done h. λ before loss shown s.
    subst (λ (o : Op). Show (all_widths c.fill_column.new.widths) (widths_stepped
    (step_back loss before (operator_of o)) shown)) (sym c.in-DropColumn.is)
    (h before (blank INT) shown s)) c.fill_column.ensures

pub returns-in-RenameColumn : goal.returns-in-RenameColumn
returns-in-RenameColumn c = IfOk-weaker c.rename_column.result _ _ (λ done h. λ before loss shown s.
    subst (λ (o : Op). Show (all_widths c.rename_column.new.widths) (widths_stepped
    (step_back loss before (operator_of o)) shown)) (sym c.in-RenameColumn.is)
    (h before shown s)) c.rename_column.ensures

pub returns-in-AddColumn : goal.returns-in-AddColumn
returns-in-AddColumn c = λ before loss shown s.
    subst (λ (o : Op). Show (all_widths c.args.widths.now) (widths_stepped
    (step_back loss before (operator_of o)) shown)) (sym c.in-AddColumn.is)
    (show_kept (all_widths c.args.widths.now) shown before c.in-AddColumn.column
    c.in-AddColumn.table s)
