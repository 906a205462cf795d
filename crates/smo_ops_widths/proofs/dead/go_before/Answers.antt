use Rattle.std.proofs.Common.{sym, subst, refl}
use Rattle.std.proofs.lemmas.Result.{IfOk-weaker}
use Rattle.std.specs.BTreeSet.{contains}
use Rattle.prima_base.specs.Order.{bytes_cmp}
use Rattle.smo_ops_types.specs.declared.op.Op.{Op}
use Rattle.smo_ops_types.specs.Operators.{operator_of}
use Rattle.smo_ops_widths.specs.Dead.{AreDeadBefore}
use Rattle.smo_ops_widths.proofs.DeadNames.{dead_dropped, dead_alike, dead_altered, dead_without}
use Rattle.smo_ops_widths.proofs.DeadNames.{dead_without_both}
use Rattle.smo_ops_widths.proofs.dead.go_before.Goals as goal

pub returns-in-DropTable : goal.returns-in-DropTable
returns-in-DropTable c = IfOk-weaker c.insert_copy.result _ _ (λ done h.
    subst (λ (o : Op). AreDeadBefore (operator_of o) (contains bytes_cmp c.args.dead.now)
    (contains bytes_cmp c.insert_copy.new.names)) (sym c.in-DropTable.is)
    (dead_dropped c.in-DropTable.table _ _ h)) c.insert_copy.ensures

pub returns-in-Nop : goal.returns-in-Nop
returns-in-Nop c = subst (λ (o : Op). AreDeadBefore (operator_of o) (contains bytes_cmp c.args.dead.now)
    (contains bytes_cmp c.args.dead.now)) (sym c.in-Nop.is)
    (dead_alike _ (contains bytes_cmp c.args.dead.now) refl)

pub returns-in-CreateTable : goal.returns-in-CreateTable
returns-in-CreateTable c = subst (λ (o : Op). AreDeadBefore (operator_of o) (contains bytes_cmp c.args.dead.now)
    (contains bytes_cmp c.args.dead.now)) (sym c.in-CreateTable.is)
    (dead_alike _ (contains bytes_cmp c.args.dead.now) refl)

pub returns-in-AddColumn : goal.returns-in-AddColumn
returns-in-AddColumn c = subst (λ (o : Op). AreDeadBefore (operator_of o) (contains bytes_cmp c.args.dead.now)
    (contains bytes_cmp c.args.dead.now)) (sym c.in-AddColumn.is)
    (dead_altered _ c.in-AddColumn.table (contains bytes_cmp c.args.dead.now) refl (λ tables n. refl))

pub returns-in-DropColumn : goal.returns-in-DropColumn
returns-in-DropColumn c = subst (λ (o : Op). AreDeadBefore (operator_of o) (contains bytes_cmp c.args.dead.now)
    (contains bytes_cmp c.args.dead.now)) (sym c.in-DropColumn.is)
    (dead_altered _ c.in-DropColumn.table (contains bytes_cmp c.args.dead.now) refl (λ tables n. refl))

pub returns-in-RenameColumn : goal.returns-in-RenameColumn
returns-in-RenameColumn c = subst (λ (o : Op). AreDeadBefore (operator_of o) (contains bytes_cmp c.args.dead.now)
    (contains bytes_cmp c.args.dead.now)) (sym c.in-RenameColumn.is)
    (dead_altered _ c.in-RenameColumn.table (contains bytes_cmp c.args.dead.now) refl (λ tables n. refl))

pub returns-in-RenameTable : goal.returns-in-RenameTable
returns-in-RenameTable c = subst (λ (o : Op). AreDeadBefore (operator_of o) (contains bytes_cmp c.args.dead.now)
    (contains bytes_cmp c.remove.new.names)) (sym c.in-RenameTable.is)
    (dead_without _ c.in-RenameTable.table _ _ refl c.remove.ensures)

pub returns-in-CopyTable : goal.returns-in-CopyTable
returns-in-CopyTable c = subst (λ (o : Op). AreDeadBefore (operator_of o) (contains bytes_cmp c.args.dead.now)
    (contains bytes_cmp c.remove-in-CopyTable.new.names)) (sym c.in-CopyTable.is)
    (dead_without _ c.in-CopyTable.table _ _ refl c.remove-in-CopyTable.ensures)

pub returns-in-PartitionTable : goal.returns-in-PartitionTable
returns-in-PartitionTable c = subst (λ (o : Op). AreDeadBefore (operator_of o) (contains bytes_cmp c.args.dead.now)
    (contains bytes_cmp c.remove-in-PartitionTable.new.names)) (sym c.in-PartitionTable.is)
    (dead_without _ c.in-PartitionTable.table _ _ refl c.remove-in-PartitionTable.ensures)

pub returns-in-DecomposeTable : goal.returns-in-DecomposeTable
returns-in-DecomposeTable c = subst (λ (o : Op). AreDeadBefore (operator_of o) (contains bytes_cmp c.args.dead.now)
    (contains bytes_cmp c.remove-in-DecomposeTable.new.names)) (sym c.in-DecomposeTable.is)
    (dead_without _ c.in-DecomposeTable.table _ _ refl c.remove-in-DecomposeTable.ensures)

pub returns-in-MergeTable : goal.returns-in-MergeTable
returns-in-MergeTable c = subst (λ (o : Op). AreDeadBefore (operator_of o) (contains bytes_cmp c.args.dead.now)
    (contains bytes_cmp c.remove-in-MergeTable-2.new.names)) (sym c.in-MergeTable.is)
    (dead_without_both _ c.in-MergeTable.left c.in-MergeTable.right _ _ _ refl c.remove-in-MergeTable.ensures
    c.remove-in-MergeTable-2.ensures)

pub returns-in-JoinTable : goal.returns-in-JoinTable
returns-in-JoinTable c = subst (λ (o : Op). AreDeadBefore (operator_of o) (contains bytes_cmp c.args.dead.now)
    (contains bytes_cmp c.remove-in-JoinTable-2.new.names)) (sym c.in-JoinTable.is)
    (dead_without_both _ c.in-JoinTable.left c.in-JoinTable.right _ _ _ refl c.remove-in-JoinTable.ensures
    c.remove-in-JoinTable-2.ensures)
