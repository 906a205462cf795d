use Rattle.std.proofs.lemmas.Result.{IfOk-weaker}
use Rattle.std.specs.BTreeSet.{contains}
use Rattle.prima_base.specs.Order.{bytes_cmp}
use Rattle.std.proofs.Common.{sym, subst}
use Rattle.smo_ops_types.specs.declared.op.Op.{Op}
use Rattle.smo_ops_types.specs.Operators.{operator_of}
use Rattle.cond_expr.specs.Seen.{tree, test}
use Rattle.smo_ops_widths.specs.Creating.{LeavesOut}
use Rattle.smo_ops_widths.proofs.NamesInserted.{another, none_left_out, create_leaves, drop_leaves}
use Rattle.smo_ops_widths.proofs.NamesInserted.{add_leaves, less_leaves, other_leaves}
use Rattle.smo_ops_widths.proofs.NamesInserted.{rename_leaves, copy_leaves, merge_leaves}
use Rattle.smo_ops_widths.proofs.NamesInserted.{join_leaves, partition_leaves, decompose_leaves}
use Rattle.smo_ops_widths.proofs.names.insert_named.Goals as goal

pub returns-in-Nop : goal.returns-in-Nop
returns-in-Nop c = λ n f.
    (f, subst (λ (o : Op). LeavesOut (operator_of o) n) (sym c.in-Nop.is) (none_left_out n))

pub returns-in-CreateTable : goal.returns-in-CreateTable
returns-in-CreateTable c = IfOk-weaker c.insert_copy.result _ _ (λ done h. λ n f.
    let both = another n c.in-CreateTable.table (contains bytes_cmp c.args.names.now n)
    (contains bytes_cmp c.insert_copy.new.names n) (h n) f in (
      both.0,
      subst (λ (o : Op). LeavesOut (operator_of o) n) (sym c.in-CreateTable.is)
          (create_leaves n c.in-CreateTable.table both.1 c.in-CreateTable.columns.items),
    )) c.insert_copy.ensures

pub returns-in-DropTable : goal.returns-in-DropTable
returns-in-DropTable c = IfOk-weaker c.insert_copy-in-DropTable.result _ _ (λ done h. λ n f.
    let both = another n c.in-DropTable.table (contains bytes_cmp c.args.names.now n)
    (contains bytes_cmp c.insert_copy-in-DropTable.new.names n) (h n) f in (
      both.0,
      subst (λ (o : Op). LeavesOut (operator_of o) n) (sym c.in-DropTable.is)
          (drop_leaves n c.in-DropTable.table both.1),
    )) c.insert_copy-in-DropTable.ensures

pub returns-in-RenameTable : goal.returns-in-RenameTable
returns-in-RenameTable c = IfOk-weaker c.insert_two.result _ _ (λ done h. λ n f.
    let both = h n f in (
      both.0,
      subst (λ (o : Op). LeavesOut (operator_of o) n) (sym c.in-RenameTable.is)
          (rename_leaves n c.in-RenameTable.table c.in-RenameTable.into both.1),
    )) c.insert_two.ensures

pub returns-in-CopyTable : goal.returns-in-CopyTable
returns-in-CopyTable c = IfOk-weaker c.insert_two-in-CopyTable.result _ _ (λ done h. λ n f.
    let both = h n f in (
      both.0,
      subst (λ (o : Op). LeavesOut (operator_of o) n) (sym c.in-CopyTable.is)
          (copy_leaves n c.in-CopyTable.table c.in-CopyTable.into both.1),
    )) c.insert_two-in-CopyTable.ensures

pub returns-in-MergeTable : goal.returns-in-MergeTable
returns-in-MergeTable c = IfOk-weaker c.insert_three.result _ _ (λ done h. λ n f.
    let both = h n f in (
      both.0,
      subst (λ (o : Op). LeavesOut (operator_of o) n) (sym c.in-MergeTable.is)
          (merge_leaves n c.in-MergeTable.left c.in-MergeTable.right
          c.in-MergeTable.into both.1),
    )) c.insert_three.ensures

pub returns-in-PartitionTable : goal.returns-in-PartitionTable
returns-in-PartitionTable c = IfOk-weaker c.insert_three-in-PartitionTable.result _ _ (λ done h. λ n f.
    let both = h n f in (
      both.0,
      subst (λ (o : Op). LeavesOut (operator_of o) n) (sym c.in-PartitionTable.is)
          (partition_leaves n c.in-PartitionTable.table c.in-PartitionTable.yes
          c.in-PartitionTable.no both.1 (test c.in-PartitionTable.cond)),
    )) c.insert_three-in-PartitionTable.ensures

pub returns-in-DecomposeTable : goal.returns-in-DecomposeTable
returns-in-DecomposeTable c = IfOk-weaker c.insert_three-in-DecomposeTable.result _ _ (λ done h. λ n f.
    let both = h n f in (
      both.0,
      subst (λ (o : Op). LeavesOut (operator_of o) n) (sym c.in-DecomposeTable.is)
          (decompose_leaves n c.in-DecomposeTable.table c.in-DecomposeTable.left
          c.in-DecomposeTable.right both.1 c.in-DecomposeTable.left_columns.items
          c.in-DecomposeTable.right_columns.items),
    )) c.insert_three-in-DecomposeTable.ensures

pub returns-in-JoinTable : goal.returns-in-JoinTable
returns-in-JoinTable c = IfOk-weaker c.insert_three-in-JoinTable.result _ _ (λ done h. λ n f.
    let both = h n f in (
      both.0,
      subst (λ (o : Op). LeavesOut (operator_of o) n) (sym c.in-JoinTable.is)
          (join_leaves n c.in-JoinTable.left c.in-JoinTable.right
          c.in-JoinTable.into both.1 (test c.in-JoinTable.cond)),
    )) c.insert_three-in-JoinTable.ensures

pub returns-in-AddColumn : goal.returns-in-AddColumn
returns-in-AddColumn c = IfOk-weaker c.insert_copy-in-AddColumn.result _ _ (λ done h. λ n f.
    let both = another n c.in-AddColumn.table (contains bytes_cmp c.args.names.now n)
    (contains bytes_cmp c.insert_copy-in-AddColumn.new.names n) (h n) f in (
      both.0,
      subst (λ (o : Op). LeavesOut (operator_of o) n) (sym c.in-AddColumn.is)
          (add_leaves n c.in-AddColumn.table both.1 c.in-AddColumn.column
          (tree c.in-AddColumn.expr)),
    )) c.insert_copy-in-AddColumn.ensures

pub returns-in-DropColumn : goal.returns-in-DropColumn
returns-in-DropColumn c = IfOk-weaker c.insert_copy-in-DropColumn.result _ _ (λ done h. λ n f.
    let both = another n c.in-DropColumn.table (contains bytes_cmp c.args.names.now n)
    (contains bytes_cmp c.insert_copy-in-DropColumn.new.names n) (h n) f in (
      both.0,
      subst (λ (o : Op). LeavesOut (operator_of o) n) (sym c.in-DropColumn.is)
          (less_leaves n c.in-DropColumn.table both.1 c.in-DropColumn.column),
    )) c.insert_copy-in-DropColumn.ensures

pub returns-in-RenameColumn : goal.returns-in-RenameColumn
returns-in-RenameColumn c = IfOk-weaker c.insert_copy-in-RenameColumn.result _ _ (λ done h. λ n f.
    let both = another n c.in-RenameColumn.table (contains bytes_cmp c.args.names.now n)
    (contains bytes_cmp c.insert_copy-in-RenameColumn.new.names n) (h n) f in (
      both.0,
      subst (λ (o : Op). LeavesOut (operator_of o) n) (sym c.in-RenameColumn.is)
          (other_leaves n c.in-RenameColumn.table both.1 c.in-RenameColumn.column
          c.in-RenameColumn.into),
    )) c.insert_copy-in-RenameColumn.ensures
