-- The kind of an operator.
use Rattle.prima_base.specs.declared.refusal.OpKind.{OpKind}
use Rattle.prima_base.specs.declared.refusal.OpKind.TheVariants.{Nop, CreateTable, DropTable}
use Rattle.prima_base.specs.declared.refusal.OpKind.TheVariants.{RenameTable, CopyTable, MergeTable}
use Rattle.prima_base.specs.declared.refusal.OpKind.TheVariants.{PartitionTable, DecomposeTable}
use Rattle.prima_base.specs.declared.refusal.OpKind.TheVariants.{JoinTable, AddColumn, DropColumn}
use Rattle.prima_base.specs.declared.refusal.OpKind.TheVariants.{RenameColumn}
use Rattle.smo_ops_types.specs.Operators.{Operator, nop, create_table, drop_table, rename_table}
use Rattle.smo_ops_types.specs.Operators.{copy_table, merge_table, partition_table, decompose_table}
use Rattle.smo_ops_types.specs.Operators.{join_table, add_column, drop_column, rename_column}

abbrev pub operator_kind : Operator → OpKind
operator_kind nop = Nop
operator_kind (create_table r cs) = CreateTable
operator_kind (drop_table r) = DropTable
operator_kind (rename_table r t) = RenameTable
operator_kind (copy_table r t) = CopyTable
operator_kind (merge_table r s t) = MergeTable
operator_kind (partition_table r s c t) = PartitionTable
operator_kind (decompose_table r s xs t ys) = DecomposeTable
operator_kind (join_table r s t c) = JoinTable
operator_kind (add_column c e r) = AddColumn
operator_kind (drop_column c r) = DropColumn
operator_kind (rename_column b r c) = RenameColumn
