-- Schema modification operators as plain data, and the one that an operator of the code stands for.
use Rattle.std.specs.Prelude.{ℕ, List, [], ◌∷◌, map}
use Rattle.prima_base.specs.Columns.{Column}
use Rattle.cond_expr.specs.Trees.{Tree, Test}
use Rattle.cond_expr.specs.Seen.{tree, test}
use Rattle.smo_ops_types.specs.declared.op.Op.{Op}
use Rattle.smo_ops_types.specs.declared.op.Op.TheVariants.{Nop, CreateTable, DropTable, RenameTable}
use Rattle.smo_ops_types.specs.declared.op.Op.TheVariants.{CopyTable, MergeTable, PartitionTable}
use Rattle.smo_ops_types.specs.declared.op.Op.TheVariants.{DecomposeTable, JoinTable, AddColumn}
use Rattle.smo_ops_types.specs.declared.op.Op.TheVariants.{DropColumn, RenameColumn}

pub data Operator : Type 0 where
  nop : Operator
  -- the table, its columns
  create_table : List ℕ → List Column → Operator
  drop_table : List ℕ → Operator
  -- the table, its new name
  rename_table : List ℕ → List ℕ → Operator
  copy_table : List ℕ → List ℕ → Operator
  -- the two tables, the new name
  merge_table : List ℕ → List ℕ → List ℕ → Operator
  -- the table, the one of the rows that meet the condition, the condition, the one of the others
  partition_table : List ℕ → List ℕ → Test → List ℕ → Operator
  -- the table, the first part and its columns, the second part and its columns
  decompose_table : List ℕ → List ℕ → List (List ℕ) → List ℕ → List (List ℕ) → Operator
  -- the two tables, the new name, the condition
  join_table : List ℕ → List ℕ → List ℕ → Test → Operator
  -- the column, what it has, the table
  add_column : List ℕ → Tree → List ℕ → Operator
  -- the column, the table
  drop_column : List ℕ → List ℕ → Operator
  -- the column, the table, the column's new name
  rename_column : List ℕ → List ℕ → List ℕ → Operator

abbrev pub operator_of : Op → Operator
operator_of Nop = nop
operator_of (CreateTable r cs) = create_table r cs.items
operator_of (DropTable r) = drop_table r
operator_of (RenameTable r t) = rename_table r t
operator_of (CopyTable r t) = copy_table r t
operator_of (MergeTable r s t) = merge_table r s t
operator_of (PartitionTable r s c t) = partition_table r s (test c) t
operator_of (DecomposeTable r s xs t ys) = decompose_table r s xs.items t ys.items
operator_of (JoinTable r s t c) = join_table r s t (test c)
operator_of (AddColumn c e r) = add_column c (tree e) r
operator_of (DropColumn c r) = drop_column c r
operator_of (RenameColumn b r c) = rename_column b r c

abbrev pub operators_of : List Op → List Operator
operators_of ops = map operator_of ops

-- what makes a version is a list of operators, its members, one after the other: an operator of the
-- code is the one member
abbrev pub evolution_of : Op → List Operator
evolution_of op = operator_of op ∷ []

abbrev pub evolutions_of : List Op → List (List Operator)
evolutions_of ops = map (λ o. o ∷ []) (operators_of ops)
