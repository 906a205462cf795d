-- Operators that can be spelled hold valid constants.
use Rattle.std.proofs.Common.{List, [], ◌∷◌}
use Rattle.std.specs.List.{AllByRecursion}
use Rattle.cond_expr.specs.Trees.{Tree, column, constant, length_of, joined, choose, Trees}
use Rattle.cond_expr.specs.Trees.{no_trees, a_tree}
use Rattle.cond_expr.specs.Constants.{HasValid, HaveValid}
use Rattle.smo_ops_types.specs.Operators.{Operator, nop, create_table, drop_table, rename_table}
use Rattle.smo_ops_types.specs.Operators.{copy_table, merge_table, partition_table, decompose_table}
use Rattle.smo_ops_types.specs.Operators.{join_table, add_column, drop_column, rename_column}
use Rattle.smo_ops_types.specs.Commands.{PlainVersion}
use Rattle.smo_ops_spec.specs.ValidValues.{OperatorHolds, OperatorsHold, AllOperatorsHold}
use Rattle.smo_ops_spec.specs.ValidValues.{VersionsHold}
use Rattle.command_codec_spec.specs.Valid.{TreeNamed, TreesNamed, OperatorNamed, EvolutionNamed}
use Rattle.store_image_spec.specs.Images.{VersionsNamed}

mutual
  tree_holds : (t : Tree) → TreeNamed t → HasValid t
  tree_holds (column w n) h = tt
  tree_holds (constant v) h = h
  tree_holds (length_of t) h = tree_holds t h
  tree_holds (joined ts) h = trees_hold ts h
  tree_holds (choose c a b) h = (tree_holds a h.1, tree_holds b h.2)

  trees_hold : (ts : Trees) → TreesNamed ts → HaveValid ts
  trees_hold no_trees h = tt
  trees_hold (a_tree t ts) h = (tree_holds t h.0, trees_hold ts h.1)

operator_holds : (op : Operator) → OperatorNamed op → OperatorHolds op
operator_holds nop h = tt
operator_holds (create_table r cs) h = tt
operator_holds (drop_table r) h = tt
operator_holds (rename_table r t) h = tt
operator_holds (copy_table r t) h = tt
operator_holds (merge_table r s t) h = tt
operator_holds (partition_table r s c t) h = tt
operator_holds (decompose_table r s xs t ys) h = tt
operator_holds (join_table r s t c) h = tt
operator_holds (add_column c e r) h = tree_holds e h.2
operator_holds (drop_column c r) h = tt
operator_holds (rename_column b r c) h = tt

operators_hold : (ops : List Operator) → AllByRecursion OperatorNamed ops → OperatorsHold ops
operators_hold [] h = tt
operators_hold (op ∷ ops) h = (operator_holds op h.0, operators_hold ops h.1)

all_hold : (ops : List (List Operator)) → AllByRecursion EvolutionNamed ops → AllOperatorsHold ops
all_hold [] h = tt
all_hold (op ∷ ops) h = (operators_hold op h.0, all_hold ops h.1)

pub versions_hold : (versions : List PlainVersion) → VersionsNamed versions → VersionsHold versions
versions_hold [] h = tt
versions_hold (v ∷ versions) h = (
  (operators_hold v.op h.0.0, all_hold v.inverse h.0.1),
  versions_hold versions h.1,
)
