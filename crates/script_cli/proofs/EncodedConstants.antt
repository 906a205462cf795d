-- The constants of a command that has a spelling are valid, and so are those of an image's
-- versions.
use Rattle.std.proofs.Common.{List, [], ◌∷◌}
use Rattle.std.specs.List.{AllByRecursion}
use Rattle.cond_expr.specs.Trees.{Tree, column, constant, length_of, joined, choose, Trees}
use Rattle.cond_expr.specs.Trees.{no_trees, a_tree, Test, never, always, compared, all_of, some_of}
use Rattle.cond_expr.specs.Trees.{fails, Tests, no_tests, a_test}
use Rattle.smo_ops_types.specs.Operators.{Operator, nop, create_table, drop_table, rename_table}
use Rattle.smo_ops_types.specs.Operators.{copy_table, merge_table, partition_table, decompose_table}
use Rattle.smo_ops_types.specs.Operators.{join_table, add_column, drop_column, rename_column}
use Rattle.smo_ops_types.specs.Commands.{PlainBody, changing, evolving, PlainVersion}
use Rattle.piece_ir_spec.specs.Constants.{ValidInTree, ValidInTrees, ValidInTest, ValidInTests}
use Rattle.piece_ir_spec.specs.Constants.{ValidInOperator, ValidInOperators, ValidInEvolution}
use Rattle.piece_ir_spec.specs.Constants.{AllValidInOperators}
use Rattle.piece_ir_spec.specs.Constants.{ValidInVersions}
use Rattle.store_image_spec.specs.Images.{VersionsNamed}
use Rattle.command_codec_spec.specs.Valid.{TreeNamed, TreesNamed, TestNamed, TestsNamed}
use Rattle.command_codec_spec.specs.Valid.{OperatorNamed, EvolutionNamed, BodyNamed}

mutual
  tree_valid : (t : Tree) → TreeNamed t → ValidInTree t
  tree_valid (column w n) h = tt
  tree_valid (constant v) h = h
  tree_valid (length_of t) h = tree_valid t h
  tree_valid (joined ts) h = trees_valid ts h
  tree_valid (choose c a b) h = (test_valid c h.0, tree_valid a h.1, tree_valid b h.2)

  trees_valid : (ts : Trees) → TreesNamed ts → ValidInTrees ts
  trees_valid no_trees h = tt
  trees_valid (a_tree t ts) h = (tree_valid t h.0, trees_valid ts h.1)

  test_valid : (c : Test) → TestNamed c → ValidInTest c
  test_valid never h = tt
  test_valid always h = tt
  test_valid (compared o a b) h = (tree_valid a h.0, tree_valid b h.1)
  test_valid (all_of cs) h = tests_valid cs h
  test_valid (some_of cs) h = tests_valid cs h
  test_valid (fails c) h = test_valid c h

  tests_valid : (cs : Tests) → TestsNamed cs → ValidInTests cs
  tests_valid no_tests h = tt
  tests_valid (a_test c cs) h = (test_valid c h.0, tests_valid cs h.1)

operator_valid : (op : Operator) → OperatorNamed op → ValidInOperator op
operator_valid nop h = tt
operator_valid (create_table r cs) h = tt
operator_valid (drop_table r) h = tt
operator_valid (rename_table r t) h = tt
operator_valid (copy_table r t) h = tt
operator_valid (merge_table r s t) h = tt
operator_valid (partition_table r s c t) h = test_valid c h.2
operator_valid (decompose_table r s xs t ys) h = tt
operator_valid (join_table r s t c) h = test_valid c h.3
operator_valid (add_column c e r) h = tree_valid e h.2
operator_valid (drop_column c r) h = tt
operator_valid (rename_column b r c) h = tt

operators_valid : (ops : List Operator) → AllByRecursion OperatorNamed ops → ValidInOperators ops
operators_valid [] h = tt
operators_valid (op ∷ ops) h = (operator_valid op h.0, operators_valid ops h.1)

all_valid : (ops : List (List Operator)) → AllByRecursion EvolutionNamed ops
    → AllValidInOperators ops
all_valid [] h = tt
all_valid (op ∷ ops) h = (operators_valid op h.0, all_valid ops h.1)

pub encoded_valid : (b : PlainBody) → BodyNamed b → ValidInEvolution b
encoded_valid (changing changes) h = tt
encoded_valid (evolving op inverse) h = (operators_valid op h.0, all_valid inverse h.1)

pub named_valid : (versions : List PlainVersion) → VersionsNamed versions → ValidInVersions versions
named_valid [] h = tt
named_valid (v ∷ versions) h = (
  encoded_valid (evolving v.op v.inverse) h.0,
  named_valid versions h.1,
)
