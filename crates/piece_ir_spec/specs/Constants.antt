-- What has no constants but valid values: INTs in range, and TEXTs of at most 4,096 valid bytes.
-- Those of conditions count too.
use Rattle.std.specs.Prelude.{ℕ, List, [], ◌∷◌, ⊤}
use Rattle.relations_spec.specs.Sets.{In}
use Rattle.prima_base.specs.Columns.{IsValid}
use Rattle.cond_expr.specs.Trees.{Tree, column, constant, length_of, joined, choose, Trees}
use Rattle.cond_expr.specs.Trees.{no_trees, a_tree, Test, never, always, compared, all_of, some_of}
use Rattle.cond_expr.specs.Trees.{fails, Tests, no_tests, a_test}
use Rattle.smo_ops_types.specs.Operators.{Operator, nop, create_table, drop_table, rename_table}
use Rattle.smo_ops_types.specs.Operators.{copy_table, merge_table, partition_table, decompose_table}
use Rattle.smo_ops_types.specs.Operators.{join_table, add_column, drop_column, rename_column}
use Rattle.smo_ops_types.specs.Commands.{PlainBody, changing, evolving, PlainCommand, PlainVersion}
use Rattle.piece_ir_spec.specs.Pieces.{PlainPiece}
use Rattle.piece_ir_spec.specs.Views.{PlainView}

abbrev mutual
  pub ValidInTree : Tree → Type 0
  ValidInTree (column w n) = ⊤
  ValidInTree (constant v) = IsValid v
  ValidInTree (length_of t) = ValidInTree t
  ValidInTree (joined ts) = ValidInTrees ts
  ValidInTree (choose c a b) = ValidInTest c × ValidInTree a × ValidInTree b

  pub ValidInTrees : Trees → Type 0
  ValidInTrees no_trees = ⊤
  ValidInTrees (a_tree t ts) = ValidInTree t × ValidInTrees ts

  pub ValidInTest : Test → Type 0
  ValidInTest never = ⊤
  ValidInTest always = ⊤
  ValidInTest (compared o a b) = ValidInTree a × ValidInTree b
  ValidInTest (all_of cs) = ValidInTests cs
  ValidInTest (some_of cs) = ValidInTests cs
  ValidInTest (fails c) = ValidInTest c

  pub ValidInTests : Tests → Type 0
  ValidInTests no_tests = ⊤
  ValidInTests (a_test c cs) = ValidInTest c × ValidInTests cs

-- outputs by their names
abbrev pub ValidInOuts : List (List ℕ × Tree) → Type 0
ValidInOuts outs = (o : List ℕ × Tree) → In o outs → ValidInTree o.1

abbrev pub ValidInOperator : Operator → Type 0
ValidInOperator nop = ⊤
ValidInOperator (create_table r cs) = ⊤
ValidInOperator (drop_table r) = ⊤
ValidInOperator (rename_table r t) = ⊤
ValidInOperator (copy_table r t) = ⊤
ValidInOperator (merge_table r s t) = ⊤
ValidInOperator (partition_table r s c t) = ValidInTest c
ValidInOperator (decompose_table r s xs t ys) = ⊤
ValidInOperator (join_table r s t c) = ValidInTest c
ValidInOperator (add_column c e r) = ValidInTree e
ValidInOperator (drop_column c r) = ⊤
ValidInOperator (rename_column b r c) = ⊤

abbrev pub ValidInOperators : List Operator → Type 0
ValidInOperators [] = ⊤
ValidInOperators (op ∷ ops) = ValidInOperator op × ValidInOperators ops

abbrev pub AllValidInOperators : List (List Operator) → Type 0
AllValidInOperators [] = ⊤
AllValidInOperators (op ∷ ops) = ValidInOperators op × AllValidInOperators ops

pub record ValidInView (v : PlainView) : Type 0 where
  pub parts : (c : Test) → In c v.parts → ValidInTest c
  pub outs : ValidInOuts v.outs

pub record ValidInPiece (p : PlainPiece) : Type 0 where
  pub cond : ValidInTest p.cond
  pub outs : ValidInOuts p.outs

abbrev pub ValidInPieces : List PlainPiece → Type 0
ValidInPieces ps = (p : PlainPiece) → In p ps → ValidInPiece p

-- the members of each version's operator, and of those of its inverse
abbrev pub ValidInVersions : List PlainVersion → Type 0
ValidInVersions [] = ⊤
ValidInVersions (v ∷ versions) = (ValidInOperators v.op × AllValidInOperators v.inverse)
    × ValidInVersions versions

-- what leads to a next version, and back from it; changes lead to none
abbrev pub ValidInEvolution : PlainBody → Type 0
ValidInEvolution (changing changes) = ⊤
ValidInEvolution (evolving op inverse) = ValidInOperators op × AllValidInOperators inverse

abbrev pub ValidInEvolutions : List PlainCommand → Type 0
ValidInEvolutions [] = ⊤
ValidInEvolutions (c ∷ commands) = ValidInEvolution c.body × ValidInEvolutions commands
