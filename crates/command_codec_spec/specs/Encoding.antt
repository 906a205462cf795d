-- The bytes of a command: which bytes spell which name, value, expression, condition, operator,
-- change and command. Each has one spelling. Numbers are unsigned, their highest byte first.
use Rattle.std.specs.Prelude.{ℕ, ◌+◌, List, [], ◌∷◌, ◌++◌, length}
use Rattle.std.specs.Int.{w64, cast_unsigned, bytes_high_first}
use Rattle.std.specs.List.{flat_map}
use Rattle.prima_base.specs.Columns.{Column}
use Rattle.prima_base.specs.declared.value.ColType.{ColType}
use Rattle.prima_base.specs.declared.value.ColType.TheVariants.{Int as IntType, Text as TextType}
use Rattle.prima_base.specs.declared.value.Value.{Value}
use Rattle.prima_base.specs.declared.value.Value.TheVariants.{Int, Text}
use Rattle.cond_expr.specs.declared.expr.CmpOp.{CmpOp}
use Rattle.cond_expr.specs.declared.expr.CmpOp.TheVariants.{Eq, Ne, Lt, Le, Gt, Ge}
use Rattle.cond_expr.specs.Trees.{Tree, column, constant, length_of, joined, choose, Trees}
use Rattle.cond_expr.specs.Trees.{no_trees, a_tree, Test, never, always, compared, all_of, some_of}
use Rattle.cond_expr.specs.Trees.{fails, Tests, no_tests, a_test}
use Rattle.cond_expr.specs.Sizes.{count_of}
use Rattle.smo_ops_types.specs.Operators.{Operator, nop, create_table, drop_table, rename_table}
use Rattle.smo_ops_types.specs.Operators.{copy_table, merge_table, partition_table, decompose_table}
use Rattle.smo_ops_types.specs.Operators.{join_table, add_column, drop_column, rename_column}
use Rattle.smo_ops_types.specs.Changes.{PlainChange, insertion, deletion, update}
use Rattle.smo_ops_types.specs.Commands.{PlainBody, changing, evolving, PlainCommand}

-- a number in so many bytes, the highest first
unfoldable pub number : ℕ → ℕ → List ℕ
number k n = bytes_high_first k n

-- the length, and the name
abbrev pub name_bytes : List ℕ → List ℕ
name_bytes n = length n ∷ n

abbrev pub type_tag : ColType → ℕ
type_tag IntType = 0
type_tag TextType = 1

-- an INT is the two's complement in eight bytes; a TEXT, its length in two bytes and itself
abbrev pub value_bytes : Value → List ℕ
value_bytes (Int z) = 0 ∷ number 8 (cast_unsigned w64 z)
value_bytes (Text t) = 1 ∷ number 2 (length t) ++ t

-- ---- expressions and conditions

abbrev pub sign_tag : CmpOp → ℕ
sign_tag Eq = 0
sign_tag Ne = 1
sign_tag Lt = 2
sign_tag Le = 3
sign_tag Gt = 4
sign_tag Ge = 5

-- how many conditions
abbrev pub number_of : Tests → ℕ
number_of no_tests = 0
number_of (a_test c cs) = number_of cs + 1

-- A column is spelled by its name alone: each is of atom 0. A CONCAT has a count of one byte, an
-- AND and an OR one of two.
abbrev mutual
  pub tree_bytes : Tree → List ℕ
  tree_bytes (column w n) = 0 ∷ name_bytes n
  tree_bytes (constant v) = 1 ∷ value_bytes v
  tree_bytes (length_of t) = 2 ∷ tree_bytes t
  tree_bytes (joined ts) = 3 ∷ number 1 (count_of ts) ++ trees_bytes ts
  tree_bytes (choose c a b) = 4 ∷ test_bytes c ++ tree_bytes a ++ tree_bytes b

  pub trees_bytes : Trees → List ℕ
  trees_bytes no_trees = []
  trees_bytes (a_tree t ts) = tree_bytes t ++ trees_bytes ts

  pub test_bytes : Test → List ℕ
  test_bytes never = 0 ∷ []
  test_bytes always = 1 ∷ []
  test_bytes (compared o a b) = 2 ∷ sign_tag o ∷ tree_bytes a ++ tree_bytes b
  test_bytes (all_of cs) = 3 ∷ number 2 (number_of cs) ++ tests_bytes cs
  test_bytes (some_of cs) = 4 ∷ number 2 (number_of cs) ++ tests_bytes cs
  test_bytes (fails c) = 5 ∷ test_bytes c

  pub tests_bytes : Tests → List ℕ
  tests_bytes no_tests = []
  tests_bytes (a_test c cs) = test_bytes c ++ tests_bytes cs

-- ---- operators, changes, commands

-- a count of so many bytes, and each of the list
abbrev pub list_bytes : {A : Type 0} → ℕ → (A → List ℕ) → List A → List ℕ
list_bytes k encode l = number k (length l) ++ flat_map encode l

-- a column's name and its type
abbrev pub column_bytes : Column → List ℕ
column_bytes c = name_bytes c.0 ++ type_tag c.1 ∷ []

abbrev pub operator_bytes : Operator → List ℕ
operator_bytes nop = 0 ∷ []
operator_bytes (create_table r cs) = 1 ∷ name_bytes r ++ list_bytes 1 column_bytes cs
operator_bytes (drop_table r) = 2 ∷ name_bytes r
operator_bytes (rename_table r t) = 3 ∷ name_bytes r ++ name_bytes t
operator_bytes (copy_table r t) = 4 ∷ name_bytes r ++ name_bytes t
operator_bytes (merge_table r s t) = 5 ∷ name_bytes r ++ name_bytes s ++ name_bytes t
operator_bytes (partition_table r s c t) = 6 ∷ name_bytes r ++ name_bytes s ++ test_bytes c
    ++ name_bytes t
operator_bytes (decompose_table r s xs t ys) =
    7 ∷ name_bytes r ++ name_bytes s ++ list_bytes 1 name_bytes xs ++ name_bytes t
    ++ list_bytes 1 name_bytes ys
operator_bytes (join_table r s t c) = 8 ∷ name_bytes r ++ name_bytes s ++ name_bytes t
    ++ test_bytes c
operator_bytes (add_column c e r) = 9 ∷ name_bytes r ++ name_bytes c ++ tree_bytes e
operator_bytes (drop_column c r) = 10 ∷ name_bytes r ++ name_bytes c
operator_bytes (rename_column b r c) = 11 ∷ name_bytes r ++ name_bytes b ++ name_bytes c

-- an operator of a version: one member is spelled as itself; several have a tag of their own, and
-- then how many and each
abbrev pub evolution_bytes : List Operator → List ℕ
evolution_bytes (op ∷ []) = operator_bytes op
evolution_bytes ops = 12 ∷ list_bytes 1 operator_bytes ops

-- a column's name, and its value or what it is set to
abbrev pub cell_bytes : List ℕ × Value → List ℕ
cell_bytes c = name_bytes c.0 ++ value_bytes c.1

abbrev pub set_bytes : List ℕ × Tree → List ℕ
set_bytes s = name_bytes s.0 ++ tree_bytes s.1

abbrev pub change_bytes : PlainChange → List ℕ
change_bytes (insertion t cells) = 0 ∷ name_bytes t ++ list_bytes 4 cell_bytes cells
change_bytes (deletion t c) = 1 ∷ name_bytes t ++ test_bytes c
change_bytes (update t sets c) = 2 ∷ name_bytes t ++ list_bytes 4 set_bytes sets ++ test_bytes c

-- changes; or an operator, and its inverse
abbrev pub body_bytes : PlainBody → List ℕ
body_bytes (changing changes) = 0 ∷ list_bytes 4 change_bytes changes
body_bytes (evolving op inverse) = 1 ∷ evolution_bytes op ++ list_bytes 4 evolution_bytes inverse

abbrev pub command_bytes : PlainCommand → List ℕ
command_bytes c = number 8 c.stamp ++ body_bytes c.body
