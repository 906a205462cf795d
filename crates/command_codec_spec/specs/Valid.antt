-- Which commands have a spelling.
use Rattle.std.specs.Prelude.{◌≡◌, ◌<◌, ◌≤◌, ◌^◌, List, [], ◌∷◌, length, ⊤}
use Rattle.std.specs.List.{AllByRecursion}
use Rattle.relations_spec.specs.Spans.{forever}
use Rattle.prima_base.specs.Bytes.{IsName}
use Rattle.prima_base.specs.Columns.{IsValid}
use Rattle.prima_base.specs.Limits.{max_depth}
use Rattle.cond_expr.specs.declared.expr.Whose.TheVariants.{Atom}
use Rattle.cond_expr.specs.Trees.{Tree, column, constant, length_of, joined, choose, Trees}
use Rattle.cond_expr.specs.Trees.{no_trees, a_tree, Test, never, always, compared, all_of, some_of}
use Rattle.cond_expr.specs.Trees.{fails, Tests, no_tests, a_test}
use Rattle.cond_expr.specs.Sizes.{depth_of, test_depth, count_of}
use Rattle.smo_ops_types.specs.Operators.{Operator, nop, create_table, drop_table, rename_table}
use Rattle.smo_ops_types.specs.Operators.{copy_table, merge_table, partition_table, decompose_table}
use Rattle.smo_ops_types.specs.Operators.{join_table, add_column, drop_column, rename_column}
use Rattle.smo_ops_types.specs.Changes.{PlainChange, insertion, deletion, update}
use Rattle.smo_ops_types.specs.Commands.{PlainBody, changing, evolving, PlainCommand}
use Rattle.command_codec_spec.specs.Encoding.{number_of}

-- ---- what a writer asks: each count fits its field, each reference is to atom 0, each tree is no
-- deeper than a tree may be

-- the references and the counts
abbrev mutual
  pub TreeFits : Tree → Type 0
  TreeFits (column w n) = w ≡ Atom 0
  TreeFits (constant v) = ⊤
  TreeFits (length_of t) = TreeFits t
  TreeFits (joined ts) = (count_of ts < 2 ^ 8) × TreesFit ts
  TreeFits (choose c a b) = TestFits c × TreeFits a × TreeFits b

  pub TreesFit : Trees → Type 0
  TreesFit no_trees = ⊤
  TreesFit (a_tree t ts) = TreeFits t × TreesFit ts

  pub TestFits : Test → Type 0
  TestFits never = ⊤
  TestFits always = ⊤
  TestFits (compared o a b) = TreeFits a × TreeFits b
  TestFits (all_of cs) = (number_of cs < 2 ^ 16) × TestsFit cs
  TestFits (some_of cs) = (number_of cs < 2 ^ 16) × TestsFit cs
  TestFits (fails c) = TestFits c

  pub TestsFit : Tests → Type 0
  TestsFit no_tests = ⊤
  TestsFit (a_test c cs) = TestFits c × TestsFit cs

abbrev pub IsWritableTree : Tree → Type 0
IsWritableTree t = TreeFits t × (depth_of t ≤ max_depth)

abbrev pub IsWritableTest : Test → Type 0
IsWritableTest c = TestFits c × (test_depth c ≤ max_depth)

abbrev pub IsWritableOperator : Operator → Type 0
IsWritableOperator nop = ⊤
IsWritableOperator (create_table r cs) = length cs < 2 ^ 8
IsWritableOperator (drop_table r) = ⊤
IsWritableOperator (rename_table r t) = ⊤
IsWritableOperator (copy_table r t) = ⊤
IsWritableOperator (merge_table r s t) = ⊤
IsWritableOperator (partition_table r s c t) = IsWritableTest c
IsWritableOperator (decompose_table r s xs t ys) = (length xs < 2 ^ 8) × (length ys < 2 ^ 8)
IsWritableOperator (join_table r s t c) = IsWritableTest c
IsWritableOperator (add_column c e r) = IsWritableTree e
IsWritableOperator (drop_column c r) = ⊤
IsWritableOperator (rename_column b r c) = ⊤

-- an operator of a version that has one member; of several none is written
abbrev pub HasOneMember : List Operator → Type 0
HasOneMember (op ∷ []) = ⊤
HasOneMember ops = ⊥

abbrev pub IsWritableEvolution : List Operator → Type 0
IsWritableEvolution (op ∷ []) = IsWritableOperator op
IsWritableEvolution ops = ⊥

abbrev pub IsWritableChange : PlainChange → Type 0
IsWritableChange (insertion t cells) = length cells < 2 ^ 32
IsWritableChange (deletion t c) = IsWritableTest c
IsWritableChange (update t sets c) = (length sets < 2 ^ 32)
    × AllByRecursion (λ s. IsWritableTree s.1) sets × IsWritableTest c

abbrev pub IsWritableBody : PlainBody → Type 0
IsWritableBody (changing changes) = (length changes < 2 ^ 32)
    × AllByRecursion IsWritableChange changes
IsWritableBody (evolving op inverse) = IsWritableEvolution op × (length inverse < 2 ^ 32)
    × AllByRecursion IsWritableEvolution inverse

abbrev pub IsWritable : PlainCommand → Type 0
IsWritable c = IsWritableBody c.body

-- each operator of a command, and of its inverse, has one member
abbrev pub HaveOneMember : PlainBody → Type 0
HaveOneMember (changing changes) = ⊤
HaveOneMember (evolving op inverse) = HasOneMember op × AllByRecursion HasOneMember inverse

-- ---- what the types of names, texts, numbers and commands keep: each is a valid one

abbrev mutual
  pub TreeNamed : Tree → Type 0
  TreeNamed (column w n) = IsName n
  TreeNamed (constant v) = IsValid v
  TreeNamed (length_of t) = TreeNamed t
  TreeNamed (joined ts) = TreesNamed ts
  TreeNamed (choose c a b) = TestNamed c × TreeNamed a × TreeNamed b

  pub TreesNamed : Trees → Type 0
  TreesNamed no_trees = ⊤
  TreesNamed (a_tree t ts) = TreeNamed t × TreesNamed ts

  pub TestNamed : Test → Type 0
  TestNamed never = ⊤
  TestNamed always = ⊤
  TestNamed (compared o a b) = TreeNamed a × TreeNamed b
  TestNamed (all_of cs) = TestsNamed cs
  TestNamed (some_of cs) = TestsNamed cs
  TestNamed (fails c) = TestNamed c

  pub TestsNamed : Tests → Type 0
  TestsNamed no_tests = ⊤
  TestsNamed (a_test c cs) = TestNamed c × TestsNamed cs

abbrev pub OperatorNamed : Operator → Type 0
OperatorNamed nop = ⊤
OperatorNamed (create_table r cs) = IsName r × AllByRecursion (λ c. IsName c.0) cs
OperatorNamed (drop_table r) = IsName r
OperatorNamed (rename_table r t) = IsName r × IsName t
OperatorNamed (copy_table r t) = IsName r × IsName t
OperatorNamed (merge_table r s t) = IsName r × IsName s × IsName t
OperatorNamed (partition_table r s c t) = IsName r × IsName s × TestNamed c × IsName t
OperatorNamed (decompose_table r s xs t ys) = IsName r × IsName s × AllByRecursion IsName xs
    × IsName t × AllByRecursion IsName ys
OperatorNamed (join_table r s t c) = IsName r × IsName s × IsName t × TestNamed c
OperatorNamed (add_column c e r) = IsName r × IsName c × TreeNamed e
OperatorNamed (drop_column c r) = IsName r × IsName c
OperatorNamed (rename_column b r c) = IsName r × IsName b × IsName c

abbrev pub EvolutionNamed : List Operator → Type 0
EvolutionNamed ops = AllByRecursion OperatorNamed ops

abbrev pub ChangeNamed : PlainChange → Type 0
ChangeNamed (insertion t cells) = IsName t × AllByRecursion (λ c. IsName c.0 × IsValid c.1) cells
ChangeNamed (deletion t c) = IsName t × TestNamed c
ChangeNamed (update t sets c) = IsName t × AllByRecursion (λ s. IsName s.0 × TreeNamed s.1) sets
    × TestNamed c

abbrev pub BodyNamed : PlainBody → Type 0
BodyNamed (changing changes) = AllByRecursion ChangeNamed changes
BodyNamed (evolving op inverse) = EvolutionNamed op × AllByRecursion EvolutionNamed inverse

-- ---- what has a spelling

abbrev pub IsTree : Tree → Type 0
IsTree t = IsWritableTree t × TreeNamed t

abbrev pub IsTest : Test → Type 0
IsTest c = IsWritableTest c × TestNamed c

abbrev pub IsOperator : Operator → Type 0
IsOperator op = IsWritableOperator op × OperatorNamed op

abbrev pub IsChange : PlainChange → Type 0
IsChange c = IsWritableChange c × ChangeNamed c

abbrev pub IsBody : PlainBody → Type 0
IsBody b = IsWritableBody b × BodyNamed b

-- a stamp is below the last number
abbrev pub IsCommand : PlainCommand → Type 0
IsCommand c = (c.stamp < forever) × IsBody c.body
