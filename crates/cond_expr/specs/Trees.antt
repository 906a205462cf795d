-- Expressions and conditions as plain trees, and what is put for their references.
use Rattle.std.specs.Prelude.{ℕ, List, ⊤}
use Rattle.prima_base.specs.declared.value.Value.{Value}
use Rattle.cond_expr.specs.declared.expr.Whose.{Whose}
use Rattle.cond_expr.specs.declared.expr.Whose.TheVariants.{Free, Alias, Atom}
use Rattle.cond_expr.specs.declared.expr.CmpOp.{CmpOp}

mutual
  pub data Tree : Type 0 where
    column : Whose → List ℕ → Tree
    constant : Value → Tree
    length_of : Tree → Tree
    joined : Trees → Tree
    choose : Test → Tree → Tree → Tree

  pub data Trees : Type 0 where
    no_trees : Trees
    a_tree : Tree → Trees → Trees

  pub data Test : Type 0 where
    never : Test
    always : Test
    compared : CmpOp → Tree → Tree → Test
    all_of : Tests → Test
    some_of : Tests → Test
    fails : Test → Test

  pub data Tests : Type 0 where
    no_tests : Tests
    a_test : Test → Tests → Tests

-- what stands for each reference: a function of whose column it is, and of the column's name
abbrev pub Filling : Type 0
Filling = Whose → List ℕ → Tree

-- trees for the columns of atoms; any other reference stays
abbrev pub for_atoms : (ℕ → List ℕ → Tree) → Filling
for_atoms s Free n = column Free n
for_atoms s (Alias a) n = column (Alias a) n
for_atoms s (Atom i) n = s i n

abbrev mutual
  pub fill : Filling → Tree → Tree
  fill s (column w n) = s w n
  fill s (constant v) = constant v
  fill s (length_of t) = length_of (fill s t)
  fill s (joined ts) = joined (fill_trees s ts)
  fill s (choose c a b) = choose (fill_test s c) (fill s a) (fill s b)

  pub fill_trees : Filling → Trees → Trees
  fill_trees s no_trees = no_trees
  fill_trees s (a_tree t ts) = a_tree (fill s t) (fill_trees s ts)

  pub fill_test : Filling → Test → Test
  fill_test s never = never
  fill_test s always = always
  fill_test s (compared o a b) = compared o (fill s a) (fill s b)
  fill_test s (all_of cs) = all_of (fill_tests s cs)
  fill_test s (some_of cs) = some_of (fill_tests s cs)
  fill_test s (fails c) = fails (fill_test s c)

  pub fill_tests : Filling → Tests → Tests
  fill_tests s no_tests = no_tests
  fill_tests s (a_test c cs) = a_test (fill_test s c) (fill_tests s cs)

abbrev mutual
  -- each reference is one of these
  pub Within : (Whose → List ℕ → Type 0) → Tree → Type 0
  Within P (column w n) = P w n
  Within P (constant v) = ⊤
  Within P (length_of t) = Within P t
  Within P (joined ts) = TreesWithin P ts
  Within P (choose c a b) = TestWithin P c × Within P a × Within P b

  pub TreesWithin : (Whose → List ℕ → Type 0) → Trees → Type 0
  TreesWithin P no_trees = ⊤
  TreesWithin P (a_tree t ts) = Within P t × TreesWithin P ts

  pub TestWithin : (Whose → List ℕ → Type 0) → Test → Type 0
  TestWithin P never = ⊤
  TestWithin P always = ⊤
  TestWithin P (compared o a b) = Within P a × Within P b
  TestWithin P (all_of cs) = TestsWithin P cs
  TestWithin P (some_of cs) = TestsWithin P cs
  TestWithin P (fails c) = TestWithin P c

  pub TestsWithin : (Whose → List ℕ → Type 0) → Tests → Type 0
  TestsWithin P no_tests = ⊤
  TestsWithin P (a_test c cs) = TestWithin P c × TestsWithin P cs
