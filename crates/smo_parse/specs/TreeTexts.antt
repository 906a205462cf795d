-- The canonical texts of expressions and conditions, byte for byte.
use Rattle.std.specs.Prelude.{ℕ, Bool, true, false, List, [], ◌∷◌, ◌++◌, ◌==◌, codes, decimal}
use Rattle.std.specs.Prelude.{if◌then◌else◌}
use Rattle.std.specs.Fmt.{signed_decimal}
use Rattle.prima_base.specs.declared.value.Value.{Value}
use Rattle.prima_base.specs.declared.value.Value.TheVariants.{Int, Text}
use Rattle.cond_expr.specs.declared.expr.Whose.{Whose}
use Rattle.cond_expr.specs.declared.expr.Whose.TheVariants.{Free, Alias, Atom}
use Rattle.cond_expr.specs.declared.expr.CmpOp.{CmpOp}
use Rattle.cond_expr.specs.declared.expr.CmpOp.TheVariants.{Eq, Ne, Lt, Le, Gt, Ge}
use Rattle.cond_expr.specs.Trees.{Tree, Trees, Test, Tests, column, constant, length_of, joined}
use Rattle.cond_expr.specs.Trees.{choose, no_trees, a_tree, never, always, compared, all_of}
use Rattle.cond_expr.specs.Trees.{some_of, fails, no_tests, a_test}

-- each quote is doubled
abbrev pub doubled : List ℕ → List ℕ
doubled [] = []
doubled (b ∷ bytes) = if b == 39 then 39 ∷ 39 ∷ doubled bytes else b ∷ doubled bytes

-- a number, or a text in quotes
abbrev pub value_text : Value → List ℕ
value_text (Int n) = signed_decimal n
value_text (Text bytes) = codes "'" ++ doubled bytes ++ codes "'"

-- a column of an atom by its name alone, or as `t0.name` where atoms are numbered
abbrev pub reference_text : Bool → Whose → List ℕ → List ℕ
reference_text numbered Free n = n
reference_text numbered (Alias a) n = a ++ codes "." ++ n
reference_text false (Atom i) n = n
reference_text true (Atom i) n = codes "t" ++ decimal i ++ codes "." ++ n

abbrev pub sign_text : CmpOp → List ℕ
sign_text Eq = codes "="
sign_text Ne = codes "<>"
sign_text Lt = codes "<"
sign_text Le = codes "<="
sign_text Gt = codes ">"
sign_text Ge = codes ">="

-- in brackets, or not
abbrev pub bracketed : Bool → List ℕ → List ℕ
bracketed false bytes = bytes
bracketed true bytes = codes "(" ++ bytes ++ codes ")"

-- The first flag tells whether atoms are numbered, and the second whether a condition is a part of
-- another: then an AND and an OR stand in brackets.
abbrev mutual
  pub tree_text : Bool → Tree → List ℕ
  tree_text q (column w n) = reference_text q w n
  tree_text q (constant v) = value_text v
  tree_text q (length_of t) = codes "LENGTH(" ++ tree_text q t ++ codes ")"
  tree_text q (joined ts) = codes "CONCAT(" ++ trees_text q ts ++ codes ")"
  tree_text q (choose c a b) = codes "CASE WHEN " ++ test_text q false c ++ codes " THEN "
      ++ tree_text q a ++ codes " ELSE " ++ tree_text q b ++ codes " END"

  -- with commas between them
  pub trees_text : Bool → Trees → List ℕ
  trees_text q no_trees = []
  trees_text q (a_tree t ts) = tree_text q t ++ more_trees_text q ts

  -- each after a comma
  pub more_trees_text : Bool → Trees → List ℕ
  more_trees_text q no_trees = []
  more_trees_text q (a_tree t ts) = codes ", " ++ tree_text q t ++ more_trees_text q ts

  pub test_text : Bool → Bool → Test → List ℕ
  test_text q part never = codes "FALSE"
  test_text q part always = codes "TRUE"
  test_text q part (compared o a b) = tree_text q a ++ codes " " ++ sign_text o ++ codes " "
      ++ tree_text q b
  test_text q part (all_of cs) = bracketed part (tests_text q (codes "TRUE") (codes " AND ") cs)
  test_text q part (some_of cs) = bracketed part (tests_text q (codes "FALSE") (codes " OR ") cs)
  test_text q part (fails c) = codes "NOT " ++ test_text q true c

  -- what stands for none; one alone, in brackets; or all with the word between them
  pub tests_text : Bool → List ℕ → List ℕ → Tests → List ℕ
  tests_text q none word no_tests = none
  tests_text q none word (a_test c no_tests) = codes "(" ++ test_text q false c ++ codes ")"
  tests_text q none word (a_test c (a_test d cs)) =
      test_text q true c ++ more_tests_text q word (a_test d cs)

  -- each after the word
  pub more_tests_text : Bool → List ℕ → Tests → List ℕ
  more_tests_text q word no_tests = []
  more_tests_text q word (a_test c cs) = word ++ test_text q true c ++ more_tests_text q word cs
