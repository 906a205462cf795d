-- Whether two pieces are one: the same tables, the same condition and the same outputs, as they are
-- written.
use Rattle.std.specs.Prelude.{ℕ, ◌==◌, ◌&&◌, Bool, true, false, List, [], ◌∷◌}
use Rattle.prima_base.specs.Order.{same, value_eq}
use Rattle.cond_expr.specs.declared.expr.Whose.{Whose}
use Rattle.cond_expr.specs.declared.expr.Whose.TheVariants.{Free, Alias, Atom}
use Rattle.cond_expr.specs.Comparisons.{same_way}
use Rattle.cond_expr.specs.Trees.{Tree, column, constant, length_of, joined, choose, Trees}
use Rattle.cond_expr.specs.Trees.{no_trees, a_tree, Test, never, always, compared, all_of, some_of}
use Rattle.cond_expr.specs.Trees.{fails, Tests, no_tests, a_test}
use Rattle.piece_ir_spec.specs.Pieces.{PlainPiece}

abbrev pub same_whose : Whose → Whose → Bool
same_whose Free Free = true
same_whose (Alias a) (Alias b) = same a b
same_whose (Atom i) (Atom j) = i == j
same_whose _ _ = false

abbrev mutual
  pub same_tree : Tree → Tree → Bool
  same_tree (column w n) (column v m) = same_whose w v && same n m
  same_tree (constant v) (constant w) = value_eq v w
  same_tree (length_of t) (length_of u) = same_tree t u
  same_tree (joined ts) (joined us) = same_trees ts us
  same_tree (choose c t u) (choose d v w) = same_test c d && (same_tree t v && same_tree u w)
  same_tree _ _ = false

  pub same_trees : Trees → Trees → Bool
  same_trees no_trees no_trees = true
  same_trees (a_tree t ts) (a_tree u us) = same_tree t u && same_trees ts us
  same_trees _ _ = false

  pub same_test : Test → Test → Bool
  same_test never never = true
  same_test always always = true
  same_test (compared o t u) (compared p v w) = same_way o p && (same_tree t v && same_tree u w)
  same_test (all_of cs) (all_of ds) = same_tests cs ds
  same_test (some_of cs) (some_of ds) = same_tests cs ds
  same_test (fails c) (fails d) = same_test c d
  same_test _ _ = false

  pub same_tests : Tests → Tests → Bool
  same_tests no_tests no_tests = true
  same_tests (a_test c cs) (a_test d ds) = same_test c d && same_tests cs ds
  same_tests _ _ = false

-- the tables, by their names
abbrev pub same_names : List (List ℕ) → List (List ℕ) → Bool
same_names [] [] = true
same_names (a ∷ names) (b ∷ others) = same a b && same_names names others
same_names _ _ = false

abbrev pub same_outs : List (List ℕ × Tree) → List (List ℕ × Tree) → Bool
same_outs [] [] = true
same_outs (a ∷ outs) (b ∷ others) = (same a.0 b.0 && same_tree a.1 b.1) && same_outs outs others
same_outs _ _ = false

abbrev pub same_piece : PlainPiece → PlainPiece → Bool
same_piece p q = same_names p.atoms q.atoms && (same_test p.cond q.cond && same_outs p.outs q.outs)

-- piece by piece
abbrev pub same_pieces : List PlainPiece → List PlainPiece → Bool
same_pieces [] [] = true
same_pieces (p ∷ ps) (q ∷ qs) = same_piece p q && same_pieces ps qs
same_pieces _ _ = false
