-- What is counted at each token of an expression or a condition.
use Rattle.std.specs.Prelude.{ℕ, ◌+◌, Bool, List, [], ◌∷◌, ◌++◌}
use Rattle.cond_expr.specs.Trees.{Tree, Test}
use Rattle.lexer_spec.specs.Lexemes.{Lexeme}
use Rattle.lexer_combinators.specs.Grammar.{Size}
use Rattle.lexer_combinators.specs.TokenCounts.{TokenCounts, plain, node, begins, opened}
use Rattle.lexer_combinators.specs.ListOverflows.{Overflow, count_overflow}
use Rattle.lexer_trees_spec.specs.Grammar as g
use Rattle.lexer_trees_spec.specs.Grammar.{IsExpr, AreParts, IsFact, AreFacts, IsConj, AreConjs}
use Rattle.lexer_trees_spec.specs.Grammar.{IsCond}

-- A comparison counts at its sign, an AND or OR at the first of its words, and each other node at
-- its own first token. LENGTH and CONCAT open at their bracket. A part of a CONCAT after the first
-- begins at the comma before it.
unfoldable mutual
  pub expr_counts : (q : Bool) (e : Tree) (s : Size) (f : List Lexeme) → IsExpr q e s f
      → List TokenCounts
  expr_counts q e s f (g.an_int p z h) = node ∷ []
  expr_counts q e s f (g.a_text p t) = node ∷ []
  expr_counts q e s f (g.of_atom n h) = node ∷ []
  expr_counts q e s f (g.of_free n h) = node ∷ []
  expr_counts q e s f (g.of_alias a n h k) = node ∷ plain ∷ plain ∷ []
  expr_counts q e s f (g.a_length p x u k h) =
      node ∷ opened (plain ∷ (expr_counts p x u k h ++ plain ∷ []))
  expr_counts q e s f (g.a_concat p x l u v k m h hl) =
      node ∷ opened (plain ∷ (expr_counts p x u k h ++ (part_counts p 1 l v m hl ++ plain ∷ [])))
  expr_counts q e s f (g.a_case p c a b u v w k m o hc ha hb) =
      opened (node ∷ plain ∷ (cond_counts p c u k hc ++ plain
      ∷ (expr_counts p a v m ha ++ plain ∷ (expr_counts p b w o hb ++ plain ∷ []))))

  pub part_counts : (q : Bool) (j : ℕ) (l : List Tree) (s : Size) (f : List Lexeme)
      → AreParts q j l s f → List TokenCounts
  part_counts q j l s f (g.no_part p i) = []
  part_counts q j l s f (g.a_part p i e others u v k m h hl) =
      begins (i + 1) ∷ (expr_counts p e u k h ++ part_counts p (i + 1) others v m hl)

  pub fact_counts : (q : Bool) (c : Test) (s : Size) (f : List Lexeme) → IsFact q c s f
      → List TokenCounts
  fact_counts q c s f (g.negated p d u k h) = opened (node ∷ fact_counts p d u k h)
  fact_counts q c s f (g.bracketed p d u k h) =
      opened (plain ∷ (cond_counts p d u k h ++ plain ∷ []))
  fact_counts q c s f (g.truth p) = node ∷ []
  fact_counts q c s f (g.falsehood p) = node ∷ []
  fact_counts q c s f (g.comparison p o a b u v k m ha hb) =
      expr_counts p a u k ha ++ node ∷ expr_counts p b v m hb

  pub facts_counts : (q : Bool) (l : List Test) (s : Size) (f : List Lexeme) → AreFacts q l s f
      → List TokenCounts
  facts_counts q l s f (g.no_fact p) = []
  facts_counts q l s f (g.a_fact p c others u v k m h hl) =
      plain ∷ (fact_counts p c u k h ++ facts_counts p others v m hl)

  pub conj_counts : (q : Bool) (c : Test) (s : Size) (f : List Lexeme) → IsConj q c s f
      → List TokenCounts
  conj_counts q c s f (g.one_fact p d u k h) = fact_counts p d u k h
  conj_counts q c s f (g.an_and p d e l u v w k m o hd he hl) =
      fact_counts p d u k hd ++ node ∷ (fact_counts p e v m he ++ facts_counts p l w o hl)

  pub conjs_counts : (q : Bool) (l : List Test) (s : Size) (f : List Lexeme) → AreConjs q l s f
      → List TokenCounts
  conjs_counts q l s f (g.no_conj p) = []
  conjs_counts q l s f (g.a_conj p c others u v k m h hl) =
      plain ∷ (conj_counts p c u k h ++ conjs_counts p others v m hl)

  pub cond_counts : (q : Bool) (c : Test) (s : Size) (f : List Lexeme) → IsCond q c s f
      → List TokenCounts
  cond_counts q c s f (g.one_conj p d u k h) = conj_counts p d u k h
  cond_counts q c s f (g.an_or p d e l u v w k m o hd he hl) =
      conj_counts p d u k hd ++ node ∷ (conj_counts p e v m he ++ conjs_counts p l w o hl)

-- at which of them a count passes its limit
abbrev pub expr_overflows : (q : Bool) → Overflow (IsExpr q)
expr_overflows q = count_overflow (IsExpr q) (expr_counts q)

abbrev pub cond_overflows : (q : Bool) → Overflow (IsCond q)
cond_overflows q = count_overflow (IsCond q) (cond_counts q)
