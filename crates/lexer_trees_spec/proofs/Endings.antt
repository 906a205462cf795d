-- Whether what is spelled ends in a column of no alias, which a point and a name could still
-- follow.
use Rattle.std.proofs.Common.{Bool, true, false, List}
use Rattle.cond_expr.specs.Trees.{Tree, Test}
use Rattle.lexer_spec.specs.Lexemes.{Lexeme}
use Rattle.lexer_combinators.specs.Grammar.{Size}
use Rattle.lexer_trees_spec.specs.Grammar as g
use Rattle.lexer_trees_spec.specs.Grammar.{IsExpr, IsFact, AreFacts, IsConj, AreConjs, IsCond}

abbrev mutual
  pub expr_free : (q : Bool) (e : Tree) (s : Size) (f : List Lexeme) → IsExpr q e s f → Bool
  expr_free q e s f (g.an_int p z h) = false
  expr_free q e s f (g.a_text p t) = false
  expr_free q e s f (g.of_atom n h) = false
  expr_free q e s f (g.of_free n h) = true
  expr_free q e s f (g.of_alias a n h k) = false
  expr_free q e s f (g.a_length p x u k h) = false
  expr_free q e s f (g.a_concat p x l u v k m h hl) = false
  expr_free q e s f (g.a_case p c a b u v w k m o hc ha hb) = false

  pub fact_free : (q : Bool) (c : Test) (s : Size) (f : List Lexeme) → IsFact q c s f → Bool
  fact_free q c s f (g.negated p d u k h) = fact_free p d u k h
  fact_free q c s f (g.bracketed p d u k h) = false
  fact_free q c s f (g.truth p) = false
  fact_free q c s f (g.falsehood p) = false
  fact_free q c s f (g.comparison p o a b u v k m ha hb) = expr_free p b v m hb

  -- after a part that ends so or not
  pub facts_free : Bool → (q : Bool) (l : List Test) (s : Size) (f : List Lexeme) → AreFacts q l s f
      → Bool
  facts_free before q l s f (g.no_fact p) = before
  facts_free before q l s f (g.a_fact p c others u v k m h hl) =
      facts_free (fact_free p c u k h) p others v m hl

  pub conj_free : (q : Bool) (c : Test) (s : Size) (f : List Lexeme) → IsConj q c s f → Bool
  conj_free q c s f (g.one_fact p d u k h) = fact_free p d u k h
  conj_free q c s f (g.an_and p d e l u v w k m o hd he hl) =
      facts_free (fact_free p e v m he) p l w o hl

  pub conjs_free : Bool → (q : Bool) (l : List Test) (s : Size) (f : List Lexeme) → AreConjs q l s f
      → Bool
  conjs_free before q l s f (g.no_conj p) = before
  conjs_free before q l s f (g.a_conj p c others u v k m h hl) =
      conjs_free (conj_free p c u k h) p others v m hl

  pub cond_free : (q : Bool) (c : Test) (s : Size) (f : List Lexeme) → IsCond q c s f → Bool
  cond_free q c s f (g.one_conj p d u k h) = conj_free p d u k h
  cond_free q c s f (g.an_or p d e l u v w k m o hd he hl) =
      conjs_free (conj_free p e v m he) p l w o hl
