-- Each token has its counts, and a fact counts a node at least.
use Rattle.std.proofs.Common.{◌≡◌, ℕ, suc, ◌+◌, ◌≤◌, max, Bool, List, [], ◌∷◌, ◌++◌, length, map}
use Rattle.std.proofs.Common.{refl, arith, length-append}
use Rattle.cond_expr.specs.Trees.{Tree, Test}
use Rattle.lexer_spec.specs.Lexemes.{Lexeme}
use Rattle.lexer_combinators.specs.Grammar.{Size}
use Rattle.lexer_trees_spec.specs.Grammar as g
use Rattle.lexer_trees_spec.specs.Grammar.{IsExpr, AreParts, IsFact, AreFacts, IsConj, AreConjs}
use Rattle.lexer_trees_spec.specs.Grammar.{IsCond}
use Rattle.lexer_combinators.specs.TokenCounts.{TokenCounts, AddUp, deepest, deeper, nodes_in}
use Rattle.lexer_trees_spec.specs.TreeCounts.{expr_counts, part_counts, fact_counts, facts_counts}
use Rattle.lexer_trees_spec.specs.TreeCounts.{conj_counts, conjs_counts, cond_counts}

pub opened_length : (ms : List TokenCounts) → length (map deeper ms) ≡ length ms
opened_length [] = refl
opened_length (m ∷ ms) = omega (arith, opened_length ms)

counts_append : (ms ks : List TokenCounts) → length (ms ++ ks) ≡ length ms + length ks
counts_append ms ks = length-append ms ks

length_lexemes : (ms ks : List Lexeme) → length (ms ++ ks) ≡ length ms + length ks
length_lexemes ms ks = length-append ms ks

mutual
  unfolding expr_counts

  pub expr_length : (q : Bool) (e : Tree) (s : Size) (f : List Lexeme) (h : IsExpr q e s f)
      → length (expr_counts q e s f h) ≡ length f
  expr_length q e s f (g.an_int p z h) = refl
  expr_length q e s f (g.a_text p t) = refl
  expr_length q e s f (g.of_atom n h) = refl
  expr_length q e s f (g.of_free n h) = refl
  expr_length q e s f (g.of_alias a n h k) = refl
  expr_length q e s f (g.a_length p x u k h) =
      grind (arith, counts_append, opened_length, length_lexemes, expr_length p x u k h)
  expr_length q e s f (g.a_concat p x l u v k m h hl) =
      grind (
        arith,
        counts_append,
        opened_length,
        length_lexemes,
        expr_length p x u k h,
        part_length p 1 l v m hl,
      )
  expr_length q e s f (g.a_case p c a b u v w k m o hc ha hb) =
      grind (
        arith,
        counts_append,
        opened_length,
        length_lexemes,
        cond_length p c u k hc,
        expr_length p a v m ha,
        expr_length p b w o hb,
      )

  pub part_length : (q : Bool) (j : ℕ) (l : List Tree) (s : Size) (f : List Lexeme)
      (h : AreParts q j l s f) → length (part_counts q j l s f h) ≡ length f
  part_length q j l s f (g.no_part p i) = refl
  part_length q j l s f (g.a_part p i e others u v k m h hl) =
      grind (
        arith,
        counts_append,
        length_lexemes,
        expr_length p e u k h,
        part_length p (i + 1) others v m hl,
      )

  pub fact_length : (q : Bool) (c : Test) (s : Size) (f : List Lexeme) (h : IsFact q c s f)
      → length (fact_counts q c s f h) ≡ length f
  fact_length q c s f (g.negated p d u k h) =
      grind (arith, opened_length, length_lexemes, fact_length p d u k h)
  fact_length q c s f (g.bracketed p d u k h) =
      grind (arith, counts_append, opened_length, length_lexemes, cond_length p d u k h)
  fact_length q c s f (g.truth p) = refl
  fact_length q c s f (g.falsehood p) = refl
  fact_length q c s f (g.comparison p o a b u v k m ha hb) =
      grind (arith, counts_append, length_lexemes, expr_length p a u k ha, expr_length p b v m hb)

  pub facts_length : (q : Bool) (l : List Test) (s : Size) (f : List Lexeme) (h : AreFacts q l s f)
      → length (facts_counts q l s f h) ≡ length f
  facts_length q l s f (g.no_fact p) = refl
  facts_length q l s f (g.a_fact p c others u v k m h hl) =
      grind (
        arith,
        counts_append,
        length_lexemes,
        fact_length p c u k h,
        facts_length p others v m hl,
      )

  pub conj_length : (q : Bool) (c : Test) (s : Size) (f : List Lexeme) (h : IsConj q c s f)
      → length (conj_counts q c s f h) ≡ length f
  conj_length q c s f (g.one_fact p d u k h) = fact_length p d u k h
  conj_length q c s f (g.an_and p d e l u v w k m o hd he hl) =
      grind (
        arith,
        counts_append,
        length_lexemes,
        fact_length p d u k hd,
        fact_length p e v m he,
        facts_length p l w o hl,
      )

  pub conjs_length : (q : Bool) (l : List Test) (s : Size) (f : List Lexeme) (h : AreConjs q l s f)
      → length (conjs_counts q l s f h) ≡ length f
  conjs_length q l s f (g.no_conj p) = refl
  conjs_length q l s f (g.a_conj p c others u v k m h hl) =
      grind (
        arith,
        counts_append,
        length_lexemes,
        conj_length p c u k h,
        conjs_length p others v m hl,
      )

  pub cond_length : (q : Bool) (c : Test) (s : Size) (f : List Lexeme) (h : IsCond q c s f)
      → length (cond_counts q c s f h) ≡ length f
  cond_length q c s f (g.one_conj p d u k h) = conj_length p d u k h
  cond_length q c s f (g.an_or p d e l u v w k m o hd he hl) =
      grind (
        arith,
        counts_append,
        length_lexemes,
        conj_length p d u k hd,
        conj_length p e v m he,
        conjs_length p l w o hl,
      )

-- ---- nodes

pub nodes_append : (ms ks : List TokenCounts) → nodes_in (ms ++ ks) ≡ nodes_in ms + nodes_in ks
nodes_append [] ks = omega arith
nodes_append (m ∷ ms) ks = omega (arith, nodes_append ms ks)

pub nodes_opened : (ms : List TokenCounts) → nodes_in (map deeper ms) ≡ nodes_in ms
nodes_opened [] = refl
nodes_opened (m ∷ ms) = omega (arith, nodes_opened ms)

mutual
  unfolding expr_counts

  pub fact_some : (q : Bool) (c : Test) (s : Size) (f : List Lexeme) (h : IsFact q c s f)
      → 1 ≤ nodes_in (fact_counts q c s f h)
  fact_some q c s f (g.negated p d u k h) = omega arith
  fact_some q c s f (g.bracketed p d u k h) =
      grind (arith, nodes_append, nodes_opened, cond_some p d u k h)
  fact_some q c s f (g.truth p) = omega arith
  fact_some q c s f (g.falsehood p) = omega arith
  fact_some q c s f (g.comparison p o a b u v k m ha hb) = grind (arith, nodes_append)

  pub conj_some : (q : Bool) (c : Test) (s : Size) (f : List Lexeme) (h : IsConj q c s f)
      → 1 ≤ nodes_in (conj_counts q c s f h)
  conj_some q c s f (g.one_fact p d u k h) = fact_some p d u k h
  conj_some q c s f (g.an_and p d e l u v w k m o hd he hl) = grind (arith, nodes_append)

  pub cond_some : (q : Bool) (c : Test) (s : Size) (f : List Lexeme) (h : IsCond q c s f)
      → 1 ≤ nodes_in (cond_counts q c s f h)
  cond_some q c s f (g.one_conj p d u k h) = conj_some p d u k h
  cond_some q c s f (g.an_or p d e l u v w k m o hd he hl) = grind (arith, nodes_append)

mutual
  unfolding expr_counts

  expr_nodes : (q : Bool) (e : Tree) (s : Size) (f : List Lexeme) (h : IsExpr q e s f)
      → nodes_in (expr_counts q e s f h) ≡ s.nodes
  expr_nodes q e s f (g.an_int p z h) = refl
  expr_nodes q e s f (g.a_text p t) = refl
  expr_nodes q e s f (g.of_atom n h) = refl
  expr_nodes q e s f (g.of_free n h) = refl
  expr_nodes q e s f (g.of_alias a n h k) = refl
  expr_nodes q e s f (g.a_length p x u k h) =
      grind (arith, nodes_append, nodes_opened, expr_nodes p x u k h)
  expr_nodes q e s f (g.a_concat p x l u v k m h hl) =
      grind (arith, nodes_append, nodes_opened, expr_nodes p x u k h, part_nodes p 1 l v m hl)
  expr_nodes q e s f (g.a_case p c a b u v w k m o hc ha hb) =
      grind (
        arith,
        nodes_append,
        nodes_opened,
        cond_nodes p c u k hc,
        expr_nodes p a v m ha,
        expr_nodes p b w o hb,
      )

  part_nodes : (q : Bool) (j : ℕ) (l : List Tree) (s : Size) (f : List Lexeme)
      (h : AreParts q j l s f) → nodes_in (part_counts q j l s f h) ≡ s.nodes
  part_nodes q j l s f (g.no_part p i) = refl
  part_nodes q j l s f (g.a_part p i e others u v k m h hl) =
      grind (arith, nodes_append, expr_nodes p e u k h, part_nodes p (i + 1) others v m hl)

  fact_nodes : (q : Bool) (c : Test) (s : Size) (f : List Lexeme) (h : IsFact q c s f)
      → nodes_in (fact_counts q c s f h) ≡ s.nodes
  fact_nodes q c s f (g.negated p d u k h) = grind (arith, nodes_opened, fact_nodes p d u k h)
  fact_nodes q c s f (g.bracketed p d u k h) =
      grind (arith, nodes_append, nodes_opened, cond_nodes p d u k h)
  fact_nodes q c s f (g.truth p) = refl
  fact_nodes q c s f (g.falsehood p) = refl
  fact_nodes q c s f (g.comparison p o a b u v k m ha hb) =
      grind (arith, nodes_append, expr_nodes p a u k ha, expr_nodes p b v m hb)

  facts_nodes : (q : Bool) (l : List Test) (s : Size) (f : List Lexeme) (h : AreFacts q l s f)
      → nodes_in (facts_counts q l s f h) ≡ s.nodes
  facts_nodes q l s f (g.no_fact p) = refl
  facts_nodes q l s f (g.a_fact p c others u v k m h hl) =
      grind (arith, nodes_append, fact_nodes p c u k h, facts_nodes p others v m hl)

  conj_nodes : (q : Bool) (c : Test) (s : Size) (f : List Lexeme) (h : IsConj q c s f)
      → nodes_in (conj_counts q c s f h) ≡ s.nodes
  conj_nodes q c s f (g.one_fact p d u k h) = fact_nodes p d u k h
  conj_nodes q c s f (g.an_and p d e l u v w k m o hd he hl) =
      grind (
        arith,
        nodes_append,
        fact_nodes p d u k hd,
        fact_nodes p e v m he,
        facts_nodes p l w o hl,
      )

  conjs_nodes : (q : Bool) (l : List Test) (s : Size) (f : List Lexeme) (h : AreConjs q l s f)
      → nodes_in (conjs_counts q l s f h) ≡ s.nodes
  conjs_nodes q l s f (g.no_conj p) = refl
  conjs_nodes q l s f (g.a_conj p c others u v k m h hl) =
      grind (arith, nodes_append, conj_nodes p c u k h, conjs_nodes p others v m hl)

  cond_nodes : (q : Bool) (c : Test) (s : Size) (f : List Lexeme) (h : IsCond q c s f)
      → nodes_in (cond_counts q c s f h) ≡ s.nodes
  cond_nodes q c s f (g.one_conj p d u k h) = conj_nodes p d u k h
  cond_nodes q c s f (g.an_or p d e l u v w k m o hd he hl) =
      grind (
        arith,
        nodes_append,
        conj_nodes p d u k hd,
        conj_nodes p e v m he,
        conjs_nodes p l w o hl,
      )

-- ---- depth

deepest_append : (ms ks : List TokenCounts) → deepest (ms ++ ks) ≡ max (deepest ms) (deepest ks)
deepest_append [] ks = omega arith
deepest_append (m ∷ ms) ks = omega (arith, deepest_append ms ks)

opened_depth : (ms : List TokenCounts) → max 1 (deepest (map deeper ms)) ≡ suc (deepest ms)
opened_depth [] = omega arith
opened_depth (m ∷ ms) = omega (arith, opened_depth ms)

mutual
  unfolding expr_counts

  expr_depth : (q : Bool) (e : Tree) (s : Size) (f : List Lexeme) (h : IsExpr q e s f)
      → deepest (expr_counts q e s f h) ≡ s.depth
  expr_depth q e s f (g.an_int p z h) = refl
  expr_depth q e s f (g.a_text p t) = refl
  expr_depth q e s f (g.of_atom n h) = refl
  expr_depth q e s f (g.of_free n h) = refl
  expr_depth q e s f (g.of_alias a n h k) = refl
  expr_depth q e s f (g.a_length p x u k h) =
      grind (arith, deepest_append, opened_depth, expr_depth p x u k h)
  expr_depth q e s f (g.a_concat p x l u v k m h hl) =
      grind (arith, deepest_append, opened_depth, expr_depth p x u k h, part_depth p 1 l v m hl)
  expr_depth q e s f (g.a_case p c a b u v w k m o hc ha hb) =
      grind (
        arith,
        deepest_append,
        opened_depth,
        cond_depth p c u k hc,
        expr_depth p a v m ha,
        expr_depth p b w o hb,
      )

  part_depth : (q : Bool) (j : ℕ) (l : List Tree) (s : Size) (f : List Lexeme)
      (h : AreParts q j l s f) → deepest (part_counts q j l s f h) ≡ s.depth
  part_depth q j l s f (g.no_part p i) = refl
  part_depth q j l s f (g.a_part p i e others u v k m h hl) =
      grind (arith, deepest_append, expr_depth p e u k h, part_depth p (i + 1) others v m hl)

  fact_depth : (q : Bool) (c : Test) (s : Size) (f : List Lexeme) (h : IsFact q c s f)
      → deepest (fact_counts q c s f h) ≡ s.depth
  fact_depth q c s f (g.negated p d u k h) = grind (arith, opened_depth, fact_depth p d u k h)
  fact_depth q c s f (g.bracketed p d u k h) =
      grind (arith, deepest_append, opened_depth, cond_depth p d u k h)
  fact_depth q c s f (g.truth p) = refl
  fact_depth q c s f (g.falsehood p) = refl
  fact_depth q c s f (g.comparison p o a b u v k m ha hb) =
      grind (arith, deepest_append, expr_depth p a u k ha, expr_depth p b v m hb)

  facts_depth : (q : Bool) (l : List Test) (s : Size) (f : List Lexeme) (h : AreFacts q l s f)
      → deepest (facts_counts q l s f h) ≡ s.depth
  facts_depth q l s f (g.no_fact p) = refl
  facts_depth q l s f (g.a_fact p c others u v k m h hl) =
      grind (arith, deepest_append, fact_depth p c u k h, facts_depth p others v m hl)

  conj_depth : (q : Bool) (c : Test) (s : Size) (f : List Lexeme) (h : IsConj q c s f)
      → deepest (conj_counts q c s f h) ≡ s.depth
  conj_depth q c s f (g.one_fact p d u k h) = fact_depth p d u k h
  conj_depth q c s f (g.an_and p d e l u v w k m o hd he hl) =
      grind (
        arith,
        deepest_append,
        fact_depth p d u k hd,
        fact_depth p e v m he,
        facts_depth p l w o hl,
      )

  conjs_depth : (q : Bool) (l : List Test) (s : Size) (f : List Lexeme) (h : AreConjs q l s f)
      → deepest (conjs_counts q l s f h) ≡ s.depth
  conjs_depth q l s f (g.no_conj p) = refl
  conjs_depth q l s f (g.a_conj p c others u v k m h hl) =
      grind (arith, deepest_append, conj_depth p c u k h, conjs_depth p others v m hl)

  cond_depth : (q : Bool) (c : Test) (s : Size) (f : List Lexeme) (h : IsCond q c s f)
      → deepest (cond_counts q c s f h) ≡ s.depth
  cond_depth q c s f (g.one_conj p d u k h) = conj_depth p d u k h
  cond_depth q c s f (g.an_or p d e l u v w k m o hd he hl) =
      grind (
        arith,
        deepest_append,
        conj_depth p d u k hd,
        conj_depth p e v m he,
        conjs_depth p l w o hl,
      )

pub expr_adds_up : (q : Bool) (e : Tree) (s : Size) (f : List Lexeme) (h : IsExpr q e s f)
    → AddUp (expr_counts q e s f h) s f
expr_adds_up q e s f h = (expr_length q e s f h, expr_nodes q e s f h, expr_depth q e s f h)

pub cond_adds_up : (q : Bool) (c : Test) (s : Size) (f : List Lexeme) (h : IsCond q c s f)
    → AddUp (cond_counts q c s f h) s f
cond_adds_up q c s f h = (cond_length q c s f h, cond_nodes q c s f h, cond_depth q c s f h)
