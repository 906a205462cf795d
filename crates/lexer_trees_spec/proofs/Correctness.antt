-- Each reader of expressions and conditions is good for its grammar.
use Rattle.std.proofs.Common.{inl, inr, ◌≡◌, ℕ, zero, suc, pos, Bool, true, false, cond, List, []}
use Rattle.std.proofs.Common.{◌∷◌, ◌++◌, refl, sym, ap, ◌∙◌, subst, append_assoc, ◌||◌, ◌&&◌, codes}
use Rattle.std.proofs.Common.{Option, Some, None}
use Rattle.prima_base.specs.declared.refusal.What.TheVariants as what
use Rattle.prima_base.specs.declared.value.Value.TheVariants.{Int, Text}
use Rattle.cond_expr.specs.declared.expr.Whose.TheVariants.{Free, Atom}
use Rattle.cond_expr.specs.declared.expr.CmpOp.{CmpOp}
use Rattle.cond_expr.specs.declared.expr.CmpOp.TheVariants.{Eq, Ne, Lt, Le, Gt, Ge}
use Rattle.cond_expr.specs.Trees.{Tree, Test, column, constant, length_of, joined, choose as chosen}
use Rattle.cond_expr.specs.Trees.{never, always, compared, all_of, some_of, fails, a_tree, a_test}
use Rattle.cond_expr.specs.Seen.{trees_of, tests_of}
use Rattle.lexer_spec.specs.Lexemes.{Lexeme, word, number, text, sign, is_word, is_sign}
use Rattle.lexer_spec.specs.Lexemes.{is_name, is_int}
use Rattle.lexer_combinators.specs.Grammar.{Grammar}
use Rattle.lexer_combinators.specs.Parsing.{Parser, Stops, IsCorrectParser, bind, pure, lead, Arm}
use Rattle.lexer_combinators.specs.Parsing.{No, Counts, choose, map_to, more, nodes_more, fresh}
use Rattle.lexer_combinators.specs.Grammar.{Size, nothing_counted, both, one_node, so_wide}
use Rattle.lexer_combinators.specs.Grammar.{AreMore, no_end}
use Rattle.lexer_combinators.specs.Grammar as grammar
use Rattle.lexer_trees_spec.specs.Grammar as g
use Rattle.lexer_trees_spec.specs.Grammar.{comparison_lexeme, leaf, IsExpr, AreParts, IsFact}
use Rattle.lexer_trees_spec.specs.Grammar.{AreFacts}
use Rattle.lexer_trees_spec.specs.Grammar.{IsConj}
use Rattle.lexer_trees_spec.specs.Grammar.{AreConjs, IsCond}
use Rattle.lexer_trees_spec.specs.Constants.{name, name_grammar}
use Rattle.lexer_trees_spec.specs.Reader.{Level, ref_rest, sign_op, op_arm, bracket, opens}
use Rattle.lexer_trees_spec.specs.Reader.{length_rest}
use Rattle.lexer_trees_spec.specs.Reader.{concat_rest, case_rest, atom_arm, expr_arm, expr}
use Rattle.lexer_trees_spec.specs.Reader.{comparison}
use Rattle.lexer_trees_spec.specs.Reader.{bracketed, fact_arm, fact, facts, conj, conjs}
use Rattle.lexer_trees_spec.specs.Reader.{cond as whole}
use Rattle.lexer_trees_spec.specs.Reader.{nothing, made, level, outermost, follow_expr, follow_conj}
use Rattle.lexer_trees_spec.specs.Reader.{follow_cond}
use Rattle.lexer_spec.proofs.Cases.{true_false}
use Rattle.lexer_combinators.proofs.Parsing.{ArmCorrect, Live, correct_iff, bind_correct}
use Rattle.lexer_combinators.proofs.Parsing.{pure_correct, map_correct, lead_correct}
use Rattle.lexer_combinators.proofs.Parsing.{pick_open_correct, option_node_correct}
use Rattle.lexer_combinators.proofs.Parsing.{option_takes_correct, more_correct, nodes_correct}
use Rattle.lexer_combinators.proofs.Parsing.{bind_more, side, choose_correct, arm_if}
use Rattle.lexer_combinators.proofs.Parsing.{counts_correct, opens_correct, bracket_correct}
use Rattle.lexer_combinators.proofs.Parsing.{whole_correct, open_correct, bind_lead, bind_option}
use Rattle.lexer_combinators.proofs.Fresh.{fresh_correct}
use Rattle.lexer_trees_spec.proofs.Singles.{name_correct, name_is}
use Rattle.lexer_spec.proofs.LexemeTests.{word_exact, sign_exact, word_is, sign_is}
use Rattle.lexer_trees_spec.proofs.Grammar.{CASE, WHEN, THEN, ELSE, END, LENGTH, CONCAT, AND, OR}
use Rattle.lexer_trees_spec.proofs.Grammar.{NOT}
use Rattle.lexer_trees_spec.proofs.Grammar.{TRUE, FALSE, OPEN, CLOSE, COMMA, POINT, aliased}
use Rattle.lexer_trees_spec.proofs.Grammar.{alias_grammar, ref_grammar, insideLength_grammar}
use Rattle.lexer_trees_spec.proofs.Grammar.{length_grammar, insideConcat_grammar, concat_grammar}
use Rattle.lexer_trees_spec.proofs.Grammar.{case_grammar, expr_inv, length_up, concat_up, case_up}
use Rattle.lexer_trees_spec.proofs.Grammar.{not_name, length_down, concat_down, case_down}
use Rattle.lexer_trees_spec.proofs.Grammar.{atom_down}
use Rattle.lexer_trees_spec.proofs.Grammar.{expr_not_none, op_grammar, right_grammar, cmp_grammar}
use Rattle.lexer_trees_spec.proofs.Grammar.{bracket_grammar, not_grammar, fact_inv, cmp_up}
use Rattle.lexer_trees_spec.proofs.Grammar.{bracket_up}
use Rattle.lexer_trees_spec.proofs.Grammar.{not_up, not_down, bracket_down, true_down, false_down}
use Rattle.lexer_trees_spec.proofs.Grammar.{cmp_down, fact_not_none, fact_nodes, conj_nodes}
use Rattle.lexer_trees_spec.proofs.Grammar.{and_grammar, or_grammar, conj_up, conj_down, cond_up}
use Rattle.lexer_trees_spec.proofs.Grammar.{cond_down}

-- ---- references and constants

module _ (d : ℕ) where
  ref_correct : (q : Bool) (n : List ℕ) → IsCorrectParser 0 d (ref_rest q n) (ref_grammar q n)
      (follow_expr q)
  unfolding ref_rest
  ref_correct false n = pure_correct 0 d (column (Atom 0) n) (follow_expr false)
  ref_correct true n = option_takes_correct (is_sign POINT) (sign POINT) (sign_is POINT)
      (sign_exact POINT) 0 d (map_to (λ m. aliased n m) name) (column Free n) (alias_grammar n)
      (follow_expr true) (λ x e. ap (λ b. b && true) e)
      (map_correct 0 d (λ m. aliased n m) name name_grammar (follow_expr true)
      (name_correct 0 d (follow_expr true)))

  alias_up : (a n : List ℕ) (s : Size) (m : List Lexeme) → is_name a ≡ true → name_grammar n s m
      → IsExpr true (aliased a n) (one_node s) (word a ∷ sign POINT ∷ m)
  alias_up a n s m e h = let k = name_is h.0 n h.1 in rw (h.2, h.3, k.0) (g.of_alias a n e k.1)

  ref_up : (q : Bool) (n : List ℕ) → is_name n ≡ true → (t : Tree) (s : Size) (l : List Lexeme)
      → ref_grammar q n t s l → IsExpr q t (one_node s) (word n ∷ l)
  ref_up false n e t s l h = rw (h.0, h.1, h.2) (g.of_atom n e)
  ref_up true n e t s l (inl h) = rw (h.0, h.1, h.2) (g.of_free n e)
  ref_up true n e t s l (inr h) = rw (h.1, h.2.1) (alias_up n h.2.0 s h.0 e h.2.2)

  module _ (q : Bool) where
    atom_arms : (x : Lexeme) → is_word LENGTH x ≡ false → is_word CONCAT x ≡ false
        → is_word CASE x ≡ false → ArmCorrect 0 d (atom_arm q true nothing x) x (IsExpr q)
        (follow_expr q)
    atom_arms (word n) e1 e2 e3 = arm_if 0 d (is_name n) (Counts (ref_rest q n)) No (word n)
        (IsExpr q) (follow_expr q)
        (λ e. counts_correct 0 d (ref_rest q n) (word n) (IsExpr q) (ref_grammar q n)
        (follow_expr q) (ref_up q n e) (λ t s l h. let k =
        atom_down q t s (word n) l e1 e2 e3 (expr_inv q t s (word n ∷ l) h) in k.1)
        (ref_correct q n))
        (λ e t s l h. let k = atom_down q t s (word n) l e1 e2 e3 (expr_inv q t s (word n ∷ l) h) in
        not_name n e k.0)
    atom_arms (number z) e1 e2 e3 = arm_if 0 d (is_int z) (Counts (pure (constant (Int z)))) No
        (number z) (IsExpr q) (follow_expr q)
        (λ e. counts_correct 0 d (pure (constant (Int z))) (number z) (IsExpr q)
        (grammar.pure (constant (Int z))) (follow_expr q)
        (λ t s l h. rw (h.0, h.1, h.2) (g.an_int q z e))
        (λ t s l h. let k = atom_down q t s (number z) l e1 e2 e3
        (expr_inv q t s (number z ∷ l) h) in k.1)
        (pure_correct 0 d (constant (Int z)) (follow_expr q)))
        (λ e t s l h. let k = atom_down q t s (number z) l e1 e2 e3
        (expr_inv q t s (number z ∷ l) h) in true_false (sym k.0 ∙ e))
    atom_arms (text z) e1 e2 e3 =
        counts_correct 0 d (pure (constant (Text z))) (text z) (IsExpr q)
        (grammar.pure (constant (Text z))) (follow_expr q)
        (λ t s l h. rw (h.0, h.1, h.2) (g.a_text q z))
        (λ t s l h. atom_down q t s (text z) l e1 e2 e3 (expr_inv q t s (text z ∷ l) h))
        (pure_correct 0 d (constant (Text z)) (follow_expr q))
    atom_arms (sign z) e1 e2 e3 = λ t s l h. atom_down q t s (sign z) l e1 e2 e3
        (expr_inv q t s (sign z ∷ l) h)

-- ---- one level

pub record LevelCorrect (q : Bool) (d : ℕ) (L : Level) : Type 0 where
  pub expr : IsCorrectParser 0 d L.expr (IsExpr q) (follow_expr q)
  pub cond : IsCorrectParser 0 d L.cond (IsCond q) (follow_cond q)
  pub fact : IsCorrectParser 0 d L.fact (IsFact q) (follow_expr q)

-- a constant
one : Tree
one = constant (Int (pos 1))

abbrev a_one : (q : Bool) → IsExpr q (constant (Int (pos 1))) leaf (number (pos 1) ∷ [])
a_one q = g.an_int q (pos 1) refl

true_cond : (q : Bool) → IsCond q always leaf (word TRUE ∷ [])
true_cond q = g.one_conj q always leaf (word TRUE ∷ [])
    (g.one_fact q always leaf (word TRUE ∷ []) (g.truth q))

module _ (q may : Bool) (d : ℕ) (inside : Level) (deep : may ≡ true → (e : ℕ) × (d ≡ suc e)
    × LevelCorrect q e inside) (shallow : may ≡ false → d ≡ 0) where
  -- what is good inside is good as a part that is open
  opened : {A : Type 0} (p : Parser A) (G : Grammar A) (follow : Lexeme → Bool)
      → ((e : ℕ) → LevelCorrect q e inside → IsCorrectParser 0 e p G follow) → may ≡ true
      → IsCorrectParser 0 d p (grammar.opened G) follow
  opened p G follow h m = let k = deep m in let P : ℕ
      → Type 0 = λ n. IsCorrectParser 0 n p (grammar.opened G) follow in
      subst P (sym k.1) (open_correct 0 k.0 p G follow (h k.0 k.2))

  close_correct : {A : Type 0} (e : ℕ) (a : A)
      → IsCorrectParser 0 e (lead (is_sign CLOSE) (pure a))
      (grammar.lead (sign CLOSE) (grammar.pure a)) (follow_expr q)
  close_correct e a = lead_correct (is_sign CLOSE) (sign CLOSE) (sign_is CLOSE) (sign_exact CLOSE) 0
      e (pure a) (grammar.pure a) (follow_expr q) (pure_correct 0 e a (follow_expr q))

  length_correct : IsCorrectParser 0 d (length_rest q may inside) (length_grammar q) (follow_expr q)
  unfolding length_rest
  length_correct = pick_open_correct (is_sign OPEN) (sign OPEN) (sign_is OPEN) (sign_exact OPEN) 0 d
      may (bind inside.expr (λ e. lead (is_sign CLOSE) (pure (length_of e))))
      (insideLength_grammar q) (follow_expr q) (
        length_of (constant (Int (pos 1))),
        both leaf nothing_counted,
        number (pos 1) ∷ sign CLOSE ∷ [],
        (
          constant (Int (pos 1)),
          leaf,
          nothing_counted,
          number (pos 1) ∷ [],
          sign CLOSE ∷ [],
          refl,
          refl,
          a_one q,
          ([], refl, (refl, refl, refl)),
        ),
      )
      (opened (bind inside.expr (λ e. lead (is_sign CLOSE) (pure (length_of e))))
      (insideLength_grammar q) (follow_expr q) (λ e L.
      bind_lead 0 e inside.expr (λ a. lead (is_sign CLOSE) (pure (length_of a))) (IsExpr q)
      (sign CLOSE) (λ a. grammar.pure (length_of a)) (follow_expr q) (follow_expr q) refl L.expr
      (λ a. close_correct e (length_of a))))
      shallow

  abbrev parts : Parser (List Tree)
  parts = more (is_sign COMMA) what.Parts inside.expr 7

  abbrev PartsGrammar : Grammar (List Tree)
  PartsGrammar = AreMore (sign COMMA) (so_wide what.Parts) (IsExpr q) 1

  abbrev follow_parts : Lexeme → Bool
  follow_parts x = is_sign COMMA x || follow_expr q x

  parts_side : (e : ℕ) (L : LevelCorrect q e inside) (a b : Tree) (s : Size) (ts rest : List Lexeme)
      → grammar.seq PartsGrammar (λ l. grammar.lead (sign CLOSE)
      (grammar.pure (joined (a_tree a (trees_of l))))) b s ts → Stops (follow_expr q) rest
      → Stops (follow_expr q) (ts ++ rest)
  parts_side e L a b s ts rest h stops =
      let P : List Lexeme → Type 0 = λ u. Stops (follow_expr q) u in
      let Q : List Lexeme → Type 0 = λ u. Stops follow_parts (u ++ rest) in
      subst P (sym (ap (λ u. u ++ rest) h.6 ∙ append_assoc h.3 h.4 rest))
      (side (is_sign COMMA) (sign COMMA) (sign_is COMMA) (sign_exact COMMA) e inside.expr (IsExpr q)
      (follow_expr q) L.expr refl (so_wide what.Parts) 1 h.0 h.1 h.3 (h.4 ++ rest) h.7
      (subst Q (sym h.8.1) refl))

  concat_correct : IsCorrectParser 0 d (concat_rest q may inside) (concat_grammar q) (follow_expr q)
  unfolding concat_rest
  concat_correct = pick_open_correct (is_sign OPEN) (sign OPEN) (sign_is OPEN) (sign_exact OPEN) 0 d
      may (bind inside.expr (λ a. bind parts (λ l.
      lead (is_sign CLOSE) (pure (joined (a_tree a (trees_of l))))))) (insideConcat_grammar q)
      (follow_expr q) (
        joined (a_tree (constant (Int (pos 1))) (trees_of [])),
        both leaf (both (so_wide what.Parts 1) nothing_counted),
        number (pos 1) ∷ sign CLOSE ∷ [],
        (
          constant (Int (pos 1)),
          leaf,
          both (so_wide what.Parts 1) nothing_counted,
          number (pos 1) ∷ [],
          sign CLOSE ∷ [],
          refl,
          refl,
          a_one q,
          (
            [],
            so_wide what.Parts 1,
            nothing_counted,
            [],
            sign CLOSE ∷ [],
            refl,
            refl,
            (refl, refl),
            ([], refl, (refl, refl, refl)),
          ),
        ),
      )
      (opened (bind inside.expr (λ a. bind parts
      (λ l. lead (is_sign CLOSE) (pure (joined (a_tree a (trees_of l)))))))
      (insideConcat_grammar q) (follow_expr q) (λ e L.
      bind_correct 0 e inside.expr (λ a. bind parts
      (λ l. lead (is_sign CLOSE) (pure (joined (a_tree a (trees_of l)))))) (IsExpr q)
      (λ a. grammar.seq PartsGrammar (λ l.
      grammar.lead (sign CLOSE) (grammar.pure (joined (a_tree a (trees_of l))))))
      (follow_expr q) (follow_expr q) L.expr (λ a.
      bind_lead 0 e parts (λ l. lead (is_sign CLOSE) (pure (joined (a_tree a (trees_of l)))))
      PartsGrammar (sign CLOSE) (λ l. grammar.pure (joined (a_tree a (trees_of l))))
      follow_parts (follow_expr q) refl
      (more_correct (is_sign COMMA) (sign COMMA) (sign_is COMMA) (sign_exact COMMA) e inside.expr
      (IsExpr q) (follow_expr q) L.expr refl what.Parts (λ s n h. h) 7 1 refl)
      (λ l. close_correct e (joined (a_tree a (trees_of l)))))
      (parts_side e L)))
      shallow

  case_correct : may ≡ true → IsCorrectParser 0 d (case_rest q may inside)
      (grammar.opened (case_grammar q)) (follow_expr q)
  unfolding case_rest
  case_correct = opened (lead (is_word WHEN) (bind inside.cond
      (λ c. lead (is_word THEN) (bind inside.expr
      (λ a. lead (is_word ELSE) (bind inside.expr
      (λ b. lead (is_word END) (pure (chosen c a b))))))))) (case_grammar q) (follow_expr q) (λ e L.
      lead_correct (is_word WHEN) (word WHEN) (word_is WHEN) (word_exact WHEN) 0 e _ _
      (follow_expr q)
      (bind_lead 0 e inside.cond _ (IsCond q) (word THEN) _ (follow_cond q) (follow_expr q) refl
      L.cond (λ c.
      lead_correct (is_word THEN) (word THEN) (word_is THEN) (word_exact THEN) 0 e _ _
      (follow_expr q)
      (bind_lead 0 e inside.expr _ (IsExpr q) (word ELSE) _ (follow_expr q) (follow_expr q) refl
      L.expr (λ a.
      lead_correct (is_word ELSE) (word ELSE) (word_is ELSE) (word_exact ELSE) 0 e _ _
      (follow_expr q)
      (bind_lead 0 e inside.expr _ (IsExpr q) (word END) _ (follow_expr q) (follow_expr q) refl
      L.expr (λ b.
      lead_correct (is_word END) (word END) (word_is END) (word_exact END) 0 e _ _ (follow_expr q)
      (pure_correct 0 e (chosen c a b) (follow_expr q)))))))))

  abbrev at : Arm Tree → Lexeme → Type 0
  at r x = ArmCorrect 0 d r x (IsExpr q) (follow_expr q)

  case_live : Live (word CASE) (IsExpr q)
  case_live = (
    _,
    _,
    _,
    g.a_case q always (constant (Int (pos 1))) (constant (Int (pos 1))) leaf
        leaf leaf (word TRUE ∷ []) (number (pos 1) ∷ []) (number (pos 1) ∷ []) (true_cond q)
        (a_one q) (a_one q),
  )

  expr_arms : (x : Lexeme) → ArmCorrect 0 d (expr_arm q may inside x) x (IsExpr q) (follow_expr q)
  expr_arms x = arm_if 0 d (is_word LENGTH x) (Counts (length_rest q may inside)) _ x (IsExpr q)
      (follow_expr q)
      (λ e. subst (at (Counts (length_rest q may inside))) (sym (word_exact LENGTH x e))
      (counts_correct 0 d (length_rest q may inside) (word LENGTH) (IsExpr q) (length_grammar q)
      (follow_expr q) (length_up q) (λ a s l h.
      length_down q a s l (expr_inv q a s (word LENGTH ∷ l) h)) length_correct)) (λ e1.
      arm_if 0 d (is_word CONCAT x) (Counts (concat_rest q may inside)) _ x (IsExpr q)
      (follow_expr q)
      (λ e. subst (at (Counts (concat_rest q may inside))) (sym (word_exact CONCAT x e))
      (counts_correct 0 d (concat_rest q may inside) (word CONCAT) (IsExpr q) (concat_grammar q)
      (follow_expr q) (concat_up q) (λ a s l h.
      concat_down q a s l (expr_inv q a s (word CONCAT ∷ l) h)) concat_correct)) (λ e2.
      arm_if 0 d (is_word CASE x) (opens q may inside (case_rest q may inside)) _ x (IsExpr q)
      (follow_expr q)
      (λ e. subst (at (opens q may inside (case_rest q may inside))) (sym (word_exact CASE x e))
      (opens_correct 0 d may (case_rest q may inside) (word CASE) (IsExpr q) (case_grammar q)
      (follow_expr q) case_live (case_up q)
      (λ a s l h. case_down q a s l (expr_inv q a s (word CASE ∷ l) h)) case_correct shallow))
      (λ e3.
      atom_arms d q x e1 e2 e3)))

  pub expr_correct : IsCorrectParser 0 d (expr q may inside) (IsExpr q) (follow_expr q)
  unfolding expr
  expr_correct = choose_correct 0 d (expr_arm q may inside) (IsExpr q) (follow_expr q)
      (constant (Int (pos 1)), leaf, number (pos 1) ∷ [], a_one q) (expr_not_none q) expr_arms

  -- ---- comparisons

  spelled_op : (o : CmpOp) → sign_op (comparison_lexeme o) ≡ Some o
  spelled_op Eq = refl
  spelled_op Ne = refl
  spelled_op Lt = refl
  spelled_op Le = refl
  spelled_op Gt = refl
  spelled_op Ge = refl

  no_point : (o : CmpOp) → follow_expr q (comparison_lexeme o) ≡ false
  no_point Eq = refl
  no_point Ne = refl
  no_point Lt = refl
  no_point Le = refl
  no_point Gt = refl
  no_point Ge = refl

  right_correct : (a : Tree) (o : CmpOp) → IsCorrectParser 0 d
      (map_to (λ b. compared o a b) (expr q may inside)) (right_grammar q a o) (follow_expr q)
  right_correct a o = map_correct 0 d (λ b. compared o a b) (expr q may inside) (IsExpr q)
      (follow_expr q) expr_correct

  abbrev compare_grammar : Tree → Grammar Test
  compare_grammar a = op_grammar (λ o. grammar.node (right_grammar q a o))

  compare_down : (a : Tree) (o : CmpOp) (c : Test) (s : Size) (l : List Lexeme)
      → compare_grammar a c s (comparison_lexeme o ∷ l) → grammar.node (right_grammar q a o) c s l
  compare_down a o c s l h =
      let e = h.1.1 in
      let z : comparison_lexeme o ≡ comparison_lexeme h.0 = cc in
      let same : Some o ≡ Some h.0 = sym (spelled_op o) ∙ ap sign_op z ∙ spelled_op h.0 in
      let k : o ≡ h.0 = cc in
      let m : l ≡ h.1.0 = cc in
      let P : CmpOp → Type 0 = λ p. grammar.node (right_grammar q a p) c s l in
      let Q : List Lexeme → Type 0 = λ u. grammar.node (right_grammar q a h.0) c s u in
      subst P (sym k) (subst Q (sym m) h.1.2)

  op_arms : (a : Tree) (x : Lexeme) (o : Option CmpOp) → sign_op x ≡ o
      → ArmCorrect 0 d (op_arm (λ o. Counts (map_to (λ b. compared o a b) (expr q may inside))) o) x
      (compare_grammar a) (follow_expr q)
  op_arms a x None e = λ c s l h. let k = h.1.1 in let z : x ≡ comparison_lexeme h.0 = cc in
      let m : None ≡ Some h.0 = sym e ∙ ap sign_op z ∙ spelled_op h.0 in cc
  op_arms a x (Some o) e =
      let R : Lexeme → Type 0 = λ y. ArmCorrect 0 d
      (Counts (map_to (λ b. compared o a b) (expr q may inside))) y (compare_grammar a)
      (follow_expr q) in
      subst R (sym (op_exact x o e))
      (counts_correct 0 d (map_to (λ b. compared o a b) (expr q may inside)) (comparison_lexeme o)
      (compare_grammar a) (right_grammar q a o) (follow_expr q)
      (λ c s l h. (o, (l, refl, (s, refl, h)))) (compare_down a o) (right_correct a o))
    where
      by_op : (b : Bool) (o p : CmpOp) (rest : Option CmpOp) (y : Lexeme)
          → (b ≡ true → y ≡ comparison_lexeme p) → (rest ≡ Some o → y ≡ comparison_lexeme o)
          → cond b (Some p) rest ≡ Some o → y ≡ comparison_lexeme o
      by_op true o p rest y h k f = let m : p ≡ o = cc in h refl ∙ ap comparison_lexeme m
      by_op false o p rest y h k f = k f

      op_exact : (x : Lexeme) (o : CmpOp) → sign_op x ≡ Some o → x ≡ comparison_lexeme o
      op_exact x o =
          by_op (is_sign (codes "=") x) o Eq _ x (sign_exact (codes "=") x)
          (by_op (is_sign (codes "<>") x) o Ne _ x (sign_exact (codes "<>") x)
          (by_op (is_sign (codes "<") x) o Lt _ x (sign_exact (codes "<") x)
          (by_op (is_sign (codes "<=") x) o Le _ x (sign_exact (codes "<=") x)
          (by_op (is_sign (codes ">") x) o Gt _ x (sign_exact (codes ">") x)
          (by_op (is_sign (codes ">=") x) o Ge _ x (sign_exact (codes ">=") x) (λ f. cc))))))

  compare_some : (a : Tree) (c : Test) (s : Size) → compare_grammar a c s [] → ⊥
  compare_some a c s h = let e = h.1.1 in cc

  compare_side : (a : Tree) (b : Test) (s : Size) (ts rest : List Lexeme) → compare_grammar a b s ts
      → Stops (follow_expr q) rest → Stops (follow_expr q) (ts ++ rest)
  compare_side a b s ts rest h stops = let P : List Lexeme
      → Type 0 = λ u. Stops (follow_expr q) (u ++ rest) in subst P (sym h.1.1) (no_point h.0)

  comparison_correct : IsCorrectParser 0 d (comparison q may inside) (cmp_grammar q) (follow_expr q)
  unfolding comparison
  comparison_correct = bind_correct 0 d (expr q may inside)
      (λ a. choose (λ x. op_arm (λ o. Counts (map_to (λ b. compared o a b) (expr q may inside)))
      (sign_op x))) (IsExpr q) compare_grammar (follow_expr q) (follow_expr q) expr_correct
      (λ a. choose_correct 0 d (λ x. op_arm (λ o.
      Counts (map_to (λ b. compared o a b) (expr q may inside))) (sign_op x))
      (compare_grammar a) (follow_expr q) (
        compared Eq a (constant (Int (pos 1))),
        one_node leaf,
        sign (codes "=") ∷ number (pos 1) ∷ [],
        (Eq, (number (pos 1) ∷ [], refl, (leaf, refl, (constant (Int (pos 1)), refl, a_one q)))),
      )
      (compare_some a) (λ x. op_arms a x (sign_op x) refl))
      compare_side

  -- ---- facts

  bracketed_correct : may ≡ true → IsCorrectParser 0 d (bracketed q may inside)
      (grammar.opened (bracket_grammar q)) (follow_expr q)
  unfolding bracketed
  bracketed_correct = opened (bind inside.cond (λ c. lead (is_sign CLOSE) (pure c)))
      (bracket_grammar q) (follow_expr q) (λ e L.
      bind_lead 0 e inside.cond (λ c. lead (is_sign CLOSE) (pure c)) (IsCond q) (sign CLOSE)
      (λ c. grammar.pure c) (follow_cond q) (follow_expr q) refl L.cond (λ c.
      lead_correct (is_sign CLOSE) (sign CLOSE) (sign_is CLOSE) (sign_exact CLOSE) 0 e (pure c)
      (grammar.pure c) (follow_expr q) (pure_correct 0 e c (follow_expr q))))

  negation_correct : may ≡ true → IsCorrectParser 0 d (map_to (λ c. fails c) inside.fact)
      (grammar.opened (not_grammar q)) (follow_expr q)
  negation_correct = opened (map_to (λ c. fails c) inside.fact) (not_grammar q) (follow_expr q)
      (λ e L. map_correct 0 e (λ c. fails c) inside.fact (IsFact q) (follow_expr q) L.fact)

  abbrev fact_at : Arm Test → Lexeme → Type 0
  fact_at r x = ArmCorrect 0 d r x (IsFact q) (follow_expr q)

  fact_arms : (x : Lexeme) → ArmCorrect 0 d (fact_arm q may inside x) x (IsFact q) (follow_expr q)
  fact_arms x = arm_if 0 d (is_word NOT x) (opens q may inside (map_to (λ c. fails c) inside.fact))
      _ x (IsFact q) (follow_expr q)
      (λ e. subst (fact_at (opens q may inside (map_to (λ c. fails c) inside.fact)))
      (sym (word_exact NOT x e))
      (opens_correct 0 d may (map_to (λ c. fails c) inside.fact) (word NOT) (IsFact q)
      (not_grammar q) (follow_expr q) (
        _,
        _,
        _,
        g.negated q always leaf (word TRUE ∷ []) (g.truth q),
      ) (not_up q)
      (λ a s l h. not_down q a s l (fact_inv q a s (word NOT ∷ l) h)) negation_correct shallow))
      (λ e1.
      arm_if 0 d (is_sign OPEN x) (bracket q may inside (bracketed q may inside)) _ x (IsFact q)
      (follow_expr q)
      (λ e. subst (fact_at (bracket q may inside (bracketed q may inside)))
      (sym (sign_exact OPEN x e))
      (bracket_correct 0 d may (bracketed q may inside) (sign OPEN) (IsFact q) (bracket_grammar q)
      (follow_expr q) (_, _, _, g.bracketed q always leaf (word TRUE ∷ []) (true_cond q))
      (bracket_up q) (λ a s l h. bracket_down q a s l (fact_inv q a s (sign OPEN ∷ l) h))
      bracketed_correct shallow)) (λ e2.
      arm_if 0 d (is_word TRUE x) (Counts (pure always)) _ x (IsFact q) (follow_expr q)
      (λ e. subst (fact_at (Counts (pure always))) (sym (word_exact TRUE x e))
      (counts_correct 0 d (pure always) (word TRUE) (IsFact q) (grammar.pure always) (follow_expr q)
      (λ a s l h. rw (h.0, h.1, h.2) (g.truth q))
      (λ a s l h. true_down q a s l (fact_inv q a s (word TRUE ∷ l) h))
      (pure_correct 0 d always (follow_expr q)))) (λ e3.
      arm_if 0 d (is_word FALSE x) (Counts (pure never)) _ x (IsFact q) (follow_expr q)
      (λ e. subst (fact_at (Counts (pure never))) (sym (word_exact FALSE x e))
      (counts_correct 0 d (pure never) (word FALSE) (IsFact q) (grammar.pure never) (follow_expr q)
      (λ a s l h. rw (h.0, h.1, h.2) (g.falsehood q))
      (λ a s l h. false_down q a s l (fact_inv q a s (word FALSE ∷ l) h))
      (pure_correct 0 d never (follow_expr q)))) (λ e4.
      whole_correct 0 d (comparison q may inside) (cmp_grammar q) (IsFact q) x (follow_expr q)
      comparison_correct (cmp_up q) (λ a s l h.
      cmp_down q a s x l e1 e2 e3 e4 (fact_inv q a s (x ∷ l) h))))))

  pub fact_correct : IsCorrectParser 0 d (fact q may inside) (IsFact q) (follow_expr q)
  unfolding fact
  fact_correct = choose_correct 0 d (fact_arm q may inside) (IsFact q) (follow_expr q)
      (always, leaf, word TRUE ∷ [], g.truth q) (λ a s h. fact_not_none q a s (fact_inv q a s [] h))
      fact_arms

  -- ---- facts joined by AND, and those joined by OR

  facts_correct : (c : Test) → IsCorrectParser 0 d (facts q may inside c)
      (grammar.option c (word AND) (grammar.node (and_grammar q c))) (follow_conj q)
  unfolding facts
  facts_correct c = option_node_correct (is_word AND) (word AND) (word_is AND) (word_exact AND) 0 d
      _ c (and_grammar q c) (follow_conj q) (λ x e. ap (λ b. b || follow_expr q x) e)
      (bind_more (is_word AND) (word AND) (word_is AND) (word_exact AND) d (fact q may inside)
      (IsFact q) (follow_expr q) fact_correct refl no_end 0 0
      (nodes_more (is_word AND) (fact q may inside))
      (λ e l. all_of (a_test c (a_test e (tests_of l))))
      (nodes_correct (is_word AND) (word AND) (word_is AND) (word_exact AND) d (fact q may inside)
      (IsFact q) (follow_expr q) fact_correct refl (fact_nodes q) 0))

  pub conj_correct : IsCorrectParser 0 d (conj q may inside) (IsConj q) (follow_conj q)
  unfolding conj
  conj_correct = correct_iff 0 d _ _ (IsConj q) (follow_conj q) (conj_up q) (conj_down q)
      (bind_option 0 d (fact q may inside) (facts q may inside) (IsFact q) (word AND)
      (λ e. grammar.node (and_grammar q e)) (follow_expr q) (follow_conj q) refl
      (λ y h. or_off (is_word AND y) (follow_expr q y) h) fact_correct facts_correct)
    where
      or_off : (a b : Bool) → (a || b) ≡ false → b ≡ false
      or_off true b e = true_false e
      or_off false b e = e

  conjs_correct : (c : Test) → IsCorrectParser 0 d (conjs q may inside c)
      (grammar.option c (word OR) (grammar.node (or_grammar q c))) (follow_cond q)
  unfolding conjs
  conjs_correct c = option_node_correct (is_word OR) (word OR) (word_is OR) (word_exact OR) 0 d _ c
      (or_grammar q c) (follow_cond q) (λ x e. ap (λ b. b || follow_conj q x) e)
      (bind_more (is_word OR) (word OR) (word_is OR) (word_exact OR) d (conj q may inside)
      (IsConj q) (follow_conj q) conj_correct refl no_end 0 0
      (nodes_more (is_word OR) (conj q may inside))
      (λ e l. some_of (a_test c (a_test e (tests_of l))))
      (nodes_correct (is_word OR) (word OR) (word_is OR) (word_exact OR) d (conj q may inside)
      (IsConj q) (follow_conj q) conj_correct refl (conj_nodes q) 0))

  pub cond_correct : IsCorrectParser 0 d (whole q may inside) (IsCond q) (follow_cond q)
  unfolding whole
  cond_correct = correct_iff 0 d _ _ (IsCond q) (follow_cond q) (cond_up q) (cond_down q)
      (bind_option 0 d (conj q may inside) (conjs q may inside) (IsConj q) (word OR)
      (λ e. grammar.node (or_grammar q e)) (follow_conj q) (follow_cond q) refl
      (λ y h. or_off (is_word OR y) (follow_conj q y) h) conj_correct conjs_correct)
    where
      or_off : (a b : Bool) → (a || b) ≡ false → b ≡ false
      or_off true b e = true_false e
      or_off false b e = e

  pub made_correct : LevelCorrect q d (made q may inside)
  made_correct = record { expr = expr_correct; cond = cond_correct; fact = fact_correct }

-- with so many constructs yet to be opened
pub level_correct : (q : Bool) (d : ℕ) → LevelCorrect q d (level q d)
level_correct q zero = made_correct q false zero nothing (λ e. true_false (sym e)) (λ e. refl)
level_correct q (suc d) = made_correct q true (suc d) (level q d)
    (λ e. (d, refl, level_correct q d)) (λ e. true_false e)

pub outermost_correct : (q : Bool) → LevelCorrect q 32 (outermost q)
unfolding outermost
outermost_correct q = level_correct q 32

-- with counts of its own
pub fresh_expr_correct : (q : Bool) (low : ℕ)
    → IsCorrectParser low 32 (fresh (outermost q).expr) (grammar.fresh (IsExpr q)) (follow_expr q)
fresh_expr_correct q low = fresh_correct 32 (outermost q).expr (IsExpr q) low (follow_expr q)
    (outermost_correct q).expr

pub fresh_cond_correct : (q : Bool) (low : ℕ)
    → IsCorrectParser low 32 (fresh (outermost q).cond) (grammar.fresh (IsCond q)) (follow_cond q)
fresh_cond_correct q low = fresh_correct 32 (outermost q).cond (IsCond q) low (follow_cond q)
    (outermost_correct q).cond
