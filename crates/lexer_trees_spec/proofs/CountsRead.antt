-- The readers go along the token counts of what is in the grammar.
use Rattle.std.proofs.Common.{◌≡◌, ℕ, ℤ, zero, suc, ◌+◌, ◌≤◌, Bool, true, false, cond, ◌&&◌, Some}
use Rattle.std.proofs.Common.{None, List, [], ◌∷◌, ◌++◌, length, refl, sym, ap, ◌∙◌, append_assoc}
use Rattle.std.proofs.Common.{arith}
use Rattle.std.proofs.lemmas.Bool.Decides.{nat_tests}
use Rattle.prima_base.specs.declared.refusal.What.TheVariants as what
use Rattle.prima_base.specs.declared.value.Value.TheVariants.{Int, Text}
use Rattle.cond_expr.specs.declared.expr.Whose.TheVariants.{Free, Atom}
use Rattle.cond_expr.specs.declared.expr.CmpOp.{CmpOp}
use Rattle.cond_expr.specs.declared.expr.CmpOp.TheVariants.{Eq, Ne, Lt, Le, Gt, Ge}
use Rattle.cond_expr.specs.Trees.{Tree, Test, column, constant, length_of, joined, choose as chosen}
use Rattle.cond_expr.specs.Trees.{never, always, compared, fails, a_tree}
use Rattle.cond_expr.specs.Seen.{trees_of}
use Rattle.lexer_spec.specs.Lexemes.{Lexeme, word, number, text, sign, is_word, is_sign}
use Rattle.lexer_spec.specs.Lexemes.{is_name, is_int}
use Rattle.lexer_combinators.specs.Parsing.{Out, Parsed, LimitExceeded, Parser, Stops, has_room}
use Rattle.lexer_combinators.specs.Parsing.{and_then, bind, pure, lead, map_to, more, choose}
use Rattle.lexer_combinators.specs.Parsing.{arm_run, single_arm, No, Takes, Counts}
use Rattle.lexer_combinators.specs.Grammar.{Size}
use Rattle.lexer_trees_spec.specs.Grammar.{comparison_lexeme, IsExpr}
use Rattle.lexer_combinators.specs.TokenCounts.{TokenCounts, plain, node, begins, opened}
use Rattle.lexer_trees_spec.specs.Constants.{name}
use Rattle.lexer_trees_spec.specs.Reader.{level, can, inside, ref_rest, sign_op, op_arm, expr}
use Rattle.lexer_trees_spec.specs.Reader.{length_rest, concat_rest, case_rest, comparison}
use Rattle.lexer_trees_spec.specs.Reader.{bracketed}
use Rattle.lexer_trees_spec.specs.Reader.{fact, conj, follow_expr, follow_conj, follow_cond}
use Rattle.lexer_combinators.specs.Reads.{sees}
use Rattle.lexer_spec.proofs.Cases.{true_false, by_test}
use Rattle.lexer_trees_spec.proofs.Grammar.{aliased, CASE, WHEN, THEN, ELSE, END, LENGTH, CONCAT}
use Rattle.lexer_trees_spec.proofs.Grammar.{AND}
use Rattle.lexer_trees_spec.proofs.Grammar.{OR, NOT, TRUE, FALSE, OPEN, CLOSE, COMMA, POINT}
use Rattle.lexer_trees_spec.proofs.Grammar.{length_no_name, concat_no_name, case_no_name, expr_some}
use Rattle.lexer_trees_spec.proofs.Grammar.{starts_expr, starts_not, starts_true, starts_false}
use Rattle.lexer_trees_spec.proofs.Grammar.{starts_open}
use Rattle.lexer_spec.proofs.LexemeTests.{word_exact, sign_exact}
use Rattle.lexer_trees_spec.proofs.TreeSteps.{level_is, expr_else, fact_else}
use Rattle.lexer_combinators.proofs.ReadSteps.{option_not}
use Rattle.lexer_combinators.proofs.Counted.{along, bind_along, map_along, open_along, plain_along}
use Rattle.lexer_combinators.proofs.Counted.{part_along, part_over, node_along, shut_along}
use Rattle.lexer_combinators.proofs.Counted.{shut_node_along}

-- two that agree at a list agree at an equal one
pub at : {X : Type 0} (f h : List Lexeme → X) (u v : List Lexeme) → u ≡ v → f v ≡ h v → f u ≡ h u
at f h u v e k = ap f e ∙ k ∙ sym (ap h e)

-- where there is room for a node
pub in_room : {A : Type 0} (n : ℕ) (u v o : Out A) → (n + 1 ≤ 256 → u ≡ v)
    → cond (has_room n) u o ≡ cond (has_room n) v o
in_room n u v o h = by_test (has_room n)
    (λ r. ap (λ b. cond b u o) r ∙ h (grind (arith, nat_tests)) ∙ sym (ap (λ b. cond b v o) r))
    (λ r. ap (λ b. cond b u o) r ∙ sym (ap (λ b. cond b v o) r))

-- ---- what reading along the counts says of each nonterminal; the second flag tells whether it
-- ends
-- in a column of no alias

abbrev pub ExprRead : Bool → Bool → Tree → List Lexeme → List TokenCounts → Type 0
ExprRead q b x k ms = (d n : ℕ) → n ≤ 256 → (us : List Lexeme) → Stops (follow_expr b) us
    → (level q d).expr n (k ++ us) ≡ along d x n ms (k ++ us)

abbrev pub PartsRead : Bool → ℕ → List Tree → List Lexeme → List TokenCounts → Type 0
PartsRead q j l k ms = (d i n : ℕ) → n ≤ 256 → j + i ≡ 8 → (us : List Lexeme)
    → more (is_sign COMMA) what.Parts (level q d).expr i n (k ++ sign CLOSE ∷ us)
    ≡ along d l n ms (k ++ sign CLOSE ∷ us)

abbrev pub fact_at : Bool → ℕ → Parser Test
fact_at q d = fact q (can d) (inside q d)

abbrev pub FactRead : Bool → Bool → Test → List Lexeme → List TokenCounts → Type 0
FactRead q b c k ms = (d n : ℕ) → n ≤ 256 → (us : List Lexeme) → Stops (follow_expr b) us
    → fact_at q d n (k ++ us) ≡ along d c n ms (k ++ us)

abbrev pub FactsRead : Bool → Bool → List Test → List Lexeme → List TokenCounts → Type 0
FactsRead q b l k ms = (d i n : ℕ) → n ≤ 256 → 257 ≤ n + i → (us : List Lexeme)
    → Stops (follow_conj b) us → more (is_word AND) what.Nodes (fact_at q d) i n (k ++ us)
    ≡ along d l n ms (k ++ us)

abbrev pub conj_at : Bool → ℕ → Parser Test
conj_at q d = conj q (can d) (inside q d)

abbrev pub ConjRead : Bool → Bool → Test → List Lexeme → List TokenCounts → Type 0
ConjRead q b c k ms = (d n : ℕ) → n ≤ 256 → (us : List Lexeme) → Stops (follow_conj b) us
    → conj_at q d n (k ++ us) ≡ along d c n ms (k ++ us)

abbrev pub ConjsRead : Bool → Bool → List Test → List Lexeme → List TokenCounts → Type 0
ConjsRead q b l k ms = (d i n : ℕ) → n ≤ 256 → 257 ≤ n + i → (us : List Lexeme)
    → Stops (follow_cond b) us → more (is_word OR) what.Nodes (conj_at q d) i n (k ++ us)
    ≡ along d l n ms (k ++ us)

abbrev pub CondRead : Bool → Bool → Test → List Lexeme → List TokenCounts → Type 0
CondRead q b c k ms = (d n : ℕ) → n ≤ 256 → (us : List Lexeme) → Stops (follow_cond b) us
    → (level q d).cond n (k ++ us) ≡ along d c n ms (k ++ us)

module _ (q : Bool) where
  -- ---- closing

  -- a last sign or word
  closes : {A : Type 0} (d : ℕ) (a : A) (x : Lexeme) (us : List Lexeme) (m : ℕ) → m ≤ 256
      → Parsed a m us ≡ along d a m (plain ∷ []) (x ∷ us)
  closes d a x us m h = sym (plain_along d a m h [] x us)

  -- ---- LENGTH

  module _ (b : Bool) (x : Tree) (k : List Lexeme) (ms : List TokenCounts)
      (len : length ms ≡ length k) (part : ExprRead q b x k ms) where
    abbrev length_inner : List Lexeme → List Lexeme
    length_inner rest = (k ++ sign CLOSE ∷ []) ++ rest

    length_open : (d n : ℕ) → n ≤ 256 → (rest : List Lexeme)
        → length_rest q (can d) (inside q d) n (sign OPEN ∷ length_inner rest)
        ≡ along d (length_of x) n (opened (plain ∷ (ms ++ plain ∷ [])))
        (sign OPEN ∷ length_inner rest)
    unfolding length_rest
    length_open zero n h rest = sym (shut_along (length_of x) n h (opened (ms ++ plain ∷ []))
        (sign OPEN) (length_inner rest))
    length_open (suc d) n h rest =
        at (bind (level q d).expr (λ e. lead (is_sign CLOSE) (pure (length_of e))) n)
        (along d (length_of x) n (ms ++ plain ∷ [])) (length_inner rest)
        (k ++ sign CLOSE ∷ rest) (append_assoc k (sign CLOSE ∷ []) rest)
        (bind_along d (level q d).expr (λ e. lead (is_sign CLOSE) (pure (length_of e))) x
        (length_of x) ms (plain ∷ []) k (sign CLOSE ∷ rest) n h len
        (part d n h (sign CLOSE ∷ rest) refl)
        (λ m i z. closes d (length_of x) (sign CLOSE) rest m i))
        ∙ sym (plain_along d (length_of x) n h (ms ++ plain ∷ []) (sign OPEN) (length_inner rest))
        ∙ sym (open_along d (length_of x) n (plain ∷ (ms ++ plain ∷ []))
        (sign OPEN ∷ length_inner rest))

    pub length_read : ExprRead q false (length_of x)
        (word LENGTH ∷ sign OPEN ∷ (k ++ sign CLOSE ∷ []))
        (node ∷ opened (plain ∷ (ms ++ plain ∷ [])))
    unfolding expr
    length_read d n h rest stops =
        ap (λ L. L.expr n (word LENGTH ∷ sign OPEN ∷ length_inner rest)) (level_is q d)
        ∙ in_room n (length_rest q (can d) (inside q d) (n + 1) (sign OPEN ∷ length_inner rest))
        (along d (length_of x) (n + 1) (opened (plain ∷ (ms ++ plain ∷ [])))
        (sign OPEN ∷ length_inner rest)) _ (λ i. length_open d (n + 1) i rest)
        ∙ sym (node_along d (length_of x) n h (opened (plain ∷ (ms ++ plain ∷ []))) (word LENGTH)
        (sign OPEN ∷ length_inner rest))

  -- ---- CONCAT

  module _ (b : Bool) (x : Tree) (l : List Tree) (k m : List Lexeme) (ms ks : List TokenCounts)
      (len : length ms ≡ length k) (parts_len : length ks ≡ length m) (part : ExprRead q b x k ms)
      (parts : PartsRead q 1 l m ks)
      (parts_stop : (us : List Lexeme) → Stops (follow_expr b) (m ++ sign CLOSE ∷ us)) where
    abbrev concat_inner : List Lexeme → List Lexeme
    concat_inner rest = (k ++ (m ++ sign CLOSE ∷ [])) ++ rest

    abbrev joins : Tree
    joins = joined (a_tree x (trees_of l))

    abbrev concat_counts : List TokenCounts
    concat_counts = ms ++ (ks ++ plain ∷ [])

    abbrev closing : Tree → List Tree → Parser Tree
    closing a o = lead (is_sign CLOSE) (pure (joined (a_tree a (trees_of o))))

    concat_parts : (d n : ℕ) → n ≤ 256 → (rest : List Lexeme)
        → bind (level q d).expr (λ a. bind (more (is_sign COMMA) what.Parts (level q d).expr 7)
        (closing a)) n (k ++ (m ++ sign CLOSE ∷ rest))
        ≡ along d joins n concat_counts (k ++ (m ++ sign CLOSE ∷ rest))
    concat_parts d n h rest =
        bind_along d (level q d).expr (λ a. bind
        (more (is_sign COMMA) what.Parts (level q d).expr 7) (closing a)) x joins ms
        (ks ++ plain ∷ []) k (m ++ sign CLOSE ∷ rest) n h len
        (part d n h (m ++ sign CLOSE ∷ rest) (parts_stop rest)) (λ j i z.
        bind_along d (more (is_sign COMMA) what.Parts (level q d).expr 7) (closing x) l joins ks
        (plain ∷ []) m (sign CLOSE ∷ rest) j i parts_len (parts d 7 j i refl rest)
        (λ o p y. closes d joins (sign CLOSE) rest o p))

    concat_open : (d n : ℕ) → n ≤ 256 → (rest : List Lexeme)
        → concat_rest q (can d) (inside q d) n (sign OPEN ∷ concat_inner rest)
        ≡ along d joins n (opened (plain ∷ concat_counts)) (sign OPEN ∷ concat_inner rest)
    unfolding concat_rest
    concat_open zero n h rest = sym (shut_along joins n h (opened concat_counts) (sign OPEN)
        (concat_inner rest))
    concat_open (suc d) n h rest =
        at (bind (level q d).expr (λ a. bind (more (is_sign COMMA) what.Parts (level q d).expr 7)
        (closing a)) n) (along d joins n concat_counts) (concat_inner rest)
        (k ++ (m ++ sign CLOSE ∷ rest))
        (append_assoc k (m ++ sign CLOSE ∷ []) rest
        ∙ ap (λ u. k ++ u) (append_assoc m (sign CLOSE ∷ []) rest))
        (concat_parts d n h rest)
        ∙ sym (plain_along d joins n h concat_counts (sign OPEN) (concat_inner rest))
        ∙ sym (open_along d joins n (plain ∷ concat_counts) (sign OPEN ∷ concat_inner rest))

    pub concat_read : ExprRead q false joins (word CONCAT ∷ sign OPEN
        ∷ (k ++ (m ++ sign CLOSE ∷ []))) (node ∷ opened (plain ∷ concat_counts))
    unfolding expr
    concat_read d n h rest stops =
        ap (λ L. L.expr n (word CONCAT ∷ sign OPEN ∷ concat_inner rest)) (level_is q d)
        ∙ in_room n (concat_rest q (can d) (inside q d) (n + 1) (sign OPEN ∷ concat_inner rest))
        (along d joins (n + 1) (opened (plain ∷ concat_counts)) (sign OPEN ∷ concat_inner rest))
        _ (λ i. concat_open d (n + 1) i rest)
        ∙ sym (node_along d joins n h (opened (plain ∷ concat_counts)) (word CONCAT)
        (sign OPEN ∷ concat_inner rest))

  pub no_part_read : (j : ℕ) → PartsRead q j [] [] []
  unfolding more
  no_part_read j d zero n h e us = refl
  no_part_read j d (suc i) n h e us = refl

  module _ (b : Bool) (j : ℕ) (x : Tree) (l : List Tree) (k m : List Lexeme)
      (ms ks : List TokenCounts) (len : length ms ≡ length k) (part : ExprRead q b x k ms)
      (parts : PartsRead q (j + 1) l m ks)
      (parts_stop : (us : List Lexeme) → Stops (follow_expr b) (m ++ sign CLOSE ∷ us)) where
    part_rest : (d i n : ℕ) → n ≤ 256 → j + suc i ≡ 8 → (us : List Lexeme)
        → bind (level q d).expr (λ a. map_to (λ o. a ∷ o)
        (more (is_sign COMMA) what.Parts (level q d).expr i)) n (k ++ (m ++ sign CLOSE ∷ us))
        ≡ along d (x ∷ l) n (ms ++ ks) (k ++ (m ++ sign CLOSE ∷ us))
    part_rest d i n h e us =
        bind_along d (level q d).expr (λ a. map_to (λ o. a ∷ o)
        (more (is_sign COMMA) what.Parts (level q d).expr i)) x (x ∷ l) ms ks k
        (m ++ sign CLOSE ∷ us) n h len (part d n h (m ++ sign CLOSE ∷ us) (parts_stop us))
        (λ o p z.
        ap (λ r. and_then r (λ a. pure (x ∷ a))) (parts d i o p (omega (arith, e)) us)
        ∙ map_along d (λ a. x ∷ a) l o ks (m ++ sign CLOSE ∷ us))

    pub a_part_read : PartsRead q j (x ∷ l) (sign COMMA ∷ (k ++ m)) (begins (j + 1) ∷ (ms ++ ks))
    unfolding more
    a_part_read d zero n h e us = sym (part_over d (x ∷ l) n h (ms ++ ks) (sign COMMA)
        ((k ++ m) ++ sign CLOSE ∷ us) (j + 1) (omega (arith, e)))
    a_part_read d (suc i) n h e us =
        at (bind (level q d).expr (λ a. map_to (λ o. a ∷ o)
        (more (is_sign COMMA) what.Parts (level q d).expr i)) n) (along d (x ∷ l) n (ms ++ ks))
        ((k ++ m) ++ sign CLOSE ∷ us) (k ++ (m ++ sign CLOSE ∷ us))
        (append_assoc k m (sign CLOSE ∷ us)) (part_rest d i n h e us)
        ∙ sym (part_along d (x ∷ l) n h (ms ++ ks) (sign COMMA) ((k ++ m) ++ sign CLOSE ∷ us)
        (j + 1) (omega (arith, e)))

  -- ---- CASE

  module _ (fc fa fb : Bool) (c : Test) (a b : Tree) (k m o : List Lexeme)
      (mc ma mb : List TokenCounts) (len_c : length mc ≡ length k) (len_a : length ma ≡ length m)
      (len_b : length mb ≡ length o)
      (when : CondRead q fc c k mc) (yes : ExprRead q fa a m ma) (no : ExprRead q fb b o mb) where
    abbrev case_inner : List Lexeme → List Lexeme
    case_inner rest = (k ++ word THEN ∷ (m ++ word ELSE ∷ (o ++ word END ∷ []))) ++ rest

    abbrev case_flat : List Lexeme → List Lexeme
    case_flat rest = k ++ word THEN ∷ (m ++ word ELSE ∷ (o ++ word END ∷ rest))

    case_same : (rest : List Lexeme) → case_inner rest ≡ case_flat rest
    case_same rest = append_assoc k (word THEN ∷ (m ++ word ELSE ∷ (o ++ word END ∷ []))) rest
        ∙ ap (λ u. k ++ word THEN ∷ u) (append_assoc m (word ELSE ∷ (o ++ word END ∷ [])) rest
        ∙ ap (λ u. m ++ word ELSE ∷ u) (append_assoc o (word END ∷ []) rest))

    abbrev else_counts : List TokenCounts
    else_counts = mb ++ plain ∷ []

    abbrev then_counts : List TokenCounts
    then_counts = ma ++ plain ∷ else_counts

    abbrev when_counts : List TokenCounts
    when_counts = mc ++ plain ∷ then_counts

    module _ (d : ℕ) where
      abbrev at_end : Test → Tree → Tree → Parser Tree
      at_end t u v = lead (is_word END) (pure (chosen t u v))

      abbrev at_else : Test → Tree → Parser Tree
      at_else t u = lead (is_word ELSE) (bind (level q d).expr (at_end t u))

      abbrev at_then : Test → Parser Tree
      at_then t = lead (is_word THEN) (bind (level q d).expr (at_else t))

      case_parts : (n : ℕ) → n ≤ 256 → (rest : List Lexeme)
          → bind (level q d).cond at_then n (case_flat rest)
          ≡ along d (chosen c a b) n when_counts (case_flat rest)
      case_parts n h rest =
          bind_along d (level q d).cond at_then c (chosen c a b) mc (plain ∷ then_counts) k
          (word THEN ∷ (m ++ word ELSE ∷ (o ++ word END ∷ rest))) n h len_c
          (when d n h (word THEN ∷ (m ++ word ELSE ∷ (o ++ word END ∷ rest))) refl) (λ n1 h1 z1.
          bind_along d (level q d).expr (at_else c) a (chosen c a b) ma (plain ∷ else_counts) m
          (word ELSE ∷ (o ++ word END ∷ rest)) n1 h1 len_a
          (yes d n1 h1 (word ELSE ∷ (o ++ word END ∷ rest)) refl) (λ n2 h2 z2.
          bind_along d (level q d).expr (at_end c a) b (chosen c a b) mb (plain ∷ []) o
          (word END ∷ rest) n2 h2 len_b (no d n2 h2 (word END ∷ rest) refl)
          (λ n3 h3 z3. closes d (chosen c a b) (word END) rest n3 h3)
          ∙ sym (plain_along d (chosen c a b) n2 h2 else_counts (word ELSE) (o ++ word END ∷ rest)))
          ∙ sym (plain_along d (chosen c a b) n1 h1 then_counts (word THEN)
          (m ++ word ELSE ∷ (o ++ word END ∷ rest))))

      case_open : (n : ℕ) → n ≤ 256 → (rest : List Lexeme)
          → case_rest q true (level q d) n (word WHEN ∷ case_inner rest)
          ≡ along d (chosen c a b) n (plain ∷ when_counts) (word WHEN ∷ case_inner rest)
      unfolding case_rest
      case_open n h rest =
          at (bind (level q d).cond at_then n) (along d (chosen c a b) n when_counts)
          (case_inner rest) (case_flat rest) (case_same rest) (case_parts n h rest)
          ∙ sym (plain_along d (chosen c a b) n h when_counts (word WHEN) (case_inner rest))

    pub case_read : ExprRead q false (chosen c a b)
        (word CASE ∷ word WHEN ∷ (k ++ word THEN ∷ (m ++ word ELSE ∷ (o ++ word END ∷ []))))
        (opened (node ∷ plain ∷ when_counts))
    unfolding expr
    case_read zero n h rest stops = sym (shut_node_along (chosen c a b) n h
        (opened (plain ∷ when_counts)) (word CASE) (word WHEN ∷ case_inner rest))
    case_read (suc d) n h rest stops =
        in_room n (case_rest q true (level q d) (n + 1) (word WHEN ∷ case_inner rest))
        (along d (chosen c a b) (n + 1) (plain ∷ when_counts) (word WHEN ∷ case_inner rest)) _
        (λ i. case_open d (n + 1) i rest)
        ∙ sym (node_along d (chosen c a b) n h (plain ∷ when_counts) (word CASE)
        (word WHEN ∷ case_inner rest))
        ∙ sym (open_along d (chosen c a b) n (node ∷ plain ∷ when_counts)
        (word CASE ∷ word WHEN ∷ case_inner rest))

  -- ---- constants and references

  pub int_read : (z : ℤ) → is_int z ≡ true → ExprRead q false (constant (Int z)) (number z ∷ [])
      (node ∷ [])
  unfolding expr
  int_read z e d n h rest stops =
      ap (λ L. L.expr n (number z ∷ rest)) (level_is q d)
      ∙ ap (λ b. arm_run (cond b (Counts (pure (constant (Int z)))) No) (number z) n rest) e
      ∙ sym (node_along d (constant (Int z)) n h [] (number z) rest)

  pub text_read : (t : List ℕ) → ExprRead q false (constant (Text t)) (text t ∷ []) (node ∷ [])
  unfolding expr
  text_read t d n h rest stops = ap (λ L. L.expr n (text t ∷ rest)) (level_is q d)
      ∙ sym (node_along d (constant (Text t)) n h [] (text t) rest)

  -- a name is no word of an expression
  pub no_word : (w m : List ℕ) → is_name w ≡ false → is_name m ≡ true → is_word w (word m) ≡ false
  no_word w m e f = by_test (is_word w (word m))
      (λ t. let z : word m ≡ word w = word_exact w (word m) t in let y : m ≡ w = cc in
      true_false (sym f ∙ ap is_name y ∙ e)) (λ t. t)

  at_name : (m : List ℕ) → is_name m ≡ true → (d n : ℕ) (us : List Lexeme)
      → (level q d).expr n (word m ∷ us) ≡ cond (has_room n) (ref_rest q m (n + 1) us)
      (LimitExceeded what.Nodes n (word m ∷ us))
  at_name m e d n us =
      expr_else q d n (word m ∷ us) (no_word LENGTH m length_no_name e)
      (no_word CONCAT m concat_no_name e) (no_word CASE m case_no_name e)
      ∙ ap (λ b. arm_run (cond b (Counts (ref_rest q m)) No) (word m) n us) e

  no_sign : (x : List ℕ) (us : List Lexeme) → Stops (follow_expr true) us
      → sees (is_sign POINT) us ≡ false
  no_sign x [] h = refl
  no_sign x (y ∷ us) h = and_true (is_sign POINT y) h
    where
      and_true : (b : Bool) → (b && true) ≡ false → b ≡ false
      and_true true f = f
      and_true false f = refl

pub of_atom_read : (m : List ℕ) → is_name m ≡ true
    → ExprRead false false (column (Atom 0) m) (word m ∷ []) (node ∷ [])
unfolding ref_rest
of_atom_read m e d n h rest stops = at_name false m e d n rest
    ∙ sym (node_along d (column (Atom 0) m) n h [] (word m) rest)

pub of_free_read : (m : List ℕ) → is_name m ≡ true
    → ExprRead true true (column Free m) (word m ∷ []) (node ∷ [])
unfolding ref_rest
of_free_read m e d n h rest stops =
    at_name true m e d n rest
    ∙ ap (λ o. cond (has_room n) o (LimitExceeded what.Nodes n (word m ∷ rest)))
    (option_not (is_sign POINT) (Takes (map_to (λ c. aliased m c) name)) (column Free m) (n + 1)
    rest (no_sign true m rest stops))
    ∙ sym (node_along d (column Free m) n h [] (word m) rest)

pub of_alias_read : (a m : List ℕ) → is_name a ≡ true → is_name m ≡ true
    → ExprRead true false (aliased a m) (word a ∷ sign POINT ∷ word m ∷ [])
    (node ∷ plain ∷ plain ∷ [])
unfolding ref_rest name
of_alias_read a m e f d n h rest stops =
    at_name true a e d n (sign POINT ∷ word m ∷ rest)
    ∙ ap (λ b. cond (has_room n) (and_then (arm_run (single_arm (cond b (Some m) None)) (word m)
    (n + 1) rest) (λ c. pure (aliased a c)))
    (LimitExceeded what.Nodes n (word a ∷ sign POINT ∷ word m ∷ rest))) f
    ∙ in_room n (Parsed (aliased a m) (n + 1) rest)
    (along d (aliased a m) (n + 1) (plain ∷ plain ∷ []) (sign POINT ∷ word m ∷ rest)) _
    (λ i. sym (plain_along d (aliased a m) (n + 1) i (plain ∷ []) (sign POINT) (word m ∷ rest)
    ∙ plain_along d (aliased a m) (n + 1) i [] (word m) rest))
    ∙ sym (node_along d (aliased a m) n h (plain ∷ plain ∷ []) (word a)
    (sign POINT ∷ word m ∷ rest))

module _ (q : Bool) where
  pub no_point : (o : CmpOp) → follow_expr q (comparison_lexeme o) ≡ false
  no_point Eq = refl
  no_point Ne = refl
  no_point Lt = refl
  no_point Le = refl
  no_point Gt = refl
  no_point Ge = refl

-- ---- facts

module _ (q : Bool) where
  pub truth_read : FactRead q false always (word TRUE ∷ []) (node ∷ [])
  unfolding fact
  truth_read d n h rest stops = sym (node_along d always n h [] (word TRUE) rest)

  pub falsehood_read : FactRead q false never (word FALSE ∷ []) (node ∷ [])
  unfolding fact
  falsehood_read d n h rest stops = sym (node_along d never n h [] (word FALSE) rest)

  module _ (b : Bool) (c : Test) (k : List Lexeme) (ms : List TokenCounts)
      (part : FactRead q b c k ms) where
    pub not_read : FactRead q b (fails c) (word NOT ∷ k) (opened (node ∷ ms))
    unfolding fact
    not_read zero n h rest stops = sym (shut_node_along (fails c) n h (opened ms) (word NOT)
        (k ++ rest))
    not_read (suc d) n h rest stops =
        in_room n (map_to (λ u. fails u) (level q d).fact (n + 1) (k ++ rest))
        (along d (fails c) (n + 1) ms (k ++ rest)) _
        (λ i. ap (λ L. map_to (λ u. fails u) L.fact (n + 1) (k ++ rest)) (level_is q d)
        ∙ ap (λ o. and_then o (λ u. pure (fails u))) (part d (n + 1) i rest stops)
        ∙ map_along d (λ u. fails u) c (n + 1) ms (k ++ rest))
        ∙ sym (node_along d (fails c) n h ms (word NOT) (k ++ rest))
        ∙ sym (open_along d (fails c) n (node ∷ ms) (word NOT ∷ (k ++ rest)))

  module _ (b : Bool) (c : Test) (k : List Lexeme) (ms : List TokenCounts)
      (len : length ms ≡ length k) (part : CondRead q b c k ms) where
    pub bracket_read : FactRead q false c (sign OPEN ∷ (k ++ sign CLOSE ∷ []))
        (opened (plain ∷ (ms ++ plain ∷ [])))
    unfolding fact bracketed
    bracket_read zero n h rest stops = sym (shut_along c n h (opened (ms ++ plain ∷ [])) (sign OPEN)
        ((k ++ sign CLOSE ∷ []) ++ rest))
    bracket_read (suc d) n h rest stops =
        at (bind (level q d).cond (λ u. lead (is_sign CLOSE) (pure u)) n)
        (along d c n (ms ++ plain ∷ [])) ((k ++ sign CLOSE ∷ []) ++ rest)
        (k ++ sign CLOSE ∷ rest) (append_assoc k (sign CLOSE ∷ []) rest)
        (bind_along d (level q d).cond (λ u. lead (is_sign CLOSE) (pure u)) c c ms (plain ∷ []) k
        (sign CLOSE ∷ rest) n h len (part d n h (sign CLOSE ∷ rest) refl)
        (λ m i z. closes q d c (sign CLOSE) rest m i))
        ∙ sym (plain_along d c n h (ms ++ plain ∷ []) (sign OPEN) ((k ++ sign CLOSE ∷ []) ++ rest))
        ∙ sym (open_along d c n (plain ∷ (ms ++ plain ∷ []))
        (sign OPEN ∷ ((k ++ sign CLOSE ∷ []) ++ rest)))

  pub spelled_op : (o : CmpOp) → sign_op (comparison_lexeme o) ≡ Some o
  spelled_op Eq = refl
  spelled_op Ne = refl
  spelled_op Lt = refl
  spelled_op Le = refl
  spelled_op Gt = refl
  spelled_op Ge = refl

  -- what begins as an expression begins with none of these
  begins_not : (is : Lexeme → Bool) (y : Lexeme) → ((x : Lexeme) → is x ≡ true → x ≡ y)
      → starts_expr y ≡ false → (a : Tree) (s : Size) (k us : List Lexeme) → IsExpr q a s k
      → sees is (k ++ us) ≡ false
  begins_not is y exact e a s k us h =
      let x = expr_some q a s k h in
      let not : is x.0 ≡ false = by_test (is x.0)
      (λ t. true_false (sym x.3 ∙ ap starts_expr (exact x.0 t) ∙ e)) (λ t. t) in
      ap (λ l. sees is (l ++ us)) x.2 ∙ not

  module _ (fa fb : Bool) (o : CmpOp) (a b : Tree) (s : Size) (k m : List Lexeme)
      (ms ks : List TokenCounts) (len : length ms ≡ length k) (first : IsExpr q a s k)
      (left : ExprRead q fa a k ms) (right : ExprRead q fb b m ks) where
    abbrev rest_of : ℕ → Tree → Parser Test
    rest_of d u = choose (λ x. op_arm (λ p. Counts (map_to (λ v. compared p u v) (level q d).expr))
        (sign_op x))

    right_part : (d n : ℕ) → n ≤ 256 → (rest : List Lexeme) → Stops (follow_expr fb) rest
        → rest_of d a n (comparison_lexeme o ∷ (m ++ rest))
        ≡ along d (compared o a b) n (node ∷ ks) (comparison_lexeme o ∷ (m ++ rest))
    right_part d n h rest stops =
        ap (λ p. arm_run (op_arm (λ p. Counts (map_to (λ v. compared p a v) (level q d).expr)) p)
        (comparison_lexeme o) n (m ++ rest)) (spelled_op o)
        ∙ in_room n (map_to (λ v. compared o a v) (level q d).expr (n + 1) (m ++ rest))
        (along d (compared o a b) (n + 1) ks (m ++ rest)) _
        (λ i. ap (λ r. and_then r (λ v. pure (compared o a v))) (right d (n + 1) i rest stops)
        ∙ map_along d (λ v. compared o a v) b (n + 1) ks (m ++ rest))
        ∙ sym (node_along d (compared o a b) n h ks (comparison_lexeme o) (m ++ rest))

    both_parts : (d n : ℕ) → n ≤ 256 → (rest : List Lexeme) → Stops (follow_expr fb) rest
        → bind (level q d).expr (rest_of d) n (k ++ comparison_lexeme o ∷ (m ++ rest))
        ≡ along d (compared o a b) n (ms ++ node ∷ ks) (k ++ comparison_lexeme o ∷ (m ++ rest))
    both_parts d n h rest stops = bind_along d (level q d).expr (rest_of d) a (compared o a b) ms
        (node ∷ ks) k (comparison_lexeme o ∷ (m ++ rest)) n h len
        (left d n h (comparison_lexeme o ∷ (m ++ rest)) (no_point fa o))
        (λ j i z. right_part d j i rest stops)

    as_fact : (d n : ℕ) (ts : List Lexeme) → fact_at q d n ts ≡ (level q d).fact n ts
    as_fact d n ts = sym (ap (λ L. L.fact n ts) (level_is q d))

    as_compared : (d n : ℕ) (us : List Lexeme)
        → fact_at q d n (k ++ us) ≡ bind (level q d).expr (rest_of d) n (k ++ us)
    unfolding comparison
    as_compared d n us =
        as_fact d n (k ++ us)
        ∙ fact_else q d n (k ++ us) (begins_not (is_word NOT) (word NOT) (word_exact NOT) starts_not
        a s k us first) (begins_not (is_sign OPEN) (sign OPEN) (sign_exact OPEN) starts_open a s
        k us first)
        (begins_not (is_word TRUE) (word TRUE) (word_exact TRUE) starts_true a s k us first)
        (begins_not (is_word FALSE) (word FALSE) (word_exact FALSE) starts_false a s k us first)
        ∙ sym (ap (λ L. bind L.expr (λ u. choose
        (λ x. op_arm (λ p. Counts (map_to (λ v. compared p u v) L.expr)) (sign_op x))) n
        (k ++ us)) (level_is q d))

    pub compared_read : FactRead q fb (compared o a b) (k ++ comparison_lexeme o ∷ m)
        (ms ++ node ∷ ks)
    compared_read d n h rest stops =
        at (fact_at q d n) (along d (compared o a b) n (ms ++ node ∷ ks))
        ((k ++ comparison_lexeme o ∷ m) ++ rest) (k ++ comparison_lexeme o ∷ (m ++ rest))
        (append_assoc k (comparison_lexeme o ∷ m) rest)
        (as_compared d n (comparison_lexeme o ∷ (m ++ rest)) ∙ both_parts d n h rest stops)
