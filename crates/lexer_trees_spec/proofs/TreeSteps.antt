-- One step of reading an expression or a condition, as the code takes it.
use Rattle.std.proofs.Common.{◌≡◌, ℕ, zero, suc, ◌+◌, ◌-◌, ◌<◌, Bool, true, false, cond, Some, None}
use Rattle.std.proofs.Common.{List, [], ◌∷◌, drop, refl, sym, ap, ◌∙◌, arith, codes}
use Rattle.prima_base.specs.declared.refusal.What.TheVariants as what
use Rattle.cond_expr.specs.declared.expr.CmpOp.{CmpOp}
use Rattle.cond_expr.specs.Trees.{Test, always, never, fails}
use Rattle.lexer_spec.specs.Lexemes.{Lexeme, is_word, is_sign}
use Rattle.lexer_combinators.specs.Parsing.{Parsed, Unexpected, LimitExceeded, Parser, Counts}
use Rattle.lexer_combinators.specs.Parsing.{Whole, Fills, arm_run, has_room, map_to, choose}
use Rattle.lexer_combinators.specs.Reads.{sees}
use Rattle.lexer_combinators.proofs.ReadSteps.{choose_no, choose_takes, choose_counts, choose_full}
use Rattle.lexer_combinators.proofs.ReadSteps.{choose_refuses, choose_deep, choose_deep_full}
use Rattle.lexer_combinators.proofs.ReadSteps.{pick_not}
use Rattle.lexer_trees_spec.specs.Reader.{level, can, inside, nothing, made, expr, fact, comparison}
use Rattle.lexer_trees_spec.specs.Reader.{bracketed, length_rest, concat_rest, case_rest, atom_arm}
use Rattle.lexer_trees_spec.specs.Reader.{expr_arm, fact_arm, opens, sign_op, op_arm, first_op}

-- ---- the comparison

pub op_none : {A : Type 0} (p : CmpOp → Parser A) (n : ℕ) (ts : List Lexeme) → first_op ts ≡ None
    → choose (λ x. op_arm (λ o. Counts (p o)) (sign_op x)) n ts ≡ Unexpected n ts
op_none p n [] e = refl
op_none p n (x ∷ ts) e = ap (λ o. arm_run (op_arm (λ o. Counts (p o)) o) x n ts) e

pub op_counts : {A : Type 0} (p : CmpOp → Parser A) (o : CmpOp) (n : ℕ) (ts : List Lexeme)
    → first_op ts ≡ Some o → has_room n ≡ true
    → choose (λ x. op_arm (λ o. Counts (p o)) (sign_op x)) n ts ≡ p o (n + 1) (drop 1 ts)
op_counts p o n [] e r = cc
op_counts p o n (x ∷ ts) e r = ap (λ o. arm_run (op_arm (λ o. Counts (p o)) o) x n ts) e
    ∙ ap (λ b. cond b (p o (n + 1) ts) (LimitExceeded what.Nodes n (x ∷ ts))) r

pub op_full : {A : Type 0} (p : CmpOp → Parser A) (o : CmpOp) (n : ℕ) (ts : List Lexeme)
    → first_op ts ≡ Some o → has_room n ≡ false
    → choose (λ x. op_arm (λ o. Counts (p o)) (sign_op x)) n ts ≡ LimitExceeded what.Nodes n ts
op_full p o n [] e r = cc
op_full p o n (x ∷ ts) e r = ap (λ o. arm_run (op_arm (λ o. Counts (p o)) o) x n ts) e
    ∙ ap (λ b. cond b (p o (n + 1) ts) (LimitExceeded what.Nodes n (x ∷ ts))) r

-- ---- by the levels

pub level_is : (q : Bool) (d : ℕ) → level q d ≡ made q (can d) (inside q d)
level_is q zero = refl
level_is q (suc d) = refl

pub inside_is : (q : Bool) (d : ℕ) → 0 < d → inside q d ≡ level q (d - 1)
inside_is q zero h = absurd (omega arith)
inside_is q (suc d) h = ap (level q) (omega arith)

pub can_is : (d : ℕ) → 0 < d → can d ≡ true
can_is zero h = absurd (omega arith)
can_is (suc d) h = refl

pub cannot_is : (d : ℕ) → d ≡ 0 → can d ≡ false
cannot_is zero h = refl
cannot_is (suc d) h = absurd (omega (arith, h))

module _ (q : Bool) (d n : ℕ) (ts : List Lexeme) where
  as_expr : (level q d).expr n ts ≡ choose (expr_arm q (can d) (inside q d)) n ts
  unfolding expr
  as_expr = ap (λ L. L.expr n ts) (level_is q d)

  pub expr_length : sees (is_word (codes "LENGTH")) ts ≡ true → has_room n ≡ true
      → (level q d).expr n ts ≡ length_rest q (can d) (inside q d) (n + 1) (drop 1 ts)
  expr_length e r = as_expr ∙ choose_counts (is_word (codes "LENGTH")) _ _ n ts e r

  pub expr_length_full : sees (is_word (codes "LENGTH")) ts ≡ true → has_room n ≡ false
      → (level q d).expr n ts ≡ LimitExceeded what.Nodes n ts
  expr_length_full e r = as_expr ∙ choose_full (is_word (codes "LENGTH")) _ _ n ts e r

  pub expr_concat : sees (is_word (codes "LENGTH")) ts ≡ false
      → sees (is_word (codes "CONCAT")) ts ≡ true → has_room n ≡ true
      → (level q d).expr n ts ≡ concat_rest q (can d) (inside q d) (n + 1) (drop 1 ts)
  expr_concat e1 e r = as_expr ∙ choose_no (is_word (codes "LENGTH")) _ _ n ts e1
      ∙ choose_counts (is_word (codes "CONCAT")) _ _ n ts e r

  pub expr_concat_full : sees (is_word (codes "LENGTH")) ts ≡ false
      → sees (is_word (codes "CONCAT")) ts ≡ true → has_room n ≡ false
      → (level q d).expr n ts ≡ LimitExceeded what.Nodes n ts
  expr_concat_full e1 e r = as_expr ∙ choose_no (is_word (codes "LENGTH")) _ _ n ts e1
      ∙ choose_full (is_word (codes "CONCAT")) _ _ n ts e r

  past : sees (is_word (codes "LENGTH")) ts ≡ false → sees (is_word (codes "CONCAT")) ts ≡ false →
      (level q d).expr n ts ≡ choose (λ x. cond (is_word (codes "CASE") x)
      (opens q (can d) (inside q d) (case_rest q (can d) (inside q d)))
      (atom_arm q (can d) (inside q d) x)) n ts
  past e1 e2 = as_expr ∙ choose_no (is_word (codes "LENGTH")) _ _ n ts e1
      ∙ choose_no (is_word (codes "CONCAT")) _ _ n ts e2

  pub expr_case : 0 < d → sees (is_word (codes "LENGTH")) ts ≡ false
      → sees (is_word (codes "CONCAT")) ts ≡ false → sees (is_word (codes "CASE")) ts ≡ true
      → has_room n ≡ true → (level q d).expr n ts
      ≡ case_rest q true (level q (d - 1)) (n + 1) (drop 1 ts)
  expr_case h e1 e2 e r = past e1 e2
      ∙ ap (λ b. choose (λ x. cond (is_word (codes "CASE") x)
      (opens q b (inside q d) (case_rest q b (inside q d))) (atom_arm q b (inside q d) x)) n ts)
      (can_is d h)
      ∙ choose_counts (is_word (codes "CASE")) _ _ n ts e r
      ∙ ap (λ L. case_rest q true L (n + 1) (drop 1 ts)) (inside_is q d h)

  pub expr_case_full : 0 < d → sees (is_word (codes "LENGTH")) ts ≡ false
      → sees (is_word (codes "CONCAT")) ts ≡ false → sees (is_word (codes "CASE")) ts ≡ true
      → has_room n ≡ false → (level q d).expr n ts ≡ LimitExceeded what.Nodes n ts
  expr_case_full h e1 e2 e r = past e1 e2
      ∙ ap (λ b. choose (λ x. cond (is_word (codes "CASE") x)
      (opens q b (inside q d) (case_rest q b (inside q d))) (atom_arm q b (inside q d) x)) n ts)
      (can_is d h)
      ∙ choose_full (is_word (codes "CASE")) _ _ n ts e r

  at_no_depth : d ≡ 0 → sees (is_word (codes "LENGTH")) ts ≡ false
      → sees (is_word (codes "CONCAT")) ts ≡ false →
      (level q d).expr n ts ≡ choose (λ x. cond (is_word (codes "CASE") x) (Fills what.Depth)
      (atom_arm q false (inside q d) x)) n ts
  at_no_depth z e1 e2 = past e1 e2
      ∙ ap (λ b. choose (λ x. cond (is_word (codes "CASE") x)
      (opens q b (inside q d) (case_rest q b (inside q d))) (atom_arm q b (inside q d) x)) n ts)
      (cannot_is d z)

  pub expr_case_deep : d ≡ 0 → sees (is_word (codes "LENGTH")) ts ≡ false
      → sees (is_word (codes "CONCAT")) ts ≡ false → sees (is_word (codes "CASE")) ts ≡ true
      → has_room n ≡ true → (level q d).expr n ts ≡ LimitExceeded what.Depth n ts
  expr_case_deep z e1 e2 e r = at_no_depth z e1 e2
      ∙ choose_deep (is_word (codes "CASE")) _ _ n ts e r

  pub expr_case_deep_full : d ≡ 0 → sees (is_word (codes "LENGTH")) ts ≡ false
      → sees (is_word (codes "CONCAT")) ts ≡ false → sees (is_word (codes "CASE")) ts ≡ true
      → has_room n ≡ false → (level q d).expr n ts ≡ LimitExceeded what.Nodes n ts
  expr_case_deep_full z e1 e2 e r = at_no_depth z e1 e2
      ∙ choose_deep_full (is_word (codes "CASE")) _ _ n ts e r

  pub expr_else : sees (is_word (codes "LENGTH")) ts ≡ false
      → sees (is_word (codes "CONCAT")) ts ≡ false → sees (is_word (codes "CASE")) ts ≡ false
      → (level q d).expr n ts ≡ choose (atom_arm q true nothing) n ts
  expr_else e1 e2 e3 = past e1 e2 ∙ choose_no (is_word (codes "CASE")) _ _ n ts e3

  as_fact : (level q d).fact n ts ≡ choose (fact_arm q (can d) (inside q d)) n ts
  unfolding fact
  as_fact = ap (λ L. L.fact n ts) (level_is q d)

  pub fact_not : 0 < d → sees (is_word (codes "NOT")) ts ≡ true → has_room n ≡ true
      → (level q d).fact n ts ≡ map_to (λ c. fails c) (level q (d - 1)).fact (n + 1) (drop 1 ts)
  fact_not h e r = as_fact
      ∙ ap (λ b. choose (fact_arm q b (inside q d)) n ts) (can_is d h)
      ∙ choose_counts (is_word (codes "NOT")) _ _ n ts e r
      ∙ ap (λ L. map_to (λ c. fails c) L.fact (n + 1) (drop 1 ts)) (inside_is q d h)

  pub fact_not_full : 0 < d → sees (is_word (codes "NOT")) ts ≡ true → has_room n ≡ false
      → (level q d).fact n ts ≡ LimitExceeded what.Nodes n ts
  fact_not_full h e r = as_fact
      ∙ ap (λ b. choose (fact_arm q b (inside q d)) n ts) (can_is d h)
      ∙ choose_full (is_word (codes "NOT")) _ _ n ts e r

  pub fact_not_deep : d ≡ 0 → sees (is_word (codes "NOT")) ts ≡ true → has_room n ≡ true
      → (level q d).fact n ts ≡ LimitExceeded what.Depth n ts
  fact_not_deep z e r = as_fact ∙ ap (λ b. choose (fact_arm q b (inside q d)) n ts) (cannot_is d z)
      ∙ choose_deep (is_word (codes "NOT")) _ _ n ts e r

  pub fact_not_deep_full : d ≡ 0 → sees (is_word (codes "NOT")) ts ≡ true → has_room n ≡ false
      → (level q d).fact n ts ≡ LimitExceeded what.Nodes n ts
  fact_not_deep_full z e r = as_fact ∙ ap (λ b. choose (fact_arm q b (inside q d)) n ts)
      (cannot_is d z) ∙ choose_deep_full (is_word (codes "NOT")) _ _ n ts e r

  pub fact_bracket : 0 < d → sees (is_word (codes "NOT")) ts ≡ false
      → sees (is_sign (codes "(")) ts ≡ true → (level q d).fact n ts
      ≡ bracketed q true (level q (d - 1)) n (drop 1 ts)
  fact_bracket h e1 e = as_fact
      ∙ ap (λ b. choose (fact_arm q b (inside q d)) n ts) (can_is d h)
      ∙ choose_no (is_word (codes "NOT")) _ _ n ts e1
      ∙ choose_takes (is_sign (codes "(")) _ _ n ts e
      ∙ ap (λ L. bracketed q true L n (drop 1 ts)) (inside_is q d h)

  pub fact_bracket_deep : d ≡ 0 → sees (is_word (codes "NOT")) ts ≡ false
      → sees (is_sign (codes "(")) ts ≡ true → (level q d).fact n ts ≡ LimitExceeded what.Depth n ts
  fact_bracket_deep z e1 e = as_fact ∙ ap (λ b. choose (fact_arm q b (inside q d)) n ts)
      (cannot_is d z)
      ∙ choose_no (is_word (codes "NOT")) _ _ n ts e1
      ∙ choose_refuses (is_sign (codes "(")) _ _ n ts e

  pub fact_true : sees (is_word (codes "NOT")) ts ≡ false → sees (is_sign (codes "(")) ts ≡ false
      → sees (is_word (codes "TRUE")) ts ≡ true → has_room n ≡ true
      → (level q d).fact n ts ≡ Parsed always (n + 1) (drop 1 ts)
  fact_true e1 e2 e r = as_fact ∙ choose_no (is_word (codes "NOT")) _ _ n ts e1
      ∙ choose_no (is_sign (codes "(")) _ _ n ts e2
      ∙ choose_counts (is_word (codes "TRUE")) _ _ n ts e r

  pub fact_true_full : sees (is_word (codes "NOT")) ts ≡ false
      → sees (is_sign (codes "(")) ts ≡ false → sees (is_word (codes "TRUE")) ts ≡ true
      → has_room n ≡ false → (level q d).fact n ts ≡ LimitExceeded what.Nodes n ts
  fact_true_full e1 e2 e r = as_fact ∙ choose_no (is_word (codes "NOT")) _ _ n ts e1
      ∙ choose_no (is_sign (codes "(")) _ _ n ts e2
      ∙ choose_full (is_word (codes "TRUE")) _ _ n ts e r

  pub fact_false : sees (is_word (codes "NOT")) ts ≡ false → sees (is_sign (codes "(")) ts ≡ false
      → sees (is_word (codes "TRUE")) ts ≡ false → sees (is_word (codes "FALSE")) ts ≡ true
      → has_room n ≡ true → (level q d).fact n ts ≡ Parsed never (n + 1) (drop 1 ts)
  fact_false e1 e2 e3 e r = as_fact ∙ choose_no (is_word (codes "NOT")) _ _ n ts e1
      ∙ choose_no (is_sign (codes "(")) _ _ n ts e2 ∙ choose_no (is_word (codes "TRUE")) _ _ n ts e3
      ∙ choose_counts (is_word (codes "FALSE")) _ _ n ts e r

  pub fact_false_full : sees (is_word (codes "NOT")) ts ≡ false
      → sees (is_sign (codes "(")) ts ≡ false → sees (is_word (codes "TRUE")) ts ≡ false
      → sees (is_word (codes "FALSE")) ts ≡ true → has_room n ≡ false
      → (level q d).fact n ts ≡ LimitExceeded what.Nodes n ts
  fact_false_full e1 e2 e3 e r = as_fact ∙ choose_no (is_word (codes "NOT")) _ _ n ts e1
      ∙ choose_no (is_sign (codes "(")) _ _ n ts e2 ∙ choose_no (is_word (codes "TRUE")) _ _ n ts e3
      ∙ choose_full (is_word (codes "FALSE")) _ _ n ts e r

  whole_or_stuck : (p : Parser Test) → p n [] ≡ Unexpected n []
      → choose (λ x. Whole p) n ts ≡ p n ts
  whole_or_stuck p e = by_list ts
    where
      by_list : (l : List Lexeme) → choose (λ x. Whole p) n l ≡ p n l
      by_list [] = sym e
      by_list (x ∷ l) = refl

  none_compared : comparison q (can d) (inside q d) n [] ≡ Unexpected n []
  unfolding comparison expr
  none_compared = refl

  pub fact_else : sees (is_word (codes "NOT")) ts ≡ false → sees (is_sign (codes "(")) ts ≡ false
      → sees (is_word (codes "TRUE")) ts ≡ false → sees (is_word (codes "FALSE")) ts ≡ false
      → (level q d).fact n ts ≡ comparison q (can d) (inside q d) n ts
  fact_else e1 e2 e3 e4 = as_fact ∙ choose_no (is_word (codes "NOT")) _ _ n ts e1
      ∙ choose_no (is_sign (codes "(")) _ _ n ts e2 ∙ choose_no (is_word (codes "TRUE")) _ _ n ts e3
      ∙ choose_no (is_word (codes "FALSE")) _ _ n ts e4
      ∙ whole_or_stuck (comparison q (can d) (inside q d)) none_compared

pub length_open : (q : Bool) (d n : ℕ) (ts : List Lexeme) → 0 < d
    → length_rest q (can d) (inside q d) n ts ≡ length_rest q true (level q (d - 1)) n ts
length_open q d n ts h = ap (λ b. length_rest q b (inside q d) n ts) (can_is d h)
    ∙ ap (λ L. length_rest q true L n ts) (inside_is q d h)

pub length_shut : (q : Bool) (d n : ℕ) (ts : List Lexeme) → d ≡ 0
    → sees (is_sign (codes "(")) ts ≡ true → length_rest q (can d) (inside q d) n ts
    ≡ LimitExceeded what.Depth n ts
unfolding length_rest
length_shut q d n ts z e = ap (λ b. length_rest q b (inside q d) n ts) (cannot_is d z)
    ∙ choose_refuses (is_sign (codes "(")) what.Depth _ n ts e

pub length_stuck : (q : Bool) (d n : ℕ) (ts : List Lexeme) → sees (is_sign (codes "(")) ts ≡ false
    → length_rest q (can d) (inside q d) n ts ≡ Unexpected n ts
unfolding length_rest
length_stuck q d n ts e = pick_not (is_sign (codes "(")) _ n ts e

pub concat_open : (q : Bool) (d n : ℕ) (ts : List Lexeme) → 0 < d
    → concat_rest q (can d) (inside q d) n ts ≡ concat_rest q true (level q (d - 1)) n ts
concat_open q d n ts h = ap (λ b. concat_rest q b (inside q d) n ts) (can_is d h)
    ∙ ap (λ L. concat_rest q true L n ts) (inside_is q d h)

pub concat_shut : (q : Bool) (d n : ℕ) (ts : List Lexeme) → d ≡ 0
    → sees (is_sign (codes "(")) ts ≡ true → concat_rest q (can d) (inside q d) n ts
    ≡ LimitExceeded what.Depth n ts
unfolding concat_rest
concat_shut q d n ts z e = ap (λ b. concat_rest q b (inside q d) n ts) (cannot_is d z)
    ∙ choose_refuses (is_sign (codes "(")) what.Depth _ n ts e

pub concat_stuck : (q : Bool) (d n : ℕ) (ts : List Lexeme) → sees (is_sign (codes "(")) ts ≡ false
    → concat_rest q (can d) (inside q d) n ts ≡ Unexpected n ts
unfolding concat_rest
concat_stuck q d n ts e = pick_not (is_sign (codes "(")) _ n ts e
