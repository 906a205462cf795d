-- Reading expressions and conditions, from left to right.
use Rattle.std.specs.Prelude.{ℕ, zero, suc, Bool, true, false, if◌then◌else◌, List, [], ◌∷◌, ◌||◌}
use Rattle.std.specs.Prelude.{◌&&◌, codes, Option, Some, None}
use Rattle.prima_base.specs.declared.refusal.What.TheVariants as what
use Rattle.prima_base.specs.declared.value.Value.TheVariants.{Int, Text}
use Rattle.prima_base.specs.Limits.{max_depth}
use Rattle.cond_expr.specs.declared.expr.Whose.TheVariants.{Free, Alias, Atom}
use Rattle.cond_expr.specs.declared.expr.CmpOp.{CmpOp}
use Rattle.cond_expr.specs.declared.expr.CmpOp.TheVariants.{Eq, Ne, Lt, Le, Gt, Ge}
use Rattle.cond_expr.specs.Trees.{Tree, Test, column, constant, length_of, joined, choose as chosen}
use Rattle.cond_expr.specs.Trees.{never, always, compared, all_of, some_of, fails, a_tree, a_test}
use Rattle.cond_expr.specs.Seen.{trees_of, tests_of}
use Rattle.lexer_spec.specs.Lexemes.{Lexeme, word, number, text, sign, is_word, is_sign}
use Rattle.lexer_spec.specs.Lexemes.{is_name, is_int}
use Rattle.lexer_trees_spec.specs.Constants.{name}
use Rattle.lexer_combinators.specs.Parsing.{LimitExceeded, Parser, Arm, No, Takes, Counts, Whole}
use Rattle.lexer_combinators.specs.Parsing.{Refuses, Fills, bind, pure, lead, pick, choose, option}
use Rattle.lexer_combinators.specs.Parsing.{map_to, more, nodes_more}

-- what stands inside one more open construct
pub record Level : Type 0 where
  pub expr : Parser Tree
  pub cond : Parser Test
  pub fact : Parser Test

-- after a name
unfoldable pub ref_rest : Bool → List ℕ → Parser Tree
ref_rest false n = pure (column (Atom 0) n)
ref_rest true n = option (is_sign (codes ".")) (Takes (map_to (λ m. column (Alias n) m) name))
    (column Free n)

abbrev pub sign_op : Lexeme → Option CmpOp
sign_op x =
    if is_sign (codes "=") x then Some Eq else (if is_sign (codes "<>") x then Some Ne
    else (if is_sign (codes "<") x then Some Lt else
    (if is_sign (codes "<=") x then Some Le else (if is_sign (codes ">") x then Some Gt
    else (if is_sign (codes ">=") x then Some Ge else None)))))

-- the comparison that the next lexeme is
abbrev pub first_op : List Lexeme → Option CmpOp
first_op [] = None
first_op (x ∷ more) = sign_op x

abbrev pub op_arm : {A : Type 0} → (CmpOp → Arm A) → Option CmpOp → Arm A
op_arm arm None = No
op_arm arm (Some o) = arm o

module _ (q may : Bool) (within : Level) where
  -- an open bracket
  abbrev pub bracket : {A : Type 0} → Parser A → Arm A
  bracket p = if may then Takes p else Refuses what.Depth

  -- a node that is open too; where both are too many, it is the nodes
  abbrev pub opens : {A : Type 0} → Parser A → Arm A
  opens p = if may then Counts p else Fills what.Depth

  unfoldable pub length_rest : Parser Tree
  length_rest = pick (is_sign (codes "(")) (bracket
      (bind within.expr (λ e. lead (is_sign (codes ")")) (pure (length_of e)))))

  unfoldable pub concat_rest : Parser Tree
  concat_rest = pick (is_sign (codes "(")) (bracket
      (bind within.expr (λ e. bind (more (is_sign (codes ",")) what.Parts within.expr 7)
      (λ l. lead (is_sign (codes ")")) (pure (joined (a_tree e (trees_of l))))))))

  unfoldable pub case_rest : Parser Tree
  case_rest = lead (is_word (codes "WHEN")) (bind within.cond
      (λ c. lead (is_word (codes "THEN")) (bind within.expr
      (λ a. lead (is_word (codes "ELSE")) (bind within.expr
      (λ b. lead (is_word (codes "END")) (pure (chosen c a b))))))))

  abbrev pub atom_arm : Lexeme → Arm Tree
  atom_arm (word n) = if is_name n then Counts (ref_rest q n) else No
  atom_arm (number z) = if is_int z then Counts (pure (constant (Int z))) else No
  atom_arm (text t) = Counts (pure (constant (Text t)))
  atom_arm (sign s) = No

  abbrev pub expr_arm : Lexeme → Arm Tree
  expr_arm x =
      if is_word (codes "LENGTH") x then Counts length_rest
      else (if is_word (codes "CONCAT") x then Counts concat_rest else
      (if is_word (codes "CASE") x then opens case_rest else atom_arm x))

  unfoldable pub expr : Parser Tree
  expr = choose expr_arm

  unfoldable pub comparison : Parser Test
  comparison = bind expr (λ a. choose (λ x. op_arm (λ o. Counts (map_to (λ b. compared o a b) expr))
      (sign_op x)))

  unfoldable pub bracketed : Parser Test
  bracketed = bind within.cond (λ c. lead (is_sign (codes ")")) (pure c))

  abbrev pub fact_arm : Lexeme → Arm Test
  fact_arm x =
      if is_word (codes "NOT") x then opens (map_to (λ c. fails c) within.fact)
      else (if is_sign (codes "(") x then bracket bracketed else
      (if is_word (codes "TRUE") x then Counts (pure always)
      else (if is_word (codes "FALSE") x then Counts (pure never) else Whole comparison)))

  unfoldable pub fact : Parser Test
  fact = choose fact_arm

  unfoldable pub facts : Test → Parser Test
  facts c = option (is_word (codes "AND")) (Counts
      (bind fact (λ d. map_to (λ l. all_of (a_test c (a_test d (tests_of l))))
      (nodes_more (is_word (codes "AND")) fact)))) c

  unfoldable pub conj : Parser Test
  conj = bind fact facts

  unfoldable pub conjs : Test → Parser Test
  conjs c = option (is_word (codes "OR")) (Counts
      (bind conj (λ d. map_to (λ l. some_of (a_test c (a_test d (tests_of l))))
      (nodes_more (is_word (codes "OR")) conj)))) c

  unfoldable pub cond : Parser Test
  cond = bind conj conjs

abbrev pub nothing : Level
nothing = record {
  expr = λ n ts. LimitExceeded what.Depth n ts;
  cond = λ n ts.
      LimitExceeded what.Depth n ts;
  fact = λ n ts. LimitExceeded what.Depth n ts;
}

abbrev pub made : Bool → Bool → Level → Level
made q may within = record {
  expr = expr q may within;
  cond = cond q may within;
  fact =
      fact q may within;
}

-- with so many constructs yet to be opened
abbrev pub level : Bool → ℕ → Level
level q zero = made q false nothing
level q (suc d) = made q true (level q d)

abbrev pub can : ℕ → Bool
can zero = false
can (suc d) = true

abbrev pub inside : Bool → ℕ → Level
inside q zero = nothing
inside q (suc d) = level q d

-- what an expression goes on with, and a condition
abbrev pub follow_expr : Bool → Lexeme → Bool
follow_expr q x = is_sign (codes ".") x && q

abbrev pub follow_conj : Bool → Lexeme → Bool
follow_conj q x = is_word (codes "AND") x || follow_expr q x

abbrev pub follow_cond : Bool → Lexeme → Bool
follow_cond q x = is_word (codes "OR") x || follow_conj q x

-- where nothing is open yet
unfoldable pub outermost : Bool → Level
outermost q = level q max_depth
