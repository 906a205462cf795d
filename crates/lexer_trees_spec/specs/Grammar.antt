-- Which lexemes spell which tree, and of what size it is. The flag tells whether references are
-- those of queries.
use Rattle.std.specs.Prelude.{◌≡◌, ℕ, ◌+◌, ℤ, Bool, true, false, List, [], ◌∷◌, ◌++◌, codes}
use Rattle.prima_base.specs.declared.refusal.What.TheVariants as what
use Rattle.prima_base.specs.declared.value.Value.TheVariants.{Int, Text}
use Rattle.cond_expr.specs.declared.expr.Whose.TheVariants.{Free, Alias, Atom}
use Rattle.cond_expr.specs.declared.expr.CmpOp.{CmpOp}
use Rattle.cond_expr.specs.declared.expr.CmpOp.TheVariants.{Eq, Ne, Lt, Le, Gt, Ge}
use Rattle.cond_expr.specs.Trees.{Tree, Test, column, constant, length_of, joined, choose, never}
use Rattle.cond_expr.specs.Trees.{always, compared, all_of, some_of, fails, a_tree, a_test}
use Rattle.cond_expr.specs.Seen.{trees_of, tests_of}
use Rattle.lexer_spec.specs.Lexemes.{Lexeme, word, number, text, sign, is_name, is_int}
use Rattle.lexer_combinators.specs.Grammar.{Size, nothing_counted, both, one_node, one_open}
use Rattle.lexer_combinators.specs.Grammar.{so_wide}

abbrev pub comparison_lexeme : CmpOp → Lexeme
comparison_lexeme Eq = sign (codes "=")
comparison_lexeme Ne = sign (codes "<>")
comparison_lexeme Lt = sign (codes "<")
comparison_lexeme Le = sign (codes "<=")
comparison_lexeme Gt = sign (codes ">")
comparison_lexeme Ge = sign (codes ">=")

-- a single node
abbrev pub leaf : Size
leaf = one_node nothing_counted

mutual
  -- const | ref | LENGTH ( expr ) | CONCAT ( expr { , expr } ) | CASE WHEN cond THEN expr ELSE expr
  -- END
  pub data IsExpr : Bool → Tree → Size → List Lexeme → Type 0 where
    an_int : (q : Bool) (z : ℤ) → is_int z ≡ true → IsExpr q (constant (Int z)) leaf (number z ∷ [])
    a_text : (q : Bool) (t : List ℕ) → IsExpr q (constant (Text t)) leaf (text t ∷ [])
    of_atom : (n : List ℕ) → is_name n ≡ true → IsExpr false (column (Atom 0) n) leaf (word n ∷ [])
    of_free : (n : List ℕ) → is_name n ≡ true → IsExpr true (column Free n) leaf (word n ∷ [])
    of_alias : (a n : List ℕ) → is_name a ≡ true → is_name n ≡ true
        → IsExpr true (column (Alias a) n) leaf (word a ∷ sign (codes ".") ∷ word n ∷ [])
    a_length : (q : Bool) (e : Tree) (s : Size) (f : List Lexeme) → IsExpr q e s f
        → IsExpr q (length_of e) (one_node (one_open s))
        (word (codes "LENGTH") ∷ sign (codes "(") ∷ (f ++ sign (codes ")") ∷ []))
    a_concat : (q : Bool) (e : Tree) (l : List Tree) (s t : Size) (f g : List Lexeme)
        → IsExpr q e s f → AreParts q 1 l t g →
        IsExpr q (joined (a_tree e (trees_of l))) (one_node (one_open (both s t)))
        (word (codes "CONCAT") ∷ sign (codes "(") ∷ (f ++ (g ++ sign (codes ")") ∷ [])))
    a_case : (q : Bool) (c : Test) (a b : Tree) (s t u : Size) (f g h : List Lexeme)
        → IsCond q c s f → IsExpr q a t g → IsExpr q b u h →
        IsExpr q (choose c a b) (one_node (one_open (both s (both t u))))
        (word (codes "CASE") ∷ word (codes "WHEN")
        ∷ (f ++ word (codes "THEN") ∷ (g ++ word (codes "ELSE")
        ∷ (h ++ word (codes "END") ∷ []))))

  -- { , expr } after so many parts
  pub data AreParts : Bool → ℕ → List Tree → Size → List Lexeme → Type 0 where
    no_part : (q : Bool) (j : ℕ) → AreParts q j [] (so_wide what.Parts j) []
    a_part : (q : Bool) (j : ℕ) (e : Tree) (l : List Tree) (s t : Size) (f g : List Lexeme)
        → IsExpr q e s f → AreParts q (j + 1) l t g
        → AreParts q j (e ∷ l) (both s t) (sign (codes ",") ∷ (f ++ g))

  -- NOT fact | ( cond ) | TRUE | FALSE | expr cmp expr
  pub data IsFact : Bool → Test → Size → List Lexeme → Type 0 where
    negated : (q : Bool) (c : Test) (s : Size) (f : List Lexeme) → IsFact q c s f
        → IsFact q (fails c) (one_node (one_open s)) (word (codes "NOT") ∷ f)
    bracketed : (q : Bool) (c : Test) (s : Size) (f : List Lexeme) → IsCond q c s f
        → IsFact q c (one_open s) (sign (codes "(") ∷ (f ++ sign (codes ")") ∷ []))
    truth : (q : Bool) → IsFact q always leaf (word (codes "TRUE") ∷ [])
    falsehood : (q : Bool) → IsFact q never leaf (word (codes "FALSE") ∷ [])
    comparison : (q : Bool) (o : CmpOp) (a b : Tree) (s t : Size) (f g : List Lexeme)
        → IsExpr q a s f → IsExpr q b t g → IsFact q (compared o a b) (both s (one_node t))
        (f ++ comparison_lexeme o ∷ g)

  -- { AND fact }
  pub data AreFacts : Bool → List Test → Size → List Lexeme → Type 0 where
    no_fact : (q : Bool) → AreFacts q [] nothing_counted []
    a_fact : (q : Bool) (c : Test) (l : List Test) (s t : Size) (f g : List Lexeme) → IsFact q c s f
        → AreFacts q l t g → AreFacts q (c ∷ l) (both s t) (word (codes "AND") ∷ (f ++ g))

  -- fact { AND fact }: one alone is itself
  pub data IsConj : Bool → Test → Size → List Lexeme → Type 0 where
    one_fact : (q : Bool) (c : Test) (s : Size) (f : List Lexeme) → IsFact q c s f → IsConj q c s f
    an_and : (q : Bool) (c d : Test) (l : List Test) (s t u : Size) (f g h : List Lexeme)
        → IsFact q c s f → IsFact q d t g → AreFacts q l u h →
        IsConj q (all_of (a_test c (a_test d (tests_of l)))) (both s (one_node (both t u)))
        (f ++ word (codes "AND") ∷ (g ++ h))

  -- { OR conj }
  pub data AreConjs : Bool → List Test → Size → List Lexeme → Type 0 where
    no_conj : (q : Bool) → AreConjs q [] nothing_counted []
    a_conj : (q : Bool) (c : Test) (l : List Test) (s t : Size) (f g : List Lexeme) → IsConj q c s f
        → AreConjs q l t g → AreConjs q (c ∷ l) (both s t) (word (codes "OR") ∷ (f ++ g))

  -- conj { OR conj }: one alone is itself
  pub data IsCond : Bool → Test → Size → List Lexeme → Type 0 where
    one_conj : (q : Bool) (c : Test) (s : Size) (f : List Lexeme) → IsConj q c s f → IsCond q c s f
    an_or : (q : Bool) (c d : Test) (l : List Test) (s t u : Size) (f g h : List Lexeme)
        → IsConj q c s f → IsConj q d t g → AreConjs q l u h →
        IsCond q (some_of (a_test c (a_test d (tests_of l)))) (both s (one_node (both t u)))
        (f ++ word (codes "OR") ∷ (g ++ h))
