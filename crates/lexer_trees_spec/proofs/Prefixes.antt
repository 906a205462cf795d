-- A list of lexemes has one prefix that spells a tree.
use Rattle.std.proofs.Common.{inl, inr, ◌≡◌, ℕ, suc, ℤ, ◌+◌, Bool, true, false, List, [], ◌∷◌, ◌++◌}
use Rattle.std.proofs.Common.{refl, sym, ap, ◌∙◌, subst, append_assoc, append-nil, arith}
use Rattle.prima_base.specs.declared.refusal.What.TheVariants as what
use Rattle.prima_base.specs.declared.value.Value.TheVariants.{Int, Text}
use Rattle.cond_expr.specs.declared.expr.Whose.TheVariants.{Free, Atom}
use Rattle.cond_expr.specs.declared.expr.CmpOp.{CmpOp}
use Rattle.cond_expr.specs.Trees.{Tree, Test, column, constant, length_of, joined, choose as chosen}
use Rattle.cond_expr.specs.Trees.{never, always, compared, all_of, some_of, fails, a_tree, a_test}
use Rattle.cond_expr.specs.Trees.{Tests, no_tests}
use Rattle.cond_expr.specs.Seen.{trees_of, tests_of}
use Rattle.lexer_spec.specs.Lexemes.{Lexeme, word, number, text, sign, is_name}
use Rattle.lexer_combinators.specs.Grammar.{Grammar}
use Rattle.lexer_combinators.specs.Parsing.{Stops}
use Rattle.lexer_combinators.specs.Grammar.{Size, one_open, so_wide, AreMore, no_end}
use Rattle.lexer_combinators.specs.Grammar as grammar
use Rattle.lexer_combinators.specs.Derivations.{Derivation, derivation, after_lexeme, first_of}
use Rattle.lexer_combinators.specs.Derivations.{rest_of, source_of, in_node}
use Rattle.lexer_combinators.proofs.DerivationLaws.{given_value, made_value}
use Rattle.lexer_trees_spec.specs.Constants.{name_grammar}
use Rattle.lexer_trees_spec.specs.Grammar as g
use Rattle.lexer_trees_spec.specs.Grammar.{comparison_lexeme, leaf, IsExpr, AreParts, IsFact}
use Rattle.lexer_trees_spec.specs.Grammar.{AreFacts}
use Rattle.lexer_trees_spec.specs.Grammar.{IsConj}
use Rattle.lexer_trees_spec.specs.Grammar.{AreConjs, IsCond}
use Rattle.lexer_trees_spec.specs.Reader.{follow_expr, follow_cond}
use Rattle.lexer_spec.proofs.Cases.{true_false}
use Rattle.lexer_trees_spec.proofs.CountsRead.{no_word}
use Rattle.lexer_trees_spec.proofs.Grammar.{CASE, WHEN, THEN, ELSE, END, LENGTH, CONCAT, AND, OR}
use Rattle.lexer_trees_spec.proofs.Grammar.{NOT}
use Rattle.lexer_trees_spec.proofs.Grammar.{TRUE, FALSE, OPEN, CLOSE, COMMA, POINT, aliased}
use Rattle.lexer_trees_spec.proofs.Grammar.{alias_grammar, ref_grammar, insideLength_grammar}
use Rattle.lexer_trees_spec.proofs.Grammar.{length_grammar, insideConcat_grammar, concat_grammar}
use Rattle.lexer_trees_spec.proofs.Grammar.{case_grammar, expr_inv, length_down, concat_down}
use Rattle.lexer_trees_spec.proofs.Grammar.{case_down}
use Rattle.lexer_trees_spec.proofs.Grammar.{atom_down, expr_not_none, expr_some, starts_expr}
use Rattle.lexer_trees_spec.proofs.Grammar.{length_no_name, concat_no_name, case_no_name}
use Rattle.lexer_trees_spec.proofs.Grammar.{right_grammar}
use Rattle.lexer_trees_spec.proofs.Grammar.{cmp_grammar, bracket_grammar, not_grammar, fact_inv}
use Rattle.lexer_trees_spec.proofs.Grammar.{sign_of, after_sign}
use Rattle.lexer_trees_spec.proofs.Grammar.{not_down, bracket_down, true_down, false_down}
use Rattle.lexer_trees_spec.proofs.Grammar.{fact_not_none, conj_down, cond_down}
use Rattle.std.proofs.lemmas.List.{append_cancel_right}
use Rattle.lexer_combinators.specs.Prefixes.{DetermineEachOther}
use Rattle.lexer_trees_spec.proofs.Unambiguous.{Only, only_first, only_open, only_closed, only_expr}
use Rattle.lexer_trees_spec.proofs.Unambiguous.{only_cond, once, sign_grammar, as_cmp, and_all}
use Rattle.lexer_trees_spec.proofs.Unambiguous.{or_all}

-- whatever else spells it at the same place is this prefix
abbrev pub OnePrefix : {A : Type 0} → Grammar A → A → List Lexeme → Type 0
OnePrefix G a f = (t : Size) (k us vs : List Lexeme) → G a t k → f ++ us ≡ k ++ vs → (f ≡ k)
    × (us ≡ vs)

one_pure : {A : Type 0} (a : A) → OnePrefix (grammar.pure a) a []
one_pure a t k us vs h e = (sym h.2, e ∙ ap (λ l. l ++ vs) h.2)

module _ {A : Type 0} (G : A → Size → List Lexeme → Type 0) (a : A) (f : List Lexeme) where
  one_lead : (x : Lexeme) → OnePrefix G a f → OnePrefix (grammar.lead x G) a (x ∷ f)
  one_lead x o t k us vs h e =
      let z : x ∷ (f ++ us) ≡ x ∷ (h.0 ++ vs) = e ∙ ap (λ l. l ++ vs) h.1 in
      let r = o t h.0 us vs h.2 (let y : f ++ us ≡ h.0 ++ vs = cc in y) in
      (ap (λ l. x ∷ l) r.0 ∙ sym h.1, r.1)

  one_counted : OnePrefix G a f → OnePrefix (grammar.node G) a f
  one_counted o t k us vs h e = o h.0 k us vs h.2 e

  one_opened : OnePrefix G a f → OnePrefix (grammar.opened G) a f
  one_opened o t k us vs h e = o h.0 k us vs h.2 e

  -- it is none of what a lexeme more spells
  one_some : (v : A) (x : Lexeme) → (a ≡ v → ⊥) → OnePrefix G a f
      → OnePrefix (grammar.option v x G) a (x ∷ f)
  one_some v x other o t k us vs (inl h) e = absurd (other h.0)
  one_some v x other o t k us vs (inr h) e = one_lead x o t k us vs h e

  -- by the first lexeme
  one_first : (L : Grammar A) (x : Lexeme) → ((t : Size) → L a t [] → ⊥)
      → ((t : Size) (l : List Lexeme) → L a t (x ∷ l) → G a t l) → OnePrefix G a f
      → OnePrefix L a (x ∷ f)
  one_first L x none down o t [] us vs h e = absurd (none t h)
  one_first L x none down o t (y ∷ k) us vs h e =
      let z : y ≡ x = cc in
      let P : Lexeme → Type 0 = λ w. L a t (w ∷ k) in
      let r = o t k us vs (down t k (subst P z h)) (let w : f ++ us ≡ k ++ vs = cc in w) in
      (ap (λ l. x ∷ l) r.0 ∙ ap (λ w. w ∷ k) (sym z), r.1)

one_none : {A : Type 0} (G : Grammar A) (v : A) (x : Lexeme)
    → ((t : Size) (l : List Lexeme) → G v t l → ⊥) → OnePrefix (grammar.option v x G) v []
one_none G v x other t k us vs (inl h) e = one_pure v t k us vs h e
one_none G v x other t k us vs (inr h) e = absurd (other t h.0 h.2)

one_map : {A B : Type 0} (φ : A → B) (G : Grammar A) (a : A) (f : List Lexeme)
    → ((c : A) → φ a ≡ φ c → c ≡ a) → OnePrefix G a f → OnePrefix (grammar.map φ G) (φ a) f
one_map {A} φ G a f same o t k us vs h e = let P : A
    → Type 0 = λ c. G c t k in o t k us vs (subst P (same h.0 h.1) h.2) e

-- what is spelled tells its first part
one_bind : {A B : Type 0} (G : Grammar A) (H : A → Grammar B) (a : A) (b : B) (f k : List Lexeme) →
    ((c : A) (u : Size) (l : List Lexeme) → H c b u l → c ≡ a) → OnePrefix G a f
    → OnePrefix (H a) b k → OnePrefix (grammar.seq G H) b (f ++ k)
one_bind {A} G H a b f k same first second t m us vs h e =
    let one : f ++ (k ++ us) ≡ h.3 ++ (h.4 ++ vs) = sym (append_assoc f k us) ∙ e
    ∙ ap (λ l. l ++ vs) h.6 ∙ append_assoc h.3 h.4 vs in
    let it : h.0 ≡ a = same h.0 h.2 h.4 h.8 in
    let P : A → Type 0 = λ c. G c h.1 h.3 in
    let Q : A → Type 0 = λ c. H c b h.2 h.4 in
    let r = first h.1 h.3 (k ++ us) (h.4 ++ vs) (subst P it h.7) one in
    let r2 = second h.2 h.4 us vs (subst Q it h.8) r.1 in
    (ap (λ l. l ++ k) r.0 ∙ ap (λ l. h.3 ++ l) r2.0 ∙ sym h.6, r2.1)

-- a part, then a lexeme, then the rest
one_then : {A B : Type 0} (G : Grammar A) (x : Lexeme) (H : A → Grammar B) (a : A) (b : B)
    (f k : List Lexeme) →
    ((c : A) (u : Size) (l : List Lexeme) → H c b u l → c ≡ a) → OnePrefix G a f
    → OnePrefix (H a) b k → OnePrefix (grammar.seq G (λ c. grammar.lead x (H c))) b (f ++ x ∷ k)
one_then G x H a b f k same first second = one_bind G (λ c. grammar.lead x (H c)) a b f (x ∷ k)
    (λ c u l h. same c u h.0 h.2) first (one_lead (H a) b k x second)

-- a part and the lexeme that closes it
one_closed : {A B : Type 0} (G : Grammar A) (x : Lexeme) (φ : A → B) (a : A) (f : List Lexeme)
    → ((c : A) → φ a ≡ φ c → c ≡ a) → OnePrefix G a f
    → OnePrefix (grammar.seq G (λ c. grammar.lead x (grammar.pure (φ c)))) (φ a) (f ++ x ∷ [])
one_closed G x φ a f same first = one_then G x (λ c. grammar.pure (φ c)) a (φ a) f []
    (λ c u l h. same c h.0) first (one_pure (φ a))

-- ---- lists

module _ {A : Type 0} (sep : Lexeme) (end : ℕ → Size) (G : A → Size → List Lexeme → Type 0)
    (j : ℕ) where
  one_end : OnePrefix (AreMore sep end G j) [] []
  one_end t k us vs h e = (sym h.1, e ∙ ap (λ l. l ++ vs) h.1)

  one_next : (a : A) (l : List A) (f k : List Lexeme) → OnePrefix G a f
      → OnePrefix (AreMore sep end G (j + 1)) l k
      → OnePrefix (AreMore sep end G j) (a ∷ l) (sep ∷ (f ++ k))
  one_next a l f k first others t m us vs h e =
      let z : sep ∷ ((f ++ k) ++ us) ≡ sep ∷ ((h.2 ++ h.3) ++ vs) = e ∙ ap (λ n. n ++ vs) h.5 in
      let one : f ++ (k ++ us) ≡ h.2 ++ (h.3 ++ vs) =
      (let y : (f ++ k) ++ us ≡ (h.2 ++ h.3) ++ vs = cc in sym (append_assoc f k us) ∙ y
      ∙ append_assoc h.2 h.3 vs) in
      let r = first h.0 h.2 (k ++ us) (h.3 ++ vs) h.6 one in
      let r2 = others h.1 h.3 us vs h.7 r.1 in
      (ap (λ n. sep ∷ (n ++ k)) r.0 ∙ ap (λ n. sep ∷ (h.2 ++ n)) r2.0 ∙ sym h.5, r2.1)

-- ---- what a tree tells of its parts

same_trees : (l m : List Tree) → trees_of l ≡ trees_of m → l ≡ m
same_trees [] [] e = refl
same_trees [] (b ∷ m) e = cc
same_trees (a ∷ l) [] e = cc
same_trees (a ∷ l) (b ∷ m) e = let head : a ≡ b = cc in let rest : l ≡ m =
    same_trees l m (let r : trees_of l ≡ trees_of m = cc in r) in cc

same_tests : (l m : List Test) → tests_of l ≡ tests_of m → l ≡ m
same_tests [] [] e = refl
same_tests [] (b ∷ m) e = cc
same_tests (a ∷ l) [] e = cc
same_tests (a ∷ l) (b ∷ m) e = let head : a ≡ b = cc in let rest : l ≡ m =
    same_tests l m (let r : tests_of l ≡ tests_of m = cc in r) in cc

-- a column alone is none after an alias
alone_or_aliased : (a m n : List ℕ) → column Free m ≡ aliased a n → ⊥
alone_or_aliased a m n e = cc

-- of how many lists the first test is a list again
abbrev firsts : Test → ℕ
firsts never = 0
firsts always = 0
firsts (compared o a b) = 0
firsts (fails c) = 0
firsts (all_of no_tests) = 0
firsts (all_of (a_test c cs)) = suc (firsts c)
firsts (some_of no_tests) = 0
firsts (some_of (a_test c cs)) = suc (firsts c)

-- a test is not the first of its own parts
not_first_of_all : (c : Test) (cs : Tests) → all_of (a_test c cs) ≡ c → ⊥
not_first_of_all c cs e = let n : suc (firsts c) ≡ firsts c = ap firsts e in omega arith

not_first_of_some : (c : Test) (cs : Tests) → some_of (a_test c cs) ≡ c → ⊥
not_first_of_some c cs e = let n : suc (firsts c) ≡ firsts c = ap firsts e in omega arith

not_first_of_first : (c : Test) (cs ds : Tests) → all_of (a_test (some_of (a_test c cs)) ds) ≡ c → ⊥
not_first_of_first c cs ds e = let n : suc (suc (firsts c)) ≡ firsts c = ap firsts e in omega arith

-- ---- expressions

one_name : (n : List ℕ) → OnePrefix name_grammar n (word n ∷ [])
one_name n t k us vs h e =
    let z : word n ∷ us ≡ h.0 ∷ vs = e ∙ ap (λ l. l ++ vs) h.3 in
    let y : word n ≡ h.0 = cc in
    (ap (λ x. x ∷ []) y ∙ sym h.3, (let v : us ≡ vs = cc in v))

module _ (q : Bool) where
  abbrev Parts : ℕ → Grammar (List Tree)
  Parts j = AreMore (sign COMMA) (so_wide what.Parts) (IsExpr q) j

  first_expr : (G : Grammar Tree) (x : Lexeme) (e : Tree) (f : List Lexeme)
      → ((t : Size) (l : List Lexeme) → IsExpr q e t (x ∷ l) → G e t l) → OnePrefix G e f
      → OnePrefix (IsExpr q) e (x ∷ f)
  first_expr G x e f down o = one_first G e f (IsExpr q) x (expr_not_none q e) down o

  one_length : (e : Tree) (f : List Lexeme) → OnePrefix (IsExpr q) e f
      → OnePrefix (IsExpr q) (length_of e) (word LENGTH ∷ sign OPEN ∷ (f ++ sign CLOSE ∷ []))
  one_length e f o =
      let inside : List Lexeme = f ++ sign CLOSE ∷ [] in
      first_expr (grammar.node (length_grammar q)) (word LENGTH) (length_of e) (sign OPEN ∷ inside)
      (λ t l h. length_down q (length_of e) t l
      (expr_inv q (length_of e) t (word LENGTH ∷ l) h))
      (one_counted (length_grammar q) (length_of e) (sign OPEN ∷ inside)
      (one_lead (grammar.opened (insideLength_grammar q)) (length_of e) inside (sign OPEN)
      (one_opened (insideLength_grammar q) (length_of e) inside
      (one_closed (IsExpr q) (sign CLOSE) (λ x. length_of x) e f (λ c h. cc) o))))

  abbrev closed_grammar : Tree → Grammar Tree
  closed_grammar x = grammar.seq (Parts 1) (λ y.
      grammar.lead (sign CLOSE) (grammar.pure (joined (a_tree x (trees_of y)))))

  one_concat : (e : Tree) (l : List Tree) (f k : List Lexeme) → OnePrefix (IsExpr q) e f
      → OnePrefix (Parts 1) l k → OnePrefix (IsExpr q) (joined (a_tree e (trees_of l)))
      (word CONCAT ∷ sign OPEN ∷ (f ++ (k ++ sign CLOSE ∷ [])))
  one_concat e l f k o p =
      let all : Tree = joined (a_tree e (trees_of l)) in
      let inside : List Lexeme = f ++ (k ++ sign CLOSE ∷ []) in
      first_expr (grammar.node (concat_grammar q)) (word CONCAT) all (sign OPEN ∷ inside)
      (λ t m h. concat_down q all t m (expr_inv q all t (word CONCAT ∷ m) h))
      (one_counted (concat_grammar q) all (sign OPEN ∷ inside)
      (one_lead (grammar.opened (insideConcat_grammar q)) all inside (sign OPEN)
      (one_opened (insideConcat_grammar q) all inside
      (one_bind (IsExpr q) closed_grammar e all f (k ++ sign CLOSE ∷ []) same_first o
      (one_closed (Parts 1) (sign CLOSE) (λ y. joined (a_tree e (trees_of y))) l k same_others
      p)))))
    where
      same_first : (c : Tree) (u : Size) (m : List Lexeme)
          → closed_grammar c (joined (a_tree e (trees_of l))) u m → c ≡ e
      same_first c u m h =
          let whole : Derivation (closed_grammar c) = derivation _ u m h in
          let others : List Tree = (first_of whole).value in
          let r : joined (a_tree e (trees_of l)) ≡ joined (a_tree c (trees_of others)) =
          given_value (after_lexeme (rest_of whole)) in cc

      same_others : (m : List Tree) → joined (a_tree e (trees_of l))
          ≡ joined (a_tree e (trees_of m)) → m ≡ l
      same_others m h = same_trees m l (let r : trees_of m ≡ trees_of l = cc in r)

  abbrev else_grammar : Test → Tree → Grammar Tree
  else_grammar c a = grammar.seq (IsExpr q) (λ b.
      grammar.lead (word END) (grammar.pure (chosen c a b)))

  abbrev then_grammar : Test → Grammar Tree
  then_grammar c = grammar.seq (IsExpr q) (λ a. grammar.lead (word ELSE) (else_grammar c a))

  one_case : (c : Test) (a b : Tree) (f k m : List Lexeme) → OnePrefix (IsCond q) c f
      → OnePrefix (IsExpr q) a k → OnePrefix (IsExpr q) b m →
      OnePrefix (IsExpr q) (chosen c a b) (word CASE ∷ word WHEN
      ∷ (f ++ word THEN ∷ (k ++ word ELSE ∷ (m ++ word END ∷ []))))
  one_case c a b f k m oc oa ob =
      let all : Tree = chosen c a b in
      let at_end : List Lexeme = m ++ word END ∷ [] in
      let at_else : List Lexeme = k ++ word ELSE ∷ at_end in
      let inside : List Lexeme = f ++ word THEN ∷ at_else in
      first_expr (grammar.node (grammar.opened (case_grammar q))) (word CASE) all
      (word WHEN ∷ inside) (λ t l h. case_down q all t l (expr_inv q all t (word CASE ∷ l) h))
      (one_counted (grammar.opened (case_grammar q)) all (word WHEN ∷ inside)
      (one_opened (case_grammar q) all (word WHEN ∷ inside)
      (one_lead (grammar.seq (IsCond q) (λ x. grammar.lead (word THEN) (then_grammar x))) all inside
      (word WHEN)
      (one_then (IsCond q) (word THEN) then_grammar c all f at_else
      same_case oc
      (one_then (IsExpr q) (word ELSE) (else_grammar c) a all k at_end
      same_then oa
      (one_closed (IsExpr q) (word END) (λ x. chosen c a x) b m (λ x h. cc) ob))))))
    where
      same_case : (d : Test) (u : Size) (l : List Lexeme)
          → then_grammar d (chosen c a b) u l → d ≡ c
      same_case d u l h =
          let after_when : Derivation (then_grammar d) = derivation _ u l h in
          let x : Tree = (first_of after_when).value in
          let after_then : Derivation (else_grammar d x) = after_lexeme (rest_of after_when) in
          let y : Tree = (first_of after_then).value in
          let r : chosen c a b ≡ chosen d x y =
          given_value (after_lexeme (rest_of after_then)) in cc

      same_then : (x : Tree) (u : Size) (l : List Lexeme)
          → else_grammar c x (chosen c a b) u l → x ≡ a
      same_then x u l h =
          let after_then : Derivation (else_grammar c x) = derivation _ u l h in
          let y : Tree = (first_of after_then).value in
          let r : chosen c a b ≡ chosen c x y =
          given_value (after_lexeme (rest_of after_then)) in cc

  -- a single lexeme that is no word of an expression
  one_int : (z : ℤ) → OnePrefix (IsExpr q) (constant (Int z)) (number z ∷ [])
  one_int z =
      let e : Tree = constant (Int z) in
      first_expr (grammar.node (grammar.pure e)) (number z) e []
      (λ t l h. let k = atom_down q e t (number z) l refl refl refl
      (expr_inv q e t (number z ∷ l) h) in k.1) (one_counted (grammar.pure e) e [] (one_pure e))

  one_text : (z : List ℕ) → OnePrefix (IsExpr q) (constant (Text z)) (text z ∷ [])
  one_text z =
      let e : Tree = constant (Text z) in
      first_expr (grammar.node (grammar.pure e)) (text z) e []
      (λ t l h. atom_down q e t (text z) l refl refl refl (expr_inv q e t (text z ∷ l) h))
      (one_counted (grammar.pure e) e [] (one_pure e))

  one_named : (n : List ℕ) → is_name n ≡ true → (e : Tree) (f : List Lexeme)
      → OnePrefix (ref_grammar q n) e f → OnePrefix (IsExpr q) e (word n ∷ f)
  one_named n ok e f o =
      first_expr (grammar.node (ref_grammar q n)) (word n) e f
      (λ t l h. let k = atom_down q e t (word n) l (no_word q LENGTH n length_no_name ok)
      (no_word q CONCAT n concat_no_name ok) (no_word q CASE n case_no_name ok)
      (expr_inv q e t (word n ∷ l) h) in k.1)
      (one_counted (ref_grammar q n) e f o)

  -- ---- facts

  first_fact : (G : Grammar Test) (x : Lexeme) (c : Test) (f : List Lexeme)
      → ((t : Size) (l : List Lexeme) → IsFact q c t (x ∷ l) → G c t l) → OnePrefix G c f
      → OnePrefix (IsFact q) c (x ∷ f)
  first_fact G x c f down o = one_first G c f (IsFact q) x
      (λ t h. fact_not_none q c t (fact_inv q c t [] h)) down o

  one_not : (c : Test) (f : List Lexeme) → OnePrefix (IsFact q) c f
      → OnePrefix (IsFact q) (fails c) (word NOT ∷ f)
  one_not c f o =
      first_fact (grammar.node (grammar.opened (not_grammar q))) (word NOT) (fails c) f
      (λ t l h. not_down q (fails c) t l (fact_inv q (fails c) t (word NOT ∷ l) h))
      (one_counted (grammar.opened (not_grammar q)) (fails c) f
      (one_opened (not_grammar q) (fails c) f
      (one_map (λ x. fails x) (IsFact q) c f (λ d h. cc) o)))

  one_bracket : (c : Test) (f : List Lexeme) → OnePrefix (IsCond q) c f
      → OnePrefix (IsFact q) c (sign OPEN ∷ (f ++ sign CLOSE ∷ []))
  one_bracket c f o =
      let inside : List Lexeme = f ++ sign CLOSE ∷ [] in
      first_fact (grammar.opened (bracket_grammar q)) (sign OPEN) c inside
      (λ t l h. bracket_down q c t l (fact_inv q c t (sign OPEN ∷ l) h))
      (one_opened (bracket_grammar q) c inside
      (one_closed (IsCond q) (sign CLOSE) (λ x. x) c f (λ d h. sym h) o))

  one_truth : OnePrefix (IsFact q) always (word TRUE ∷ [])
  one_truth = first_fact (grammar.node (grammar.pure always)) (word TRUE) always []
      (λ t l h. true_down q always t l (fact_inv q always t (word TRUE ∷ l) h))
      (one_counted (grammar.pure always) always [] (one_pure always))

  one_falsehood : OnePrefix (IsFact q) never (word FALSE ∷ [])
  one_falsehood = first_fact (grammar.node (grammar.pure never)) (word FALSE) never []
      (λ t l h. false_down q never t l (fact_inv q never t (word FALSE ∷ l) h))
      (one_counted (grammar.pure never) never [] (one_pure never))

  one_sign : (o : CmpOp) (a b : Tree) (k : List Lexeme) → OnePrefix (IsExpr q) b k
      → OnePrefix (sign_grammar q a) (compared o a b) (comparison_lexeme o ∷ k)
  one_sign o a b k ob t m us vs h e =
      let whole : Derivation (sign_grammar q a) = derivation _ t m h in
      let side : Derivation (right_grammar q a (sign_of whole)) = in_node (after_sign whole) in
      let same : o ≡ sign_of whole =
      told (sign_of whole) (source_of side).value (made_value side) in
      let P : CmpOp → Type 0 = λ p. grammar.lead (comparison_lexeme p)
      (grammar.node (right_grammar q a p))
      (compared o a b) t m in
      let right : OnePrefix (right_grammar q a o) (compared o a b) k =
      one_map (λ y. compared o a y) (IsExpr q) b k (λ y r. cc) ob in
      one_lead (grammar.node (right_grammar q a o)) (compared o a b) k (comparison_lexeme o)
      (one_counted (right_grammar q a o) (compared o a b) k right) t m us vs
      (subst P (sym same) h.1) e
    where
      told : (p : CmpOp) (y : Tree) → compared o a b ≡ compared p a y → o ≡ p
      told p y r = cc

  one_cmp : (o : CmpOp) (a b : Tree) (f k : List Lexeme) → OnePrefix (IsExpr q) a f
      → OnePrefix (IsExpr q) b k → OnePrefix (cmp_grammar q) (compared o a b)
      (f ++ comparison_lexeme o ∷ k)
  one_cmp o a b f k oa ob = one_bind (IsExpr q) (sign_grammar q) a (compared o a b) f
      (comparison_lexeme o ∷ k) same_left oa (one_sign o a b k ob)
    where
      same_left : (x : Tree) (u : Size) (l : List Lexeme)
          → sign_grammar q x (compared o a b) u l → x ≡ a
      same_left x u l h =
          let whole : Derivation (sign_grammar q x) = derivation _ u l h in
          let side : Derivation (right_grammar q x (sign_of whole)) = in_node (after_sign whole) in
          let r : compared o a b ≡ compared (sign_of whole) x (source_of side).value =
          made_value side in cc

  by_cmp : (a : Tree) (s : Size) (f : List Lexeme) → IsExpr q a s f → (c : Test) (k : List Lexeme)
      → OnePrefix (cmp_grammar q) c (f ++ k) → OnePrefix (IsFact q) c (f ++ k)
  by_cmp a s f h c k o t [] us vs g e = absurd (fact_not_none q c t (fact_inv q c t [] g))
  by_cmp a s f h c k o t (y ∷ l) us vs g e =
      let x = expr_some q a s f h in
      let z : x.0 ∷ ((x.1 ++ k) ++ us) ≡ y ∷ (l ++ vs) = sym (ap (λ m. (m ++ k) ++ us) x.2) ∙ e in
      let w : y ≡ x.0 = cc in
      o t (y ∷ l) us vs (as_cmp q c t y l (ap starts_expr w ∙ x.3) g) e

-- ---- joined by AND and OR

module _ (w : List ℕ) (make : Test → Test → List Test → Test) (G : Test → Size → List Lexeme
    → Type 0) (first_told : (c d : Test) (e x : Test) (l m : List Test) → make c e l ≡ make d x m
    → d ≡ c) (second_told : (c : Test) (e x : Test) (l m : List Test) → make c e l ≡ make c x m
    → x ≡ e) (others_told : (c e : Test) (l m : List Test) → make c e l ≡ make c e m → m ≡ l)
    (apart : (c e : Test) (l : List Test) (s t : Size) (f k us vs : List Lexeme)
    → G (make c e l) s f → G c t k → f ++ us ≡ k ++ vs → ⊥) where
  abbrev MoreGrammar : Grammar (List Test)
  MoreGrammar = AreMore (word w) no_end G 0

  abbrev TwoGrammar : Test → Grammar Test
  TwoGrammar c = grammar.seq G (λ e. grammar.map (make c e) MoreGrammar)

  abbrev RestGrammar : Test → Grammar Test
  RestGrammar c = grammar.option c (word w) (grammar.node (TwoGrammar c))

  -- one alone is itself
  one_alone : (c : Test) (s : Size) (f : List Lexeme) → G c s f → OnePrefix G c f
      → OnePrefix (grammar.seq G RestGrammar) c f
  one_alone c s f here o t m us vs h e = by_tail h.8
    where
      split : f ++ us ≡ h.3 ++ (h.4 ++ vs)
      split = e ∙ ap (λ l. l ++ vs) h.6 ∙ append_assoc h.3 h.4 vs

      by_tail : RestGrammar h.0 c h.2 h.4 → (f ≡ m) × (us ≡ vs)
      by_tail (inl k) =
          let P : Test → Type 0 = λ x. G x h.1 h.3 in
          let r = o h.1 h.3 us (h.4 ++ vs) (subst P (sym k.0) h.7) split in (
            r.0 ∙ sym (append-nil h.3) ∙ ap (λ l. h.3 ++ l) (sym k.2) ∙ sym h.6,
            r.1
                ∙ ap (λ l. l ++ vs) k.2,
          )
      by_tail (inr k) =
          let led : Derivation (grammar.lead (word w) (grammar.node (TwoGrammar h.0))) =
          derivation _ h.2 h.4 k in
          let both : Derivation (TwoGrammar h.0) = in_node (after_lexeme led) in
          let others = rest_of both in
          let P : Test → Type 0 = λ x. G x s f in
          absurd (apart h.0 (first_of both).value (source_of others).value s h.1 f h.3 us
          (h.4 ++ vs) (subst P (made_value others) here) h.7 split)

  one_joined : (c e : Test) (l : List Test) (s : Size) (f k m : List Lexeme) → G c s f
      → OnePrefix G c f → OnePrefix G e k → OnePrefix MoreGrammar l m
      → OnePrefix (grammar.seq G RestGrammar) (make c e l) (f ++ word w ∷ (k ++ m))
  one_joined c e l s f k m here oc oe ol t n us vs h eq = by_tail h.8
    where
      split : f ++ ((word w ∷ (k ++ m)) ++ us) ≡ h.3 ++ (h.4 ++ vs)
      split = sym (append_assoc f (word w ∷ (k ++ m)) us) ∙ eq ∙ ap (λ x. x ++ vs) h.6
          ∙ append_assoc h.3 h.4 vs

      two : OnePrefix (TwoGrammar c) (make c e l) (k ++ m)
      two = one_bind G (λ d. grammar.map (make c d) MoreGrammar) e (make c e l) k m
          (λ d u x h. second_told c e d l h.0 h.1) oe
          (one_map (make c e) MoreGrammar l m (λ x r. others_told c e l x r) ol)

      by_tail : RestGrammar h.0 (make c e l) h.2 h.4 → ((f ++ word w ∷ (k ++ m)) ≡ n) × (us ≡ vs)
      by_tail (inl j) =
          let P : Test → Type 0 = λ x. G x h.1 h.3 in
          absurd (apart c e l h.1 s h.3 f (h.4 ++ vs) ((word w ∷ (k ++ m)) ++ us)
          (subst P (sym j.0) h.7) here (sym split))
      by_tail (inr j) =
          let led : Derivation (grammar.lead (word w) (grammar.node (TwoGrammar h.0))) =
          derivation _ h.2 h.4 j in
          let both : Derivation (TwoGrammar h.0) = in_node (after_lexeme led) in
          let others = rest_of both in
          let it : h.0 ≡ c = first_told c h.0 e (first_of both).value l (source_of others).value
          (made_value others) in
          let P : Test → Type 0 = λ x. G x h.1 h.3 in
          let Q : Test → Type 0 = λ x. grammar.lead (word w) (grammar.node (TwoGrammar x))
          (make c e l) h.2 h.4 in
          let r = oc h.1 h.3 ((word w ∷ (k ++ m)) ++ us) (h.4 ++ vs) (subst P it h.7) split in
          let r2 = one_lead (grammar.node (TwoGrammar c)) (make c e l) (k ++ m) (word w)
          (one_counted (TwoGrammar c) (make c e l) (k ++ m) two) h.2 h.4 us vs (subst Q it j)
          r.1 in
          (ap (λ x. x ++ word w ∷ (k ++ m)) r.0 ∙ ap (λ x. h.3 ++ x) r2.0 ∙ sym h.6, r2.1)

and_first : (c d e x : Test) (l m : List Test) → and_all c e l ≡ and_all d x m → d ≡ c
and_first c d e x l m r = cc

and_second : (c e x : Test) (l m : List Test) → and_all c e l ≡ and_all c x m → x ≡ e
and_second c e x l m r = cc

and_others : (c e : Test) (l m : List Test) → and_all c e l ≡ and_all c e m → m ≡ l
and_others c e l m r = same_tests m l (let z : tests_of m ≡ tests_of l = cc in z)

or_first : (c d e x : Test) (l m : List Test) → or_all c e l ≡ or_all d x m → d ≡ c
or_first c d e x l m r = cc

or_second : (c e x : Test) (l m : List Test) → or_all c e l ≡ or_all c x m → x ≡ e
or_second c e x l m r = cc

or_others : (c e : Test) (l m : List Test) → or_all c e l ≡ or_all c e m → m ≡ l
or_others c e l m r = same_tests m l (let z : tests_of m ≡ tests_of l = cc in z)

-- ---- a fact that is a list stands in brackets, which end it whatever follows

abbrev is_list : Test → Bool
is_list never = false
is_list always = false
is_list (compared o a b) = false
is_list (fails c) = false
is_list (all_of cs) = true
is_list (some_of cs) = true

abbrev nowhere : Lexeme → Bool
nowhere x = false

ends_anywhere : (us : List Lexeme) → Stops nowhere us
ends_anywhere [] = tt
ends_anywhere (x ∷ us) = refl

list_in_brackets : (q : Bool) (c : Test) (s : Size) (f : List Lexeme) → IsFact q c s f
    → is_list c ≡ true → Only (IsFact q) nowhere c s f
list_in_brackets q c s f (g.negated p d u k h) e = true_false (sym e)
list_in_brackets q c s f (g.bracketed p d u k h) e =
    only_first (IsFact p) (grammar.opened (bracket_grammar p)) nowhere (sign OPEN)
    (λ b t i. fact_not_none p b t (fact_inv p b t [] i))
    (λ b t l i. bracket_down p b t l (fact_inv p b t (sign OPEN ∷ l) i)) d (one_open u)
    (k ++ sign CLOSE ∷ [])
    (only_open (bracket_grammar p) nowhere d u (k ++ sign CLOSE ∷ [])
    (only_closed (IsCond p) (sign CLOSE) (λ x. x) (follow_cond p) nowhere refl d u k
    (only_cond p d u k h)))
list_in_brackets q c s f (g.truth p) e = true_false (sym e)
list_in_brackets q c s f (g.falsehood p) e = true_false (sym e)
list_in_brackets q c s f (g.comparison p o a b u v k m ha hb) e = true_false (sym e)

-- so what else is read there is no part of it
facts_apart : (q : Bool) (b c : Test) (s t : Size) (f k us vs : List Lexeme) → is_list b ≡ true
    → IsFact q b s f → IsFact q c t k → f ++ us ≡ k ++ vs → b ≡ c
facts_apart q b c s t f k us vs e hb hc z = let r =
    list_in_brackets q b s f hb e c t k us vs hc (ends_anywhere us) (ends_anywhere vs) z in r.0

and_apart : (q : Bool) (c e : Test) (l : List Test) (s t : Size) (f k us vs : List Lexeme)
    → IsFact q (and_all c e l) s f → IsFact q c t k → f ++ us ≡ k ++ vs → ⊥
and_apart q c e l s t f k us vs h h2 z = not_first_of_all c (a_test e (tests_of l))
    (facts_apart q (and_all c e l) c s t f k us vs refl h h2 z)

or_apart : (q : Bool) (c e : Test) (l : List Test) (s t : Size) (f k us vs : List Lexeme)
    → IsConj q (or_all c e l) s f → IsConj q c t k → f ++ us ≡ k ++ vs → ⊥
or_apart q c e l s t f k us vs h h2 z = by_first (or_all c e l) s f us refl h z
  where
    by_second : (u : Size) (n js : List Lexeme) → IsFact q (or_all c e l) u n
        → (d : Test) (v : Size) (m : List Lexeme) → d ≡ c → IsConj q d v m → n ++ js ≡ m ++ vs → ⊥
    by_second u n js i d v m e2 (g.one_fact p d2 v2 m2 i2) z2 =
        not_first_of_some c (a_test e (tests_of l))
        (facts_apart p (or_all c e l) d u v n m js vs refl i i2 z2 ∙ e2)
    by_second u n js i d v m e2 (g.an_and p a b r u2 v2 w2 f2 m2 o2 ha hb hr) z2 =
        let one : or_all c e l ≡ a = facts_apart p (or_all c e l) a u u2 n f2 js
        ((word AND ∷ (m2 ++ o2)) ++ vs) refl i ha
        (z2 ∙ append_assoc f2 (word AND ∷ (m2 ++ o2)) vs) in
        not_first_of_first c (a_test e (tests_of l)) (a_test b (tests_of r))
        (ap (λ x. all_of (a_test x (a_test b (tests_of r)))) one ∙ e2)

    by_first : (b : Test) (u : Size) (n js : List Lexeme) → b ≡ or_all c e l → IsConj q b u n
        → n ++ js ≡ k ++ vs → ⊥
    by_first b u n js e2 (g.one_fact p b2 u2 n2 i) z2 = let P : Test
        → Type 0 = λ x. IsFact q x u n in by_second u n js (subst P e2 i) c t k refl h2 z2
    by_first b u n js e2 (g.an_and p a b2 r u2 v2 w2 f2 m2 o2 ha hb hr) z2 = cc

-- ---- whatever is in the grammar

mutual
  pub expr_prefix : (q : Bool) (e : Tree) (s : Size) (f : List Lexeme) → IsExpr q e s f
      → OnePrefix (IsExpr q) e f
  expr_prefix q e s f (g.an_int p z h) = one_int p z
  expr_prefix q e s f (g.a_text p t) = one_text p t
  expr_prefix q e s f (g.of_atom n h) = one_named false n h (column (Atom 0) n) []
      (one_pure (column (Atom 0) n))
  expr_prefix q e s f (g.of_free n h) = one_named true n h (column Free n) []
      (one_none (alias_grammar n) (column Free n) (sign POINT)
      (λ t l i. alone_or_aliased n n i.0 i.1))
  expr_prefix q e s f (g.of_alias a n h k) =
      one_named true a h (aliased a n) (sign POINT ∷ word n ∷ [])
      (one_some (alias_grammar a) (aliased a n) (word n ∷ []) (column Free a) (sign POINT)
      (λ r. alone_or_aliased a a n (sym r))
      (one_map (λ m. aliased a m) name_grammar n (word n ∷ []) (λ m r. cc) (one_name n)))
  expr_prefix q e s f (g.a_length p x u k h) = one_length p x k (expr_prefix p x u k h)
  expr_prefix q e s f (g.a_concat p x l u v k m h hl) =
      one_concat p x l k m (expr_prefix p x u k h) (parts_prefix p 1 l v m hl)
  expr_prefix q e s f (g.a_case p c a b u v w k m o hc ha hb) =
      one_case p c a b k m o (cond_prefix p c u k hc) (expr_prefix p a v m ha)
      (expr_prefix p b w o hb)

  parts_prefix : (q : Bool) (j : ℕ) (l : List Tree) (s : Size) (f : List Lexeme)
      → AreParts q j l s f → OnePrefix (Parts q j) l f
  parts_prefix q j l s f (g.no_part p i) = one_end (sign COMMA) (so_wide what.Parts) (IsExpr p) i
  parts_prefix q j l s f (g.a_part p i e o u v k m h hl) =
      one_next (sign COMMA) (so_wide what.Parts) (IsExpr p) i e o k m (expr_prefix p e u k h)
      (parts_prefix p (i + 1) o v m hl)

  fact_prefix : (q : Bool) (c : Test) (s : Size) (f : List Lexeme) → IsFact q c s f
      → OnePrefix (IsFact q) c f
  fact_prefix q c s f (g.negated p d u k h) = one_not p d k (fact_prefix p d u k h)
  fact_prefix q c s f (g.bracketed p d u k h) = one_bracket p d k (cond_prefix p d u k h)
  fact_prefix q c s f (g.truth p) = one_truth p
  fact_prefix q c s f (g.falsehood p) = one_falsehood p
  fact_prefix q c s f (g.comparison p o a b u v k m ha hb) =
      by_cmp p a u k ha (compared o a b) (comparison_lexeme o ∷ m)
      (one_cmp p o a b k m (expr_prefix p a u k ha) (expr_prefix p b v m hb))

  facts_prefix : (q : Bool) (j : ℕ) (l : List Test) (s : Size) (f : List Lexeme) → AreFacts q l s f
      → OnePrefix (AreMore (word AND) no_end (IsFact q) j) l f
  facts_prefix q j l s f (g.no_fact p) = one_end (word AND) no_end (IsFact p) j
  facts_prefix q j l s f (g.a_fact p c o u v k m h hl) =
      one_next (word AND) no_end (IsFact p) j c o k m (fact_prefix p c u k h)
      (facts_prefix p (j + 1) o v m hl)

  conj_prefix : (q : Bool) (c : Test) (s : Size) (f : List Lexeme) → IsConj q c s f
      → OnePrefix (IsConj q) c f
  conj_prefix q c s f (g.one_fact p d u k h) = λ t m us vs i e.
      one_alone AND and_all (IsFact p) and_first and_second and_others (and_apart p) d u k h
      (fact_prefix p d u k h) t m us vs (conj_down p d t m i) e
  conj_prefix q c s f (g.an_and p d e l u v w k m o hd he hl) =
      λ t n us vs i z. one_joined AND and_all (IsFact p) and_first and_second and_others
      (and_apart p) d e l u k m o hd (fact_prefix p d u k hd) (fact_prefix p e v m he)
      (facts_prefix p 0 l w o hl) t n us vs (conj_down p (and_all d e l) t n i) z

  conjs_prefix : (q : Bool) (j : ℕ) (l : List Test) (s : Size) (f : List Lexeme) → AreConjs q l s f
      → OnePrefix (AreMore (word OR) no_end (IsConj q) j) l f
  conjs_prefix q j l s f (g.no_conj p) = one_end (word OR) no_end (IsConj p) j
  conjs_prefix q j l s f (g.a_conj p c o u v k m h hl) =
      one_next (word OR) no_end (IsConj p) j c o k m (conj_prefix p c u k h)
      (conjs_prefix p (j + 1) o v m hl)

  pub cond_prefix : (q : Bool) (c : Test) (s : Size) (f : List Lexeme) → IsCond q c s f
      → OnePrefix (IsCond q) c f
  cond_prefix q c s f (g.one_conj p d u k h) = λ t m us vs i e.
      one_alone OR or_all (IsConj p) or_first or_second or_others (or_apart p) d u k h
      (conj_prefix p d u k h) t m us vs (cond_down p d t m i) e
  cond_prefix q c s f (g.an_or p d e l u v w k m o hd he hl) =
      λ t n us vs i z. one_joined OR or_all (IsConj p) or_first or_second or_others (or_apart p) d e
      l u k m o hd (conj_prefix p d u k hd) (conj_prefix p e v m he) (conjs_prefix p 0 l w o hl)
      t n us vs (cond_down p (or_all d e l) t n i) z

-- ---- trees, prefixes and rests

module _ {A : Type 0} (G : A → Size → List Lexeme → Type 0)
    (single : (a : A) (s : Size) (f : List Lexeme) → G a s f → OnePrefix G a f)
    (agree : (a b : A) (s t : Size) (f : List Lexeme) → G a s f → G b t f → (a ≡ b) × (s ≡ t)) where
  prefixes : (a : A) (s t : Size) (f k us vs : List Lexeme) → G a s f → G a t k → f ++ us ≡ k ++ vs
      → (f ≡ k) × (us ≡ vs) × (s ≡ t)
  prefixes a s t f k us vs h i e =
      let r = single a s f h t k us vs i e in
      let P : List Lexeme → Type 0 = λ l. G a t l in
      let r2 = agree a a s t f h (subst P (sym r.0) i) in
      (r.0, r.1, r2.1)

  determine : DetermineEachOther G
  determine list a b s t us vs h i = (by_tree, by_rest)
    where
      split : h.0 ++ us ≡ i.0 ++ vs
      split = sym h.1 ∙ i.1

      by_tree : a ≡ b → (us ≡ vs) × (s ≡ t)
      by_tree e = let P : A → Type 0 = λ x. G x t i.0 in let r =
          prefixes a s t h.0 i.0 us vs h.2 (subst P (sym e) i.2) split in (r.1, r.2)

      by_rest : us ≡ vs → (a ≡ b) × (s ≡ t)
      by_rest e =
          let z : h.0 ++ vs ≡ i.0 ++ vs = ap (λ l. h.0 ++ l) (sym e) ∙ split in
          let P : List Lexeme → Type 0 = λ l. G b t l in
          agree a b s t h.0 h.2 (subst P (sym (append_cancel_right h.0 i.0 vs z)) i.2)

agree_expr : (q : Bool) (a b : Tree) (s t : Size) (f : List Lexeme) → IsExpr q a s f
    → IsExpr q b t f → (a ≡ b) × (s ≡ t)
agree_expr q a b s t f h k = once (IsExpr q) (follow_expr q) a b s t f k (only_expr q a s f h)

agree_cond : (q : Bool) (a b : Test) (s t : Size) (f : List Lexeme) → IsCond q a s f
    → IsCond q b t f → (a ≡ b) × (s ≡ t)
agree_cond q a b s t f h k = once (IsCond q) (follow_cond q) a b s t f k (only_cond q a s f h)

pub prefixes_expr : (q : Bool) (a : Tree) (s t : Size) (f k us vs : List Lexeme) → IsExpr q a s f
    → IsExpr q a t k → f ++ us ≡ k ++ vs → (f ≡ k) × (us ≡ vs) × (s ≡ t)
prefixes_expr q = prefixes (IsExpr q) (expr_prefix q) (agree_expr q)

pub prefixes_cond : (q : Bool) (a : Test) (s t : Size) (f k us vs : List Lexeme) → IsCond q a s f
    → IsCond q a t k → f ++ us ≡ k ++ vs → (f ≡ k) × (us ≡ vs) × (s ≡ t)
prefixes_cond q = prefixes (IsCond q) (cond_prefix q) (agree_cond q)

pub determine_expr : (q : Bool) → DetermineEachOther (IsExpr q)
determine_expr q = determine (IsExpr q) (expr_prefix q) (agree_expr q)

pub determine_cond : (q : Bool) → DetermineEachOther (IsCond q)
determine_cond q = determine (IsCond q) (cond_prefix q) (agree_cond q)
