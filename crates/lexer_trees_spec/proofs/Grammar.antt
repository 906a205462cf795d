-- The readers of expressions and conditions read their grammar.
use Rattle.std.proofs.Common.{inl, inr, ◌⊎◌, ◌≡◌, ℕ, ◌+◌, ◌≤◌, Bool, true, false, cond, Some, None}
use Rattle.std.proofs.Common.{List, [], ◌∷◌, ◌++◌, refl, sym, ap, ◌∙◌, append-nil, arith, ◌||◌}
use Rattle.std.proofs.Common.{codes}
use Rattle.prima_base.specs.declared.refusal.What.TheVariants as what
use Rattle.prima_base.specs.declared.value.Value.TheVariants.{Int, Text}
use Rattle.cond_expr.specs.declared.expr.Whose.TheVariants.{Free, Alias, Atom}
use Rattle.cond_expr.specs.declared.expr.CmpOp.{CmpOp}
use Rattle.cond_expr.specs.Trees.{Tree, Test, column, constant, length_of, joined, choose as chosen}
use Rattle.cond_expr.specs.Trees.{never, always, compared, all_of, some_of, fails, a_tree, a_test}
use Rattle.cond_expr.specs.Seen.{trees_of, tests_of}
use Rattle.lexer_spec.specs.Lexemes.{Lexeme, word, number, text, sign, is_word, is_sign}
use Rattle.lexer_spec.specs.Lexemes.{is_name, is_int}
use Rattle.lexer_combinators.specs.Grammar.{Grammar}
use Rattle.lexer_combinators.specs.Grammar.{Size, nothing_counted, both, one_node, one_open}
use Rattle.lexer_combinators.specs.Grammar.{so_wide, AreMore, no_end}
use Rattle.lexer_combinators.specs.Grammar as grammar
use Rattle.lexer_combinators.specs.Derivations.{Derivation, derivation, after_lexeme}
use Rattle.lexer_trees_spec.specs.Constants.{name_grammar}
use Rattle.lexer_trees_spec.specs.Grammar as g
use Rattle.lexer_trees_spec.specs.Grammar.{comparison_lexeme, leaf, IsExpr, AreParts, IsFact}
use Rattle.lexer_trees_spec.specs.Grammar.{AreFacts}
use Rattle.lexer_trees_spec.specs.Grammar.{IsConj}
use Rattle.lexer_trees_spec.specs.Grammar.{AreConjs, IsCond}
use Rattle.lexer_spec.proofs.Cases.{true_false}
use Rattle.lexer_combinators.proofs.Parsing.{after_down, both_none, last_size}
use Rattle.lexer_spec.proofs.LexemeTests.{word_exact, sign_exact, word_is, sign_is, clash}

abbrev pub CASE : List ℕ
CASE = codes "CASE"

abbrev pub WHEN : List ℕ
WHEN = codes "WHEN"

abbrev pub THEN : List ℕ
THEN = codes "THEN"

abbrev pub ELSE : List ℕ
ELSE = codes "ELSE"

abbrev pub END : List ℕ
END = codes "END"

abbrev pub LENGTH : List ℕ
LENGTH = codes "LENGTH"

abbrev pub CONCAT : List ℕ
CONCAT = codes "CONCAT"

abbrev pub AND : List ℕ
AND = codes "AND"

abbrev pub OR : List ℕ
OR = codes "OR"

abbrev pub NOT : List ℕ
NOT = codes "NOT"

abbrev pub TRUE : List ℕ
TRUE = codes "TRUE"

abbrev pub FALSE : List ℕ
FALSE = codes "FALSE"

abbrev pub OPEN : List ℕ
OPEN = codes "("

abbrev pub CLOSE : List ℕ
CLOSE = codes ")"

abbrev pub COMMA : List ℕ
COMMA = codes ","

abbrev pub POINT : List ℕ
POINT = codes "."

-- ---- lists

parts_up : (q : Bool) (j : ℕ) (l : List Tree) (s : Size) (ts : List Lexeme)
    → AreMore (sign COMMA) (so_wide what.Parts) (IsExpr q) j l s ts → AreParts q j l s ts
parts_up q j [] s ts h = rw (h.0, h.1) (g.no_part q j)
parts_up q j (e ∷ l) s ts h = rw (h.4, h.5) (g.a_part q j e l h.0 h.1 h.2 h.3 h.6
    (parts_up q (j + 1) l h.1 h.3 h.7))

pub parts_down : (q : Bool) (j : ℕ) (l : List Tree) (s : Size) (ts : List Lexeme)
    → AreParts q j l s ts → AreMore (sign COMMA) (so_wide what.Parts) (IsExpr q) j l s ts
parts_down q j l s ts (g.no_part p i) = (refl, refl)
parts_down q j l s ts (g.a_part p i e r u v f k h m) =
    (u, v, f, k, refl, refl, h, parts_down p (i + 1) r v k m)

pub facts_up : (q : Bool) (j : ℕ) (l : List Test) (s : Size) (ts : List Lexeme)
    → AreMore (word AND) no_end (IsFact q) j l s ts → AreFacts q l s ts
facts_up q j [] s ts h = rw (h.0, h.1) (g.no_fact q)
facts_up q j (c ∷ l) s ts h = rw (h.4, h.5) (g.a_fact q c l h.0 h.1 h.2 h.3 h.6
    (facts_up q (j + 1) l h.1 h.3 h.7))

pub facts_down : (q : Bool) (j : ℕ) (l : List Test) (s : Size) (ts : List Lexeme)
    → AreFacts q l s ts → AreMore (word AND) no_end (IsFact q) j l s ts
facts_down q j l s ts (g.no_fact p) = (refl, refl)
facts_down q j l s ts (g.a_fact p c r u v f k h m) =
    (u, v, f, k, refl, refl, h, facts_down p (j + 1) r v k m)

pub conjs_up : (q : Bool) (j : ℕ) (l : List Test) (s : Size) (ts : List Lexeme)
    → AreMore (word OR) no_end (IsConj q) j l s ts → AreConjs q l s ts
conjs_up q j [] s ts h = rw (h.0, h.1) (g.no_conj q)
conjs_up q j (c ∷ l) s ts h = rw (h.4, h.5) (g.a_conj q c l h.0 h.1 h.2 h.3 h.6
    (conjs_up q (j + 1) l h.1 h.3 h.7))

pub conjs_down : (q : Bool) (j : ℕ) (l : List Test) (s : Size) (ts : List Lexeme)
    → AreConjs q l s ts → AreMore (word OR) no_end (IsConj q) j l s ts
conjs_down q j l s ts (g.no_conj p) = (refl, refl)
conjs_down q j l s ts (g.a_conj p c r u v f k h m) =
    (u, v, f, k, refl, refl, h, conjs_down p (j + 1) r v k m)

-- ---- the forms of an expression

-- a column after the alias of its atom
abbrev pub aliased : List ℕ → List ℕ → Tree
aliased a n = column (Alias a) n

abbrev pub alias_grammar : List ℕ → Grammar Tree
alias_grammar a = grammar.map (aliased a) name_grammar

abbrev pub ref_grammar : Bool → List ℕ → Grammar Tree
ref_grammar false n = grammar.pure (column (Atom 0) n)
ref_grammar true n = grammar.option (column Free n) (sign POINT) (alias_grammar n)

abbrev pub atom_grammar : Bool → Grammar Tree
atom_grammar q e s [] = ⊥
atom_grammar q e s (word n ∷ l) = (is_name n ≡ true) × grammar.node (ref_grammar q n) e s l
atom_grammar q e s (number z ∷ l) = (is_int z ≡ true)
    × grammar.node (grammar.pure (constant (Int z))) e s l
atom_grammar q e s (text t ∷ l) = grammar.node (grammar.pure (constant (Text t))) e s l
atom_grammar q e s (sign t ∷ l) = ⊥

abbrev pub insideLength_grammar : Bool → Grammar Tree
insideLength_grammar q = grammar.seq (IsExpr q)
    (λ e. grammar.lead (sign CLOSE) (grammar.pure (length_of e)))

abbrev pub length_grammar : Bool → Grammar Tree
length_grammar q = grammar.lead (sign OPEN) (grammar.opened (insideLength_grammar q))

abbrev pub insideConcat_grammar : Bool → Grammar Tree
insideConcat_grammar q = grammar.seq (IsExpr q)
    (λ e. grammar.seq (AreMore (sign COMMA) (so_wide what.Parts) (IsExpr q) 1)
    (λ l. grammar.lead (sign CLOSE) (grammar.pure (joined (a_tree e (trees_of l))))))

abbrev pub concat_grammar : Bool → Grammar Tree
concat_grammar q = grammar.lead (sign OPEN) (grammar.opened (insideConcat_grammar q))

abbrev pub case_grammar : Bool → Grammar Tree
case_grammar q = grammar.lead (word WHEN) (grammar.seq (IsCond q)
    (λ c. grammar.lead (word THEN) (grammar.seq (IsExpr q)
    (λ a. grammar.lead (word ELSE) (grammar.seq (IsExpr q)
    (λ b. grammar.lead (word END) (grammar.pure (chosen c a b))))))))

abbrev pub expr_grammar : Bool → Grammar Tree
expr_grammar q e s ts = grammar.lead (word LENGTH) (grammar.node (length_grammar q)) e s ts
    ⊎ (grammar.lead (word CONCAT) (grammar.node (concat_grammar q)) e s ts
    ⊎ (grammar.lead (word CASE) (grammar.node (grammar.opened (case_grammar q))) e s ts
    ⊎ atom_grammar q e s ts))

pub expr_inv : (q : Bool) (e : Tree) (s : Size) (ts : List Lexeme) → IsExpr q e s ts
    → expr_grammar q e s ts
expr_inv q e s ts (g.an_int p z h) = inr (inr
    (inr (h, (nothing_counted, refl, (refl, refl, refl)))))
expr_inv q e s ts (g.a_text p t) = inr (inr (inr (nothing_counted, refl, (refl, refl, refl))))
expr_inv q e s ts (g.of_atom n h) = inr (inr (inr (h, (nothing_counted, refl, (refl, refl, refl)))))
expr_inv q e s ts (g.of_free n h) = inr (inr (inr
    (h, (nothing_counted, refl, inl (refl, refl, refl)))))
expr_inv q e s ts (g.of_alias a n h k) = inr (inr
    (inr (
      h,
      (
        nothing_counted,
        refl,
        inr (
          word n ∷ [],
          refl,
          (n, refl, (word n, ap (λ b. cond b (Some n) None) k, refl, refl)),
        ),
      ),
    )))
expr_inv q e s ts (g.a_length p x u f h) =
    inl (
      sign OPEN ∷ (f ++ sign CLOSE ∷ []),
      refl,
      (
        one_open u,
        refl,
        (
          f ++ sign CLOSE ∷ [],
          refl,
          (
            u,
            refl,
            (
              x,
              u,
              nothing_counted,
              f,
              sign CLOSE ∷ [],
              sym (both_none u),
              refl,
              h,
              ([], refl, (refl, refl, refl)),
            ),
          ),
        ),
      ),
    )
expr_inv q e s ts (g.a_concat p x l u v f k h m) =
    inr (inl (
      sign OPEN ∷ (f ++ (k ++ sign CLOSE ∷ [])),
      refl,
      (
        one_open (both u v),
        refl,
        (
          f ++ (k ++ sign CLOSE ∷ []),
          refl,
          (
            both u v,
            refl,
            (
              x,
              u,
              v,
              f,
              k ++ sign CLOSE ∷ [],
              refl,
              refl,
              h,
              (
                l,
                v,
                nothing_counted,
                k,
                sign CLOSE ∷ [],
                sym (both_none v),
                refl,
                parts_down p 1 l v k m,
                ([], refl, (refl, refl, refl)),
              ),
            ),
          ),
        ),
      ),
    ))
expr_inv q e s ts (g.a_case p c a b u v w f k m hc ha hb) =
    inr (inr (inl (
      word WHEN ∷ (f ++ word THEN ∷ (k ++ word ELSE ∷ (m ++ word END ∷ []))),
      refl,
      (
        one_open (both u (both v w)),
        refl,
        (
          both u (both v w),
          refl,
          (
            f ++ word THEN ∷ (k ++ word ELSE ∷ (m ++ word END ∷ [])),
            refl,
            (
              c,
              u,
              both v w,
              f,
              word THEN ∷ (k ++ word ELSE ∷ (m ++ word END ∷ [])),
              refl,
              refl,
              hc,
              (
                k ++ word ELSE ∷ (m ++ word END ∷ []),
                refl,
                (
                  a,
                  v,
                  w,
                  k,
                  word ELSE ∷ (m ++ word END ∷ []),
                  refl,
                  refl,
                  ha,
                  (
                    m ++ word END ∷ [],
                    refl,
                    (
                      b,
                      w,
                      nothing_counted,
                      m,
                      word END ∷ [],
                      sym (both_none w),
                      refl,
                      hb,
                      ([], refl, (refl, refl, refl)),
                    ),
                  ),
                ),
              ),
            ),
          ),
        ),
      ),
    )))

pub length_up : (q : Bool) (x : Tree) (s : Size) (l : List Lexeme) → length_grammar q x s l
    → IsExpr q x (one_node s) (word LENGTH ∷ l)
length_up q x s l h =
    let h1 = h.2 in let h2 = h1.2 in let h3 = h2.8 in
    let size : h1.0 ≡ h2.1 = last_size h1.0 h2.1 h2.2 h2.5 h3.2.1 in
    rw (h.1, h1.1, size, h2.6, h3.1, h3.2.0, h3.2.2) (g.a_length q h2.0 h2.1 h2.3 h2.7)

pub concat_up : (q : Bool) (x : Tree) (s : Size) (l : List Lexeme) → concat_grammar q x s l
    → IsExpr q x (one_node s) (word CONCAT ∷ l)
concat_up q x s l h =
    let h1 = h.2 in let h2 = h1.2 in let h3 = h2.8 in let h4 = h3.8 in
    let size : h2.2 ≡ h3.1 = last_size h2.2 h3.1 h3.2 h3.5 h4.2.1 in
    rw (h.1, h1.1, h2.5, size, h2.6, h3.6, h4.1, h4.2.0, h4.2.2)
    (g.a_concat q h2.0 h3.0 h2.1 h3.1 h2.3 h3.3 h2.7 (parts_up q 1 h3.0 h3.1 h3.3 h3.7))

pub case_up : (q : Bool) (x : Tree) (s : Size) (l : List Lexeme)
    → grammar.opened (case_grammar q) x s l → IsExpr q x (one_node s) (word CASE ∷ l)
case_up q x s l h0 =
    let h = h0.2 in
    let h1 = h.2 in let h2 = h1.8 in let h3 = h2.2 in let h4 = h3.8 in let h5 = h4.2 in let h6 =
    h5.8 in
    let size : h3.2 ≡ h5.1 = last_size h3.2 h5.1 h5.2 h5.5 h6.2.1 in
    rw (h0.1, h.1, h1.5, h3.5, size, h1.6, h2.1, h3.6, h4.1, h5.6, h6.1, h6.2.0, h6.2.2)
    (g.a_case q h1.0 h3.0 h5.0 h1.1 h3.1 h5.1 h1.3 h3.3 h5.3 h1.7 h3.7 h5.7)

-- ---- which form, by the first lexeme

pub not_name : (w : List ℕ) → is_name w ≡ false → is_name w ≡ true → ⊥
not_name w e h = true_false (sym h ∙ e)

pub length_no_name : is_name LENGTH ≡ false
unfolding is_name
length_no_name = refl

pub concat_no_name : is_name CONCAT ≡ false
unfolding is_name
concat_no_name = refl

pub case_no_name : is_name CASE ≡ false
unfolding is_name
case_no_name = refl

not_no_name : is_name NOT ≡ false
unfolding is_name
not_no_name = refl

true_no_name : is_name TRUE ≡ false
unfolding is_name
true_no_name = refl

false_no_name : is_name FALSE ≡ false
unfolding is_name
false_no_name = refl

pub some_name : is_name (codes "a") ≡ true
unfolding is_name
some_name = refl

pub length_down : (q : Bool) (e : Tree) (s : Size) (l : List Lexeme)
    → expr_grammar q e s (word LENGTH ∷ l) → grammar.node (length_grammar q) e s l
length_down q e s l (inl h) = after_down (is_word LENGTH) (word LENGTH) (word_is LENGTH)
    (word_exact LENGTH) 0 0 (grammar.node (length_grammar q)) e s l h
length_down q e s l (inr (inl h)) = clash (is_word CONCAT) (word LENGTH) (word CONCAT) l h.0 refl
    refl h.1
length_down q e s l (inr (inr (inl h))) = clash (is_word CASE) (word LENGTH) (word CASE) l h.0 refl
    refl h.1
length_down q e s l (inr (inr (inr h))) = absurd (not_name LENGTH length_no_name h.0)

pub concat_down : (q : Bool) (e : Tree) (s : Size) (l : List Lexeme)
    → expr_grammar q e s (word CONCAT ∷ l) → grammar.node (concat_grammar q) e s l
concat_down q e s l (inl h) = clash (is_word LENGTH) (word CONCAT) (word LENGTH) l h.0 refl refl h.1
concat_down q e s l (inr (inl h)) = after_down (is_word CONCAT) (word CONCAT) (word_is CONCAT)
    (word_exact CONCAT) 0 0 (grammar.node (concat_grammar q)) e s l h
concat_down q e s l (inr (inr (inl h))) = clash (is_word CASE) (word CONCAT) (word CASE) l h.0 refl
    refl h.1
concat_down q e s l (inr (inr (inr h))) = absurd (not_name CONCAT concat_no_name h.0)

pub case_down : (q : Bool) (e : Tree) (s : Size) (l : List Lexeme)
    → expr_grammar q e s (word CASE ∷ l) → grammar.node (grammar.opened (case_grammar q)) e s l
case_down q e s l (inl h) = clash (is_word LENGTH) (word CASE) (word LENGTH) l h.0 refl refl h.1
case_down q e s l (inr (inl h)) = clash (is_word CONCAT) (word CASE) (word CONCAT) l h.0 refl refl
    h.1
case_down q e s l (inr (inr (inl h))) = after_down (is_word CASE) (word CASE) (word_is CASE)
    (word_exact CASE) 0 0 (grammar.node (grammar.opened (case_grammar q))) e s l h
case_down q e s l (inr (inr (inr h))) = absurd (not_name CASE case_no_name h.0)

pub atom_down : (q : Bool) (e : Tree) (s : Size) (x : Lexeme) (l : List Lexeme)
    → is_word LENGTH x ≡ false → is_word CONCAT x ≡ false → is_word CASE x ≡ false
    → expr_grammar q e s (x ∷ l) → atom_grammar q e s (x ∷ l)
atom_down q e s x l e1 e2 e3 (inl h) = clash (is_word LENGTH) x (word LENGTH) l h.0 e1
    (word_is LENGTH) h.1
atom_down q e s x l e1 e2 e3 (inr (inl h)) = clash (is_word CONCAT) x (word CONCAT) l h.0 e2
    (word_is CONCAT) h.1
atom_down q e s x l e1 e2 e3 (inr (inr (inl h))) =
    clash (is_word CASE) x (word CASE) l h.0 e3 (word_is CASE) h.1
atom_down q e s x l e1 e2 e3 (inr (inr (inr h))) = h

-- what an expression begins with
abbrev pub starts_atom : Lexeme → Bool
starts_atom (word n) = is_name n
starts_atom (number z) = true
starts_atom (text t) = true
starts_atom (sign s) = false

abbrev pub starts_expr : Lexeme → Bool
starts_expr x = is_word LENGTH x || (is_word CONCAT x || (is_word CASE x || starts_atom x))

or_right : (a b : Bool) → b ≡ true → (a || b) ≡ true
or_right true b e = refl
or_right false b e = e

starts_it : (x : Lexeme) → starts_atom x ≡ true → starts_expr x ≡ true
starts_it x h = or_right (is_word LENGTH x) _
    (or_right (is_word CONCAT x) _ (or_right (is_word CASE x) _ h))

pub expr_some : (q : Bool) (e : Tree) (s : Size) (ts : List Lexeme) → IsExpr q e s ts → (x : Lexeme)
    × (l : List Lexeme) × (ts ≡ x ∷ l) × (starts_expr x ≡ true)
expr_some q e s ts (g.an_int p z h) = (_, _, refl, starts_it (number z) refl)
expr_some q e s ts (g.a_text p t) = (_, _, refl, starts_it (text t) refl)
expr_some q e s ts (g.of_atom n h) = (_, _, refl, starts_it (word n) h)
expr_some q e s ts (g.of_free n h) = (_, _, refl, starts_it (word n) h)
expr_some q e s ts (g.of_alias a n h k) = (_, _, refl, starts_it (word a) h)
expr_some q e s ts (g.a_length p x u f h) = (_, _, refl, refl)
expr_some q e s ts (g.a_concat p x l u v f k h m) = (_, _, refl, refl)
expr_some q e s ts (g.a_case p c a b u v w f k m hc ha hb) = (_, _, refl, refl)

pub expr_not_none : (q : Bool) (e : Tree) (s : Size) → IsExpr q e s [] → ⊥
expr_not_none q e s h = let k = expr_some q e s [] h in let z = k.2 in cc

-- ---- the forms of a fact

abbrev pub op_grammar : (CmpOp → Grammar Test) → Grammar Test
op_grammar K c s ts = (o : CmpOp) × grammar.lead (comparison_lexeme o) (K o) c s ts

-- the sign of a comparison, and what stands after it
abbrev pub sign_of : {K : CmpOp → Grammar Test} → Derivation (op_grammar K) → CmpOp
sign_of d = d.derives.0

abbrev pub after_sign : {K : CmpOp → Grammar Test} (d : Derivation (op_grammar K))
    → Derivation (K (sign_of d))
after_sign {K} d =
    let led : Derivation (grammar.lead (comparison_lexeme (sign_of d)) (K (sign_of d))) =
    derivation d.value d.size d.lexemes d.derives.1 in
    after_lexeme led

abbrev pub right_grammar : Bool → Tree → CmpOp → Grammar Test
right_grammar q a o = grammar.map (λ b. compared o a b) (IsExpr q)

abbrev pub cmp_grammar : Bool → Grammar Test
cmp_grammar q = grammar.seq (IsExpr q) (λ a. op_grammar (λ o. grammar.node (right_grammar q a o)))

abbrev pub bracket_grammar : Bool → Grammar Test
bracket_grammar q = grammar.seq (IsCond q) (λ c. grammar.lead (sign CLOSE) (grammar.pure c))

abbrev pub not_grammar : Bool → Grammar Test
not_grammar q = grammar.map (λ c. fails c) (IsFact q)

abbrev pub fact_grammar : Bool → Grammar Test
fact_grammar q c s ts = grammar.lead (word NOT) (grammar.node (grammar.opened (not_grammar q))) c s
    ts ⊎ (grammar.lead (sign OPEN) (grammar.opened (bracket_grammar q)) c s ts
    ⊎ (grammar.lead (word TRUE) (grammar.node (grammar.pure always)) c s ts
    ⊎ (grammar.lead (word FALSE) (grammar.node (grammar.pure never)) c s ts
    ⊎ cmp_grammar q c s ts)))

pub fact_inv : (q : Bool) (c : Test) (s : Size) (ts : List Lexeme) → IsFact q c s ts
    → fact_grammar q c s ts
fact_inv q c s ts (g.negated p d u f h) = inl (f, refl, (one_open u, refl, (u, refl, (d, refl, h))))
fact_inv q c s ts (g.bracketed p d u f h) = inr
    (inl (
      f ++ sign CLOSE ∷ [],
      refl,
      (
        u,
        refl,
        (
          d,
          u,
          nothing_counted,
          f,
          sign CLOSE ∷ [],
          sym (both_none u),
          refl,
          h,
          ([], refl, (refl, refl, refl)),
        ),
      ),
    ))
fact_inv q c s ts (g.truth p) = inr (inr (inl
    ([], refl, (nothing_counted, refl, (refl, refl, refl)))))
fact_inv q c s ts (g.falsehood p) = inr (inr (inr
    (inl ([], refl, (nothing_counted, refl, (refl, refl, refl))))))
fact_inv q c s ts (g.comparison p o a b u v f k ha hb) =
    inr (inr (inr (inr (
      a,
      u,
      one_node v,
      f,
      comparison_lexeme o ∷ k,
      refl,
      refl,
      ha,
      (o, (k, refl, (v, refl, (b, refl, hb)))),
    ))))

pub cmp_up : (q : Bool) (c : Test) (s : Size) (l : List Lexeme) → cmp_grammar q c s l
    → IsFact q c s l
cmp_up q c s l h =
    let h1 = h.8 in let h2 = h1.1.2 in let h3 = h2.2 in
    rw (h.5, h2.1, h.6, h1.1.1, h3.1) (g.comparison q h1.0 h.0 h3.0 h.1 h2.0 h.3 h1.1.0 h.7 h3.2)

pub bracket_up : (q : Bool) (c : Test) (s : Size) (l : List Lexeme)
    → grammar.opened (bracket_grammar q) c s l → IsFact q c s (sign OPEN ∷ l)
bracket_up q c s l h =
    let h1 = h.2 in let h2 = h1.8 in
    let size : h.0 ≡ h1.1 = last_size h.0 h1.1 h1.2 h1.5 h2.2.1 in
    rw (h.1, size, h1.6, h2.1, h2.2.0, h2.2.2) (g.bracketed q h1.0 h1.1 h1.3 h1.7)

pub not_up : (q : Bool) (c : Test) (s : Size) (l : List Lexeme)
    → grammar.opened (not_grammar q) c s l → IsFact q c (one_node s) (word NOT ∷ l)
not_up q c s l h = rw (h.1, h.2.1) (g.negated q h.2.0 h.0 l h.2.2)

-- a comparison does not begin so
no_cmp : {X : Type 0} (q : Bool) (c : Test) (s : Size) (x : Lexeme) (l : List Lexeme)
    → starts_expr x ≡ false → cmp_grammar q c s (x ∷ l) → X
no_cmp q c s x l e h =
    let k = expr_some q h.0 h.1 h.3 h.7 in
    clash starts_expr x k.0 l (k.1 ++ h.4) e k.3 (h.6 ∙ ap (λ u. u ++ h.4) k.2)

pub starts_not : starts_expr (word NOT) ≡ false
starts_not = not_no_name

pub starts_true : starts_expr (word TRUE) ≡ false
starts_true = true_no_name

pub starts_false : starts_expr (word FALSE) ≡ false
starts_false = false_no_name

pub starts_open : starts_expr (sign OPEN) ≡ false
starts_open = refl

pub not_down : (q : Bool) (c : Test) (s : Size) (l : List Lexeme)
    → fact_grammar q c s (word NOT ∷ l) → grammar.node (grammar.opened (not_grammar q)) c s l
not_down q c s l (inl h) = after_down (is_word NOT) (word NOT) (word_is NOT) (word_exact NOT) 0 0
    (grammar.node (grammar.opened (not_grammar q))) c s l h
not_down q c s l (inr (inl h)) = clash (is_sign OPEN) (word NOT) (sign OPEN) l h.0 refl refl h.1
not_down q c s l (inr (inr (inl h))) = clash (is_word TRUE) (word NOT) (word TRUE) l h.0 refl refl
    h.1
not_down q c s l (inr (inr (inr (inl h)))) = clash (is_word FALSE) (word NOT) (word FALSE) l h.0
    refl refl h.1
not_down q c s l (inr (inr (inr (inr h)))) = no_cmp q c s (word NOT) l starts_not h

pub bracket_down : (q : Bool) (c : Test) (s : Size) (l : List Lexeme)
    → fact_grammar q c s (sign OPEN ∷ l) → grammar.opened (bracket_grammar q) c s l
bracket_down q c s l (inl h) = clash (is_word NOT) (sign OPEN) (word NOT) l h.0 refl refl h.1
bracket_down q c s l (inr (inl h)) = after_down (is_sign OPEN) (sign OPEN) (sign_is OPEN)
    (sign_exact OPEN) 0 0 (grammar.opened (bracket_grammar q)) c s l h
bracket_down q c s l (inr (inr (inl h))) = clash (is_word TRUE) (sign OPEN) (word TRUE) l h.0 refl
    refl h.1
bracket_down q c s l (inr (inr (inr (inl h)))) =
    clash (is_word FALSE) (sign OPEN) (word FALSE) l h.0 refl refl h.1
bracket_down q c s l (inr (inr (inr (inr h)))) = no_cmp q c s (sign OPEN) l starts_open h

pub true_down : (q : Bool) (c : Test) (s : Size) (l : List Lexeme)
    → fact_grammar q c s (word TRUE ∷ l) → grammar.node (grammar.pure always) c s l
true_down q c s l (inl h) = clash (is_word NOT) (word TRUE) (word NOT) l h.0 refl refl h.1
true_down q c s l (inr (inl h)) = clash (is_sign OPEN) (word TRUE) (sign OPEN) l h.0 refl refl h.1
true_down q c s l (inr (inr (inl h))) = after_down (is_word TRUE) (word TRUE) (word_is TRUE)
    (word_exact TRUE) 0 0 (grammar.node (grammar.pure always)) c s l h
true_down q c s l (inr (inr (inr (inl h)))) =
    clash (is_word FALSE) (word TRUE) (word FALSE) l h.0 refl refl h.1
true_down q c s l (inr (inr (inr (inr h)))) = no_cmp q c s (word TRUE) l starts_true h

pub false_down : (q : Bool) (c : Test) (s : Size) (l : List Lexeme)
    → fact_grammar q c s (word FALSE ∷ l) → grammar.node (grammar.pure never) c s l
false_down q c s l (inl h) = clash (is_word NOT) (word FALSE) (word NOT) l h.0 refl refl h.1
false_down q c s l (inr (inl h)) = clash (is_sign OPEN) (word FALSE) (sign OPEN) l h.0 refl refl h.1
false_down q c s l (inr (inr (inl h))) = clash (is_word TRUE) (word FALSE) (word TRUE) l h.0 refl
    refl h.1
false_down q c s l (inr (inr (inr (inl h)))) =
    after_down (is_word FALSE) (word FALSE) (word_is FALSE) (word_exact FALSE) 0 0
    (grammar.node (grammar.pure never)) c s l h
false_down q c s l (inr (inr (inr (inr h)))) = no_cmp q c s (word FALSE) l starts_false h

pub cmp_down : (q : Bool) (c : Test) (s : Size) (x : Lexeme) (l : List Lexeme)
    → is_word NOT x ≡ false → is_sign OPEN x ≡ false → is_word TRUE x ≡ false
    → is_word FALSE x ≡ false → fact_grammar q c s (x ∷ l) → cmp_grammar q c s (x ∷ l)
cmp_down q c s x l e1 e2 e3 e4 (inl h) = clash (is_word NOT) x (word NOT) l h.0 e1 (word_is NOT) h.1
cmp_down q c s x l e1 e2 e3 e4 (inr (inl h)) =
    clash (is_sign OPEN) x (sign OPEN) l h.0 e2 (sign_is OPEN) h.1
cmp_down q c s x l e1 e2 e3 e4 (inr (inr (inl h))) =
    clash (is_word TRUE) x (word TRUE) l h.0 e3 (word_is TRUE) h.1
cmp_down q c s x l e1 e2 e3 e4 (inr (inr (inr (inl h)))) =
    clash (is_word FALSE) x (word FALSE) l h.0 e4 (word_is FALSE) h.1
cmp_down q c s x l e1 e2 e3 e4 (inr (inr (inr (inr h)))) = h

pub fact_not_none : (q : Bool) (c : Test) (s : Size) → fact_grammar q c s [] → ⊥
fact_not_none q c s (inl h) = let e = h.1 in cc
fact_not_none q c s (inr (inl h)) = let e = h.1 in cc
fact_not_none q c s (inr (inr (inl h))) = let e = h.1 in cc
fact_not_none q c s (inr (inr (inr (inl h)))) = let e = h.1 in cc
fact_not_none q c s (inr (inr (inr (inr h)))) = let k = expr_some q h.0 h.1 h.3 h.7 in
    let e : [] ≡ (k.0 ∷ k.1) ++ h.4 = h.6 ∙ ap (λ u. u ++ h.4) k.2 in cc

-- ---- facts joined by AND, and those joined by OR

abbrev pub and_grammar : Bool → Test → Grammar Test
and_grammar q c = grammar.seq (IsFact q) (λ e.
    grammar.map (λ l. all_of (a_test c (a_test e (tests_of l))))
    (AreMore (word AND) no_end (IsFact q) 0))

abbrev pub or_grammar : Bool → Test → Grammar Test
or_grammar q c = grammar.seq (IsConj q) (λ e.
    grammar.map (λ l. some_of (a_test c (a_test e (tests_of l))))
    (AreMore (word OR) no_end (IsConj q) 0))

pub conj_up : (q : Bool) (c : Test) (s : Size) (l : List Lexeme)
    → grammar.seq (IsFact q) (λ e. grammar.option e (word AND) (grammar.node (and_grammar q e))) c s
    l → IsConj q c s l
conj_up q c s l h = by_tail h.8
  where
    by_tail : grammar.option h.0 (word AND) (grammar.node (and_grammar q h.0)) c h.2 h.4
        → IsConj q c s l
    by_tail (inl k) = rw (last_size s h.1 h.2 h.5 k.1, h.6, k.0, k.2, append-nil h.3)
        (g.one_fact q h.0 h.1 h.3 h.7)
    by_tail (inr k) = let k1 = k.2 in let k2 = k1.2 in let k3 = k2.8 in
        rw (h.5, k1.1, k2.5, h.6, k.1, k2.6, k3.1)
        (g.an_and q h.0 k2.0 k3.0 h.1 k2.1 k2.2 h.3 k2.3 k2.4 h.7 k2.7
        (facts_up q 0 k3.0 k2.2 k2.4 k3.2))

pub conj_down : (q : Bool) (c : Test) (s : Size) (l : List Lexeme) → IsConj q c s l
    → grammar.seq (IsFact q) (λ e. grammar.option e (word AND) (grammar.node (and_grammar q e))) c s
    l
conj_down q c s l (g.one_fact p e u f h) = (
  e,
  u,
  nothing_counted,
  f,
  [],
  sym (both_none u),
  sym (append-nil f),
  h,
  inl (refl, refl, refl),
)
conj_down q c s l (g.an_and p a e r u v w f k m ha hd hr) = (
  a,
  u,
  one_node (both v w),
  f,
  word AND ∷ (k ++ m),
  refl,
  refl,
  ha,
  inr (
    k ++ m,
    refl,
    (
      both v w,
      refl,
      (
        e,
        v,
        w,
        k,
        m,
        refl,
        refl,
        hd,
        (r, refl, facts_down p 0 r w m hr),
      ),
    ),
  ),
)

pub cond_up : (q : Bool) (c : Test) (s : Size) (l : List Lexeme)
    → grammar.seq (IsConj q) (λ e. grammar.option e (word OR) (grammar.node (or_grammar q e))) c s l
    → IsCond q c s l
cond_up q c s l h = by_tail h.8
  where
    by_tail : grammar.option h.0 (word OR) (grammar.node (or_grammar q h.0)) c h.2 h.4
        → IsCond q c s l
    by_tail (inl k) = rw (last_size s h.1 h.2 h.5 k.1, h.6, k.0, k.2, append-nil h.3)
        (g.one_conj q h.0 h.1 h.3 h.7)
    by_tail (inr k) = let k1 = k.2 in let k2 = k1.2 in let k3 = k2.8 in
        rw (h.5, k1.1, k2.5, h.6, k.1, k2.6, k3.1)
        (g.an_or q h.0 k2.0 k3.0 h.1 k2.1 k2.2 h.3 k2.3 k2.4 h.7 k2.7
        (conjs_up q 0 k3.0 k2.2 k2.4 k3.2))

pub cond_down : (q : Bool) (c : Test) (s : Size) (l : List Lexeme) → IsCond q c s l
    → grammar.seq (IsConj q) (λ e. grammar.option e (word OR) (grammar.node (or_grammar q e))) c s l
cond_down q c s l (g.one_conj p e u f h) = (
  e,
  u,
  nothing_counted,
  f,
  [],
  sym (both_none u),
  sym (append-nil f),
  h,
  inl (refl, refl, refl),
)
cond_down q c s l (g.an_or p a e r u v w f k m ha hd hr) = (
  a,
  u,
  one_node (both v w),
  f,
  word OR ∷ (k ++ m),
  refl,
  refl,
  ha,
  inr (
    k ++ m,
    refl,
    (
      both v w,
      refl,
      (
        e,
        v,
        w,
        k,
        m,
        refl,
        refl,
        hd,
        (r, refl, conjs_down p 0 r w m hr),
      ),
    ),
  ),
)

-- ---- each has a node

mutual
  pub fact_nodes : (q : Bool) (c : Test) (s : Size) (ts : List Lexeme) → IsFact q c s ts
      → 1 ≤ s.nodes
  fact_nodes q c s ts (g.negated p d u f h) = omega arith
  fact_nodes q c s ts (g.bracketed p d u f h) = cond_nodes p d u f h
  fact_nodes q c s ts (g.truth p) = omega arith
  fact_nodes q c s ts (g.falsehood p) = omega arith
  fact_nodes q c s ts (g.comparison p o a b u v f k ha hb) = omega arith

  pub conj_nodes : (q : Bool) (c : Test) (s : Size) (ts : List Lexeme) → IsConj q c s ts
      → 1 ≤ s.nodes
  conj_nodes q c s ts (g.one_fact p d u f h) = fact_nodes p d u f h
  conj_nodes q c s ts (g.an_and p d e l u v w f k m h1 h2 h3) = omega arith

  pub cond_nodes : (q : Bool) (c : Test) (s : Size) (ts : List Lexeme) → IsCond q c s ts
      → 1 ≤ s.nodes
  cond_nodes q c s ts (g.one_conj p d u f h) = conj_nodes p d u f h
  cond_nodes q c s ts (g.an_or p d e l u v w f k m h1 h2 h3) = omega arith
