-- What is in the grammar has one tree and one size, and one end in a list that goes on.
use Rattle.std.proofs.Common.{inl, inr, ◌≡◌, ℕ, ℤ, ◌+◌, Bool, true, false, cond, ◌||◌, Some, None}
use Rattle.std.proofs.Common.{List, [], ◌∷◌, ◌++◌, refl, sym, ap, ◌∙◌, subst, append_assoc}
use Rattle.std.proofs.Common.{append-nil}
use Rattle.prima_base.specs.declared.refusal.What.TheVariants as what
use Rattle.prima_base.specs.declared.value.Value.TheVariants.{Int, Text}
use Rattle.cond_expr.specs.declared.expr.Whose.TheVariants.{Free, Atom}
use Rattle.cond_expr.specs.declared.expr.CmpOp.{CmpOp}
use Rattle.cond_expr.specs.Trees.{Tree, Test, column, constant, length_of, joined, choose as chosen}
use Rattle.cond_expr.specs.Trees.{never, always, compared, all_of, some_of, fails, a_tree, a_test}
use Rattle.cond_expr.specs.Seen.{trees_of, tests_of}
use Rattle.lexer_spec.specs.Lexemes.{Lexeme, word, number, text, sign, is_word, is_sign}
use Rattle.lexer_spec.specs.Lexemes.{is_name}
use Rattle.lexer_combinators.specs.Grammar.{Grammar}
use Rattle.lexer_combinators.specs.Parsing.{Stops}
use Rattle.lexer_combinators.specs.Grammar.{Size, nothing_counted, both, one_node, one_open}
use Rattle.lexer_combinators.specs.Grammar.{so_wide, AreMore, no_end}
use Rattle.lexer_combinators.specs.Grammar as grammar
use Rattle.lexer_trees_spec.specs.Constants.{as_name, name_grammar}
use Rattle.lexer_trees_spec.specs.Grammar as g
use Rattle.lexer_trees_spec.specs.Grammar.{comparison_lexeme, leaf, IsExpr, AreParts, IsFact}
use Rattle.lexer_trees_spec.specs.Grammar.{AreFacts}
use Rattle.lexer_trees_spec.specs.Grammar.{IsConj}
use Rattle.lexer_trees_spec.specs.Grammar.{AreConjs, IsCond}
use Rattle.lexer_trees_spec.specs.Reader.{sign_op, follow_expr, follow_conj, follow_cond}
use Rattle.lexer_spec.proofs.Cases.{true_false, by_test}
use Rattle.lexer_combinators.proofs.Parsing.{both_none}
use Rattle.lexer_trees_spec.proofs.CountsRead.{no_word, spelled_op, no_point}
use Rattle.lexer_spec.proofs.LexemeTests.{word_is, sign_is, word_exact, sign_exact}
use Rattle.lexer_trees_spec.proofs.Grammar.{CASE, WHEN, THEN, ELSE, END, LENGTH, CONCAT, AND, OR}
use Rattle.lexer_trees_spec.proofs.Grammar.{NOT}
use Rattle.lexer_trees_spec.proofs.Grammar.{TRUE, FALSE, OPEN, CLOSE, COMMA, POINT, parts_down}
use Rattle.lexer_trees_spec.proofs.Grammar.{aliased}
use Rattle.lexer_trees_spec.proofs.Grammar.{alias_grammar, ref_grammar, insideLength_grammar}
use Rattle.lexer_trees_spec.proofs.Grammar.{length_grammar, insideConcat_grammar, concat_grammar}
use Rattle.lexer_trees_spec.proofs.Grammar.{case_grammar, expr_inv, length_down, concat_down}
use Rattle.lexer_trees_spec.proofs.Grammar.{case_down}
use Rattle.lexer_trees_spec.proofs.Grammar.{atom_down, expr_not_none, expr_some, starts_expr}
use Rattle.lexer_trees_spec.proofs.Grammar.{starts_not, starts_true, starts_false, starts_open}
use Rattle.lexer_trees_spec.proofs.Grammar.{length_no_name, concat_no_name, case_no_name}
use Rattle.lexer_trees_spec.proofs.Grammar.{op_grammar}
use Rattle.lexer_trees_spec.proofs.Grammar.{right_grammar, cmp_grammar, bracket_grammar}
use Rattle.lexer_trees_spec.proofs.Grammar.{not_grammar}
use Rattle.lexer_trees_spec.proofs.Grammar.{fact_inv, not_down, bracket_down, true_down, false_down}
use Rattle.lexer_trees_spec.proofs.Grammar.{cmp_down, fact_not_none, conj_down, cond_down}
use Rattle.lexer_trees_spec.proofs.Grammar.{facts_down}
use Rattle.lexer_trees_spec.proofs.Grammar.{conjs_down}

-- whatever else is read at the same place is this
abbrev pub Only : {A : Type 0} → Grammar A → (Lexeme → Bool) → Grammar A
Only {A} G follow a s f = (b : A) (t : Size) (k us vs : List Lexeme) → G b t k → Stops follow us
    → Stops follow vs → f ++ us ≡ k ++ vs → (a ≡ b) × (s ≡ t) × (us ≡ vs)

module _ {A : Type 0} (G : A → Size → List Lexeme → Type 0) (follow : Lexeme → Bool) where
  pub only_pure : (a : A) → Only (grammar.pure a) follow a nothing_counted []
  only_pure a b t k us vs h su sv e = (sym h.0, sym h.1, e ∙ ap (λ l. l ++ vs) h.2)

  pub only_lead : (x : Lexeme) (a : A) (s : Size) (f : List Lexeme) → Only G follow a s f
      → Only (grammar.lead x G) follow a s (x ∷ f)
  only_lead x a s f o b t k us vs h su sv e =
      let z : x ∷ (f ++ us) ≡ x ∷ (h.0 ++ vs) = e ∙ ap (λ l. l ++ vs) h.1 in
      o b t h.0 us vs h.2 su sv (let y : f ++ us ≡ h.0 ++ vs = cc in y)

  pub only_node : (a : A) (s : Size) (f : List Lexeme) → Only G follow a s f
      → Only (grammar.node G) follow a (one_node s) f
  only_node a s f o b t k us vs h su sv e = let r = o b h.0 k us vs h.2 su sv e in
      (r.0, ap one_node r.1 ∙ sym h.1, r.2)

  pub only_open : (a : A) (s : Size) (f : List Lexeme) → Only G follow a s f
      → Only (grammar.opened G) follow a (one_open s) f
  only_open a s f o b t k us vs h su sv e = let r = o b h.0 k us vs h.2 su sv e in
      (r.0, ap one_open r.1 ∙ sym h.1, r.2)

  -- a lexeme that may come next does not come
  pub only_none : (v : A) (x : Lexeme) → follow x ≡ true
      → Only (grammar.option v x G) follow v nothing_counted []
  only_none v x on b t k us vs (inl h) su sv e = only_pure v b t k us vs h su sv e
  only_none v x on b t k us vs (inr h) su sv e = stopped us (e ∙ ap (λ l. l ++ vs) h.1) su
    where
      stopped : {X : Type 0} (l : List Lexeme) → l ≡ x ∷ (h.0 ++ vs) → Stops follow l → X
      stopped [] z stops = let y : [] ≡ x ∷ (h.0 ++ vs) = z in cc
      stopped (y ∷ l) z stops = let w : y ≡ x = cc in
          true_false (sym on ∙ sym (ap follow w) ∙ stops)

  -- and it does
  pub only_some : (v : A) (x : Lexeme) (a : A) (s : Size) (f : List Lexeme) → follow x ≡ true
      → Only G follow a s f → Only (grammar.option v x G) follow a s (x ∷ f)
  only_some v x a s f on o b t k us vs (inl h) su sv e =
      stopped vs (sym (e ∙ ap (λ l. l ++ vs) h.2)) sv
    where
      stopped : {X : Type 0} (l : List Lexeme) → l ≡ x ∷ (f ++ us) → Stops follow l → X
      stopped [] z stops = let y : [] ≡ x ∷ (f ++ us) = z in cc
      stopped (y ∷ l) z stops = let w : y ≡ x = cc in
          true_false (sym on ∙ sym (ap follow w) ∙ stops)
  only_some v x a s f on o b t k us vs (inr h) su sv e = only_lead x a s f o b t k us vs h su sv e

pub only_map : {A B : Type 0} (f : A → B) (G : Grammar A) (follow : Lexeme → Bool) (a : A)
    (s : Size) (l : List Lexeme) → Only G follow a s l → Only (grammar.map f G) follow (f a) s l
only_map f G follow a s l o b t k us vs h su sv e = let r = o h.0 t k us vs h.2 su sv e in
    (ap f r.0 ∙ sym h.1, r.1, r.2)

pub only_bind : {A B : Type 0} (G : Grammar A) (H : A → Grammar B) (follow goes2 : Lexeme → Bool)
    (a : A) (b : B) (s t : Size) (f k : List Lexeme) →
    H a b t k → ((c : A) (d : B) (u : Size) (l us : List Lexeme) → H c d u l → Stops goes2 us
    → Stops follow (l ++ us)) → Only G follow a s f → Only (H a) goes2 b t k
    → Only (grammar.seq G H) goes2 b (both s t) (f ++ k)
only_bind {A} {B} G H follow goes2 a b s t f k here side first second c u l us vs h su sv e =
    let one : f ++ (k ++ us) ≡ h.3 ++ (h.4 ++ vs) = sym (append_assoc f k us) ∙ e
    ∙ ap (λ m. m ++ vs) h.6 ∙ append_assoc h.3 h.4 vs in
    let r = first h.0 h.1 h.3 (k ++ us) (h.4 ++ vs) h.7 (side a b t k us here su)
    (side h.0 c h.2 h.4 vs h.8 sv) one in
    let P : A → Type 0 = λ x. H x c h.2 h.4 in
    let q = second c h.2 h.4 us vs (subst P (sym r.0) h.8) su sv r.2 in
    (q.0, ap (λ x. both x t) r.1 ∙ ap (both h.1) q.1 ∙ sym h.5, q.2)

-- ---- lists

module _ {A : Type 0} (is : Lexeme → Bool) (sep : Lexeme) (is_sep : is sep ≡ true) (end : ℕ → Size)
    (G : A → Size → List Lexeme → Type 0) (follow : Lexeme → Bool) (off : follow sep ≡ false) where
  abbrev more_follow : Lexeme → Bool
  more_follow x = is x || follow x

  on_sep : more_follow sep ≡ true
  on_sep = ap (λ b. b || follow sep) is_sep

  no_sep : {X : Type 0} (l m : List Lexeme) → l ≡ sep ∷ m → Stops more_follow l → X
  no_sep [] m z stops = let y : [] ≡ sep ∷ m = z in cc
  no_sep (y ∷ l) m z stops = let w : y ≡ sep = cc in
      true_false (sym on_sep ∙ sym (ap more_follow w) ∙ stops)

  off_right : (a b : Bool) → (a || b) ≡ false → b ≡ false
  off_right true b e = true_false e
  off_right false b e = e

  between : (j : ℕ) (l : List A) (s : Size) (k us : List Lexeme) → AreMore sep end G j l s k
      → Stops more_follow us → Stops follow (k ++ us)
  between j [] s k us h stops = let P : List Lexeme
      → Type 0 = λ m. Stops follow (m ++ us) in subst P (sym h.1) (fewer us stops)
    where
      fewer : (l : List Lexeme) → Stops more_follow l → Stops follow l
      fewer [] i = tt
      fewer (x ∷ l) i = off_right (is x) (follow x) i
  between j (a ∷ l) s k us h stops = let P : List Lexeme
      → Type 0 = λ m. Stops follow (m ++ us) in subst P (sym h.5) off

  pub only_end : (j : ℕ) → Only (AreMore sep end G j) more_follow [] (end j) []
  only_end j [] t k us vs h su sv e = (refl, sym h.0, e ∙ ap (λ l. l ++ vs) h.1)
  only_end j (b ∷ l) t k us vs h su sv e = no_sep us ((h.2 ++ h.3) ++ vs)
      (e ∙ ap (λ m. m ++ vs) h.5) su

  pub only_next : (j : ℕ) (a : A) (l : List A) (s t : Size) (f k : List Lexeme)
      → AreMore sep end G (j + 1) l t k → Only G follow a s f
      → Only (AreMore sep end G (j + 1)) more_follow l t k
      → Only (AreMore sep end G j) more_follow (a ∷ l) (both s t) (sep ∷ (f ++ k))
  only_next j a l s t f k here first others [] u m us vs h su sv e =
      no_sep vs ((f ++ k) ++ us) (sym (e ∙ ap (λ n. n ++ vs) h.1)) sv
  only_next j a l s t f k here first others (b ∷ o) u m us vs h su sv e =
      let z : sep ∷ ((f ++ k) ++ us) ≡ sep ∷ ((h.2 ++ h.3) ++ vs) = e ∙ ap (λ n. n ++ vs) h.5 in
      let one : f ++ (k ++ us) ≡ h.2 ++ (h.3 ++ vs) =
      (let y : (f ++ k) ++ us ≡ (h.2 ++ h.3) ++ vs = cc in sym (append_assoc f k us) ∙ y
      ∙ append_assoc h.2 h.3 vs) in
      let r = first b h.0 h.2 (k ++ us) (h.3 ++ vs) h.6 (between (j + 1) l t k us here su)
      (between (j + 1) o h.1 h.3 vs h.7 sv) one in
      let q = others o h.1 h.3 us vs h.7 su sv r.2 in (
        ap (λ x. x ∷ l) r.0 ∙ ap (λ m. b ∷ m) q.0,
        ap (λ x. both x t) r.1 ∙ ap (both h.0) q.1
            ∙ sym h.4,
        q.2,
      )

-- ---- by the first lexeme

pub only_first : {A : Type 0} (G K : Grammar A) (follow : Lexeme → Bool) (x : Lexeme)
    → ((b : A) (t : Size) → G b t [] → ⊥) → ((b : A) (t : Size) (l : List Lexeme) → G b t (x ∷ l)
    → K b t l) → (a : A) (s : Size) (f : List Lexeme) → Only K follow a s f
    → Only G follow a s (x ∷ f)
only_first G K follow x none down a s f o b t [] us vs h su sv e = absurd (none b t h)
only_first G K follow x none down a s f o b t (y ∷ k) us vs h su sv e =
    let z : y ≡ x = cc in
    let P : Lexeme → Type 0 = λ w. G b t (w ∷ k) in
    o b t k us vs (down b t k (subst P z h)) su sv (let w : f ++ us ≡ k ++ vs = cc in w)

pub only_name : (follow : Lexeme → Bool) (n : List ℕ) → is_name n ≡ true
    → Only name_grammar follow n nothing_counted (word n ∷ [])
only_name follow n ok b t k us vs h su sv e =
    let z : word n ∷ us ≡ h.0 ∷ vs = e ∙ ap (λ l. l ++ vs) h.3 in
    let y : word n ≡ h.0 = cc in
    let w : Some n ≡ Some b = sym (ap (λ c. cond c (Some n) None) ok) ∙ ap as_name y ∙ h.1 in
    ((let v : n ≡ b = cc in v), sym h.2, (let v : us ≡ vs = cc in v))

only_sized : {A : Type 0} (G : Grammar A) (follow : Lexeme → Bool) (a : A) (s t : Size)
    (f : List Lexeme) → s ≡ t → Only G follow a s f → Only G follow a t f
only_sized G follow a s t f e o = let P : Size → Type 0 = λ z. Only G follow a z f in subst P e o

only_listed : {A : Type 0} (G : Grammar A) (follow : Lexeme → Bool) (a : A) (s : Size)
    (f k : List Lexeme) → f ≡ k → Only G follow a s f → Only G follow a s k
only_listed G follow a s f k e o = let P : List Lexeme
    → Type 0 = λ l. Only G follow a s l in subst P e o

-- a part, then a lexeme with which it does not go on, then the rest
only_then : {A B : Type 0} (G : Grammar A) (x : Lexeme) (H : A → Grammar B) (follow goes2 : Lexeme
    → Bool) → follow x ≡ false → (a : A) (b : B) (s t : Size) (f k : List Lexeme) →
    H a b t k → Only G follow a s f → Only (H a) goes2 b t k
    → Only (grammar.seq G (λ c. grammar.lead x (H c))) goes2 b (both s t) (f ++ x ∷ k)
only_then G x H follow goes2 off a b s t f k here first second =
    only_bind G (λ c. grammar.lead x (H c)) follow goes2 a b s t f (x ∷ k) (k, refl, here)
    (λ c d u l us h stops. let P : List Lexeme
    → Type 0 = λ m. Stops follow (m ++ us) in subst P (sym h.1) off)
    first (only_lead (H a) goes2 x b t k second)

-- a part and the lexeme that closes it
pub only_closed : {A B : Type 0} (G : Grammar A) (x : Lexeme) (φ : A → B) (follow goes2 : Lexeme
    → Bool) → follow x ≡ false → (a : A) (s : Size) (f : List Lexeme) →
    Only G follow a s f → Only (grammar.seq G (λ c. grammar.lead x (grammar.pure (φ c)))) goes2
    (φ a) s (f ++ x ∷ [])
only_closed {A} {B} G x φ follow goes2 off a s f first =
    only_sized (grammar.seq G (λ c. grammar.lead x (grammar.pure (φ c)))) goes2 (φ a)
    (both s nothing_counted) s (f ++ x ∷ []) (both_none s)
    (only_then G x (λ c. grammar.pure (φ c)) follow goes2 off a (φ a) s nothing_counted f []
    (refl, refl, refl) first (only_pure (grammar.pure (φ a)) goes2 (φ a)))

-- ---- the grammar

module _ (q : Bool) where
  abbrev follow : Lexeme → Bool
  follow = follow_expr q

  abbrev follow_parts : Lexeme → Bool
  follow_parts x = is_sign COMMA x || follow_expr q x

  abbrev Parts : ℕ → Grammar (List Tree)
  Parts j = AreMore (sign COMMA) (so_wide what.Parts) (IsExpr q) j

  first_expr : (K : Grammar Tree) (x : Lexeme)
      → ((b : Tree) (t : Size) (l : List Lexeme) → IsExpr q b t (x ∷ l) → K b t l)
      → (a : Tree) (s : Size) (f : List Lexeme) → Only K follow a s f
      → Only (IsExpr q) follow a s (x ∷ f)
  first_expr K x down a s f o = only_first (IsExpr q) K follow x (expr_not_none q) down a s f o

  only_length : (e : Tree) (s : Size) (f : List Lexeme) → Only (IsExpr q) follow e s f
      → Only (IsExpr q) follow (length_of e) (one_node (one_open s))
      (word LENGTH ∷ sign OPEN ∷ (f ++ sign CLOSE ∷ []))
  only_length e s f o =
      first_expr (grammar.node (length_grammar q)) (word LENGTH)
      (λ b t l h. length_down q b t l (expr_inv q b t (word LENGTH ∷ l) h)) (length_of e)
      (one_node (one_open s)) (sign OPEN ∷ (f ++ sign CLOSE ∷ []))
      (only_node (length_grammar q) follow (length_of e) (one_open s)
      (sign OPEN ∷ (f ++ sign CLOSE ∷ []))
      (only_lead (grammar.opened (insideLength_grammar q)) follow (sign OPEN) (length_of e)
      (one_open s) (f ++ sign CLOSE ∷ [])
      (only_open (insideLength_grammar q) follow (length_of e) s (f ++ sign CLOSE ∷ [])
      (only_closed (IsExpr q) (sign CLOSE) (λ x. length_of x) follow follow refl e s f o))))

  concat_side : (c : Tree) (d : Tree) (u : Size) (l us : List Lexeme)
      → grammar.seq (Parts 1) (λ o. grammar.lead (sign CLOSE)
      (grammar.pure (joined (a_tree c (trees_of o))))) d u l → Stops follow us
      → Stops follow (l ++ us)
  concat_side c d u l us h stops =
      let P : List Lexeme → Type 0 = λ m. Stops follow m in
      let Q : List Lexeme → Type 0 = λ m. Stops follow_parts (m ++ us) in
      subst P (sym (ap (λ m. m ++ us) h.6 ∙ append_assoc h.3 h.4 us))
      (between (is_sign COMMA) (sign COMMA) (sign_is COMMA) (so_wide what.Parts) (IsExpr q)
      follow refl 1 h.0 h.1 h.3 (h.4 ++ us) h.7 (subst Q (sym h.8.1) refl))

  only_concat : (e : Tree) (l : List Tree) (s t : Size) (f k : List Lexeme) → AreParts q 1 l t k
      → Only (IsExpr q) follow e s f → Only (Parts 1) follow_parts l t k →
      Only (IsExpr q) follow (joined (a_tree e (trees_of l))) (one_node (one_open (both s t)))
      (word CONCAT ∷ sign OPEN ∷ (f ++ (k ++ sign CLOSE ∷ [])))
  only_concat e l s t f k here o p =
      let all : Tree = joined (a_tree e (trees_of l)) in
      let tail : List Lexeme = f ++ (k ++ sign CLOSE ∷ []) in
      first_expr (grammar.node (concat_grammar q)) (word CONCAT)
      (λ b t l h. concat_down q b t l (expr_inv q b t (word CONCAT ∷ l) h)) all
      (one_node (one_open (both s t))) (sign OPEN ∷ tail)
      (only_node (concat_grammar q) follow all (one_open (both s t)) (sign OPEN ∷ tail)
      (only_lead (grammar.opened (insideConcat_grammar q)) follow (sign OPEN) all
      (one_open (both s t)) tail
      (only_open (insideConcat_grammar q) follow all (both s t) tail
      (only_bind (IsExpr q) (λ x. grammar.seq (Parts 1)
      (λ y. grammar.lead (sign CLOSE) (grammar.pure (joined (a_tree x (trees_of y)))))) follow
      follow e all s t f (k ++ sign CLOSE ∷ []) (
        l,
        t,
        nothing_counted,
        k,
        sign CLOSE ∷ [],
        sym (both_none t),
        refl,
        parts_down q 1 l t k here,
        ([], refl, (refl, refl, refl)),
      ) concat_side o
      (only_closed (Parts 1) (sign CLOSE) (λ y. joined (a_tree e (trees_of y))) follow_parts follow
      refl l t k p)))))

  only_case : (c : Test) (a b : Tree) (s t u : Size) (f k m : List Lexeme) → IsExpr q a t k
      → IsExpr q b u m → Only (IsCond q) (follow_cond q) c s f → Only (IsExpr q) follow a t k
      → Only (IsExpr q) follow b u m →
      Only (IsExpr q) follow (chosen c a b) (one_node (one_open (both s (both t u))))
      (word CASE ∷ word WHEN ∷ (f ++ word THEN ∷ (k ++ word ELSE ∷ (m ++ word END ∷ []))))
  only_case c a b s t u f k m ha hb oc oa ob =
      let at_end : List Lexeme = m ++ word END ∷ [] in
      let at_else : List Lexeme = k ++ word ELSE ∷ at_end in
      let all : List Lexeme = word WHEN ∷ (f ++ word THEN ∷ at_else) in
      let G3 : Test → Tree → Grammar Tree = λ x y.
      grammar.seq (IsExpr q) (λ z. grammar.lead (word END) (grammar.pure (chosen x y z))) in
      let G2 : Test → Grammar Tree = λ x. grammar.seq (IsExpr q)
      (λ y. grammar.lead (word ELSE) (G3 x y)) in
      let h3 : G3 c a (chosen c a b) u at_end = (
        b,
        u,
        nothing_counted,
        m,
        word END ∷ [],
        sym (both_none u),
        refl,
        hb,
        ([], refl, (refl, refl, refl)),
      ) in
      let o3 : Only (G3 c a) follow (chosen c a b) u at_end =
      only_closed (IsExpr q) (word END) (λ z. chosen c a z) follow follow refl b u m ob in
      let h2 : G2 c (chosen c a b) (both t u) at_else =
      (a, t, u, k, word ELSE ∷ at_end, refl, refl, ha, (at_end, refl, h3)) in
      let o2 : Only (G2 c) follow (chosen c a b) (both t u) at_else =
      only_then (IsExpr q) (word ELSE) (G3 c) follow follow refl a (chosen c a b) t u k at_end
      h3 oa o3 in
      first_expr (grammar.node (grammar.opened (case_grammar q))) (word CASE)
      (λ b t l h. case_down q b t l (expr_inv q b t (word CASE ∷ l) h)) (chosen c a b)
      (one_node (one_open (both s (both t u)))) all
      (only_node (grammar.opened (case_grammar q)) follow (chosen c a b)
      (one_open (both s (both t u))) all
      (only_open (case_grammar q) follow (chosen c a b) (both s (both t u)) all
      (only_lead (grammar.seq (IsCond q) (λ x. grammar.lead (word THEN) (G2 x))) follow (word WHEN)
      (chosen c a b) (both s (both t u)) (f ++ word THEN ∷ at_else)
      (only_then (IsCond q) (word THEN) G2 (follow_cond q) follow refl c (chosen c a b) s (both t u)
      f at_else h2 oc o2))))

  -- a single lexeme that is no word of an expression
  only_int : (z : ℤ) → Only (IsExpr q) follow (constant (Int z)) leaf (number z ∷ [])
  only_int z = first_expr (grammar.node (grammar.pure (constant (Int z)))) (number z)
      (λ b t l h. let k = atom_down q b t (number z) l refl refl refl
      (expr_inv q b t (number z ∷ l) h) in k.1) (constant (Int z)) leaf []
      (only_node (grammar.pure (constant (Int z))) follow (constant (Int z)) nothing_counted []
      (only_pure (grammar.pure (constant (Int z))) follow (constant (Int z))))

  only_text : (z : List ℕ) → Only (IsExpr q) follow (constant (Text z)) leaf (text z ∷ [])
  only_text z = first_expr (grammar.node (grammar.pure (constant (Text z)))) (text z)
      (λ b t l h. atom_down q b t (text z) l refl refl refl (expr_inv q b t (text z ∷ l) h))
      (constant (Text z)) leaf []
      (only_node (grammar.pure (constant (Text z))) follow (constant (Text z)) nothing_counted []
      (only_pure (grammar.pure (constant (Text z))) follow (constant (Text z))))

  only_named : (n : List ℕ) → is_name n ≡ true → (a : Tree) (f : List Lexeme)
      → Only (ref_grammar q n) follow a nothing_counted f
      → Only (IsExpr q) follow a leaf (word n ∷ f)
  only_named n ok a f o =
      first_expr (grammar.node (ref_grammar q n)) (word n)
      (λ b t l h. let k = atom_down q b t (word n) l (no_word q LENGTH n length_no_name ok)
      (no_word q CONCAT n concat_no_name ok) (no_word q CASE n case_no_name ok)
      (expr_inv q b t (word n ∷ l) h) in k.1) a leaf f
      (only_node (ref_grammar q n) follow a nothing_counted f o)

  -- ---- facts

  first_fact : (K : Grammar Test) (x : Lexeme)
      → ((b : Test) (t : Size) (l : List Lexeme) → IsFact q b t (x ∷ l) → K b t l)
      → (a : Test) (s : Size) (f : List Lexeme) → Only K follow a s f
      → Only (IsFact q) follow a s (x ∷ f)
  first_fact K x down a s f o = only_first (IsFact q) K follow x
      (λ b t h. fact_not_none q b t (fact_inv q b t [] h)) down a s f o

  only_not : (c : Test) (s : Size) (f : List Lexeme) → Only (IsFact q) follow c s f
      → Only (IsFact q) follow (fails c) (one_node (one_open s)) (word NOT ∷ f)
  only_not c s f o =
      first_fact (grammar.node (grammar.opened (not_grammar q))) (word NOT)
      (λ b t l h. not_down q b t l (fact_inv q b t (word NOT ∷ l) h)) (fails c)
      (one_node (one_open s)) f
      (only_node (grammar.opened (not_grammar q)) follow (fails c) (one_open s) f
      (only_open (not_grammar q) follow (fails c) s f
      (only_map (λ x. fails x) (IsFact q) follow c s f o)))

  only_bracket : (c : Test) (s : Size) (f : List Lexeme) → Only (IsCond q) (follow_cond q) c s f
      → Only (IsFact q) follow c (one_open s) (sign OPEN ∷ (f ++ sign CLOSE ∷ []))
  only_bracket c s f o =
      first_fact (grammar.opened (bracket_grammar q)) (sign OPEN)
      (λ b t l h. bracket_down q b t l (fact_inv q b t (sign OPEN ∷ l) h)) c (one_open s)
      (f ++ sign CLOSE ∷ [])
      (only_open (bracket_grammar q) follow c s (f ++ sign CLOSE ∷ [])
      (only_closed (IsCond q) (sign CLOSE) (λ x. x) (follow_cond q) follow refl c s f o))

  only_truth : Only (IsFact q) follow always leaf (word TRUE ∷ [])
  only_truth = first_fact (grammar.node (grammar.pure always)) (word TRUE)
      (λ b t l h. true_down q b t l (fact_inv q b t (word TRUE ∷ l) h)) always leaf []
      (only_node (grammar.pure always) follow always nothing_counted []
      (only_pure (grammar.pure always) follow always))

  only_falsehood : Only (IsFact q) follow never leaf (word FALSE ∷ [])
  only_falsehood = first_fact (grammar.node (grammar.pure never)) (word FALSE)
      (λ b t l h. false_down q b t l (fact_inv q b t (word FALSE ∷ l) h)) never leaf []
      (only_node (grammar.pure never) follow never nothing_counted []
      (only_pure (grammar.pure never) follow never))

  abbrev pub sign_grammar : Tree → Grammar Test
  sign_grammar a = op_grammar (λ o. grammar.node (right_grammar q a o))

  only_sign : (a : Tree) (o : CmpOp) (c : Test) (s : Size) (f : List Lexeme)
      → Only (grammar.node (right_grammar q a o)) follow c s f
      → Only (sign_grammar a) follow c s (comparison_lexeme o ∷ f)
  only_sign a o c s f r b t k us vs h su sv e =
      let z : comparison_lexeme o ∷ (f ++ us) ≡ comparison_lexeme h.0 ∷ (h.1.0 ++ vs) = e
      ∙ ap (λ l. l ++ vs) h.1.1 in
      let y : comparison_lexeme o ≡ comparison_lexeme h.0 = cc in
      let w : Some o ≡ Some h.0 = sym (spelled_op q o) ∙ ap sign_op y ∙ spelled_op q h.0 in
      let v : o ≡ h.0 = cc in
      let P : CmpOp → Type 0 = λ p. grammar.node (right_grammar q a p) b t h.1.0 in
      r b t h.1.0 us vs (subst P (sym v) h.1.2) su sv (let u : f ++ us ≡ h.1.0 ++ vs = cc in u)

  sign_side : (c : Tree) (d : Test) (u : Size) (l us : List Lexeme) → sign_grammar c d u l
      → Stops follow us → Stops follow (l ++ us)
  sign_side c d u l us h stops = let P : List Lexeme
      → Type 0 = λ m. Stops follow (m ++ us) in subst P (sym h.1.1) (no_point q h.0)

  only_cmp : (o : CmpOp) (a b : Tree) (s t : Size) (f k : List Lexeme) → IsExpr q b t k
      → Only (IsExpr q) follow a s f → Only (IsExpr q) follow b t k
      → Only (cmp_grammar q) follow (compared o a b) (both s (one_node t))
      (f ++ comparison_lexeme o ∷ k)
  only_cmp o a b s t f k hb oa ob =
      only_bind (IsExpr q) sign_grammar follow follow a (compared o a b) s (one_node t) f
      (comparison_lexeme o ∷ k) (o, (k, refl, (t, refl, (b, refl, hb)))) sign_side oa
      (only_sign a o (compared o a b) (one_node t) k
      (only_node (right_grammar q a o) follow (compared o a b) t k
      (only_map (λ y. compared o a y) (IsExpr q) follow b t k ob)))

  unlike : (is : Lexeme → Bool) (m : Lexeme) → ((x : Lexeme) → is x ≡ true → x ≡ m)
      → starts_expr m ≡ false → (y : Lexeme) → starts_expr y ≡ true → is y ≡ false
  unlike is m exact off y on = by_test (is y)
      (λ t. true_false (sym on ∙ ap starts_expr (exact y t) ∙ off)) (λ t. t)

  -- what begins as an expression is a comparison
  pub as_cmp : (b : Test) (t : Size) (y : Lexeme) (l : List Lexeme) → starts_expr y ≡ true
      → IsFact q b t (y ∷ l) → cmp_grammar q b t (y ∷ l)
  as_cmp b t y l starts h =
      cmp_down q b t y l (unlike (is_word NOT) (word NOT) (word_exact NOT) starts_not y starts)
      (unlike (is_sign OPEN) (sign OPEN) (sign_exact OPEN) starts_open y starts)
      (unlike (is_word TRUE) (word TRUE) (word_exact TRUE) starts_true y starts)
      (unlike (is_word FALSE) (word FALSE) (word_exact FALSE) starts_false y starts)
      (fact_inv q b t (y ∷ l) h)

  by_cmp : (a : Tree) (s : Size) (f : List Lexeme) → IsExpr q a s f
      → (c : Test) (u : Size) (k : List Lexeme) → Only (cmp_grammar q) follow c u (f ++ k)
      → Only (IsFact q) follow c u (f ++ k)
  by_cmp a s f h c u k o b t [] us vs g su sv e = absurd (fact_not_none q b t (fact_inv q b t [] g))
  by_cmp a s f h c u k o b t (y ∷ l) us vs g su sv e =
      let x = expr_some q a s f h in
      let z : x.0 ∷ ((x.1 ++ k) ++ us) ≡ y ∷ (l ++ vs) = sym (ap (λ m. (m ++ k) ++ us) x.2) ∙ e in
      let w : y ≡ x.0 = cc in
      o b t (y ∷ l) us vs (as_cmp b t y l (ap starts_expr w ∙ x.3) g) su sv e

-- ---- joined by AND and OR

module _ (w : List ℕ) (make : Test → Test → List Test → Test) (G : Test → Size → List Lexeme
    → Type 0) (goes1 : Lexeme → Bool) (off1 : goes1 (word w) ≡ false) where
  abbrev goes_on : Lexeme → Bool
  goes_on x = is_word w x || goes1 x

  follow_at : goes_on (word w) ≡ true
  follow_at = ap (λ b. b || goes1 (word w)) (word_is w)

  abbrev MoreGrammar : Grammar (List Test)
  MoreGrammar = AreMore (word w) no_end G 0

  abbrev TwoGrammar : Test → Grammar Test
  TwoGrammar c = grammar.seq G (λ e. grammar.map (make c e) MoreGrammar)

  abbrev RestGrammar : Test → Grammar Test
  RestGrammar c = grammar.option c (word w) (grammar.node (TwoGrammar c))

  more_side : (j : ℕ) (l : List Test) (u : Size) (k us : List Lexeme)
      → AreMore (word w) no_end G j l u k → Stops goes_on us → Stops goes1 (k ++ us)
  more_side j l u k us h stops = between (is_word w) (word w) (word_is w) no_end G goes1 off1 j l u
      k us h stops

  rest_side : (c d : Test) (u : Size) (l us : List Lexeme) → RestGrammar c d u l → Stops goes_on us
      → Stops goes1 (l ++ us)
  rest_side c d u l us (inl h) stops = let P : List Lexeme
      → Type 0 = λ m. Stops goes1 (m ++ us) in
      subst P (sym h.2) (more_side 0 [] nothing_counted [] us (refl, refl) stops)
  rest_side c d u l us (inr h) stops = let P : List Lexeme
      → Type 0 = λ m. Stops goes1 (m ++ us) in subst P (sym h.1) off1

  two_side : (c e d : Test) (u : Size) (l us : List Lexeme)
      → grammar.map (make c e) MoreGrammar d u l → Stops goes_on us → Stops goes1 (l ++ us)
  two_side c e d u l us h stops = more_side 0 h.0 u l us h.2 stops

  only_alone : (c : Test) (s : Size) (f : List Lexeme) → Only G goes1 c s f
      → Only (grammar.seq G RestGrammar) goes_on c s f
  only_alone c s f o =
      only_listed (grammar.seq G RestGrammar) goes_on c s (f ++ []) f (append-nil f)
      (only_sized (grammar.seq G RestGrammar) goes_on c (both s nothing_counted) s (f ++ [])
      (both_none s)
      (only_bind G RestGrammar goes1 goes_on c c s nothing_counted f [] (inl (refl, refl, refl))
      rest_side o (only_none (grammar.node (TwoGrammar c)) goes_on c (word w) follow_at)))

  only_joined : (c e : Test) (l : List Test) (s t u : Size) (f k m : List Lexeme) → G e t k
      → MoreGrammar l u m → Only G goes1 c s f → Only G goes1 e t k → Only MoreGrammar goes_on l u m
      →
      Only (grammar.seq G RestGrammar) goes_on (make c e l) (both s (one_node (both t u)))
      (f ++ word w ∷ (k ++ m))
  only_joined c e l s t u f k m he hl oc oe ol =
      only_bind G RestGrammar goes1 goes_on c (make c e l) s (one_node (both t u)) f
      (word w ∷ (k ++ m)) (inr (
        k ++ m,
        refl,
        (both t u, refl, (e, t, u, k, m, refl, refl, he, (l, refl, hl))),
      )) rest_side oc
      (only_some (grammar.node (TwoGrammar c)) goes_on c (word w) (make c e l) (one_node (both t u))
      (k ++ m) follow_at
      (only_node (TwoGrammar c) goes_on (make c e l) (both t u) (k ++ m)
      (only_bind G (λ d. grammar.map (make c d) MoreGrammar) goes1 goes_on e (make c e l) t u k m
      (l, refl, hl) (λ d x v n us h stops. two_side c d x v n us h stops) oe
      (only_map (make c e) MoreGrammar goes_on l u m ol))))

only_down : {A : Type 0} (G K : Grammar A) (follow : Lexeme → Bool)
    → ((b : A) (t : Size) (k : List Lexeme) → G b t k → K b t k)
    → (a : A) (s : Size) (f : List Lexeme) → Only K follow a s f → Only G follow a s f
only_down G K follow down a s f o b t k us vs h su sv e = o b t k us vs (down b t k h) su sv e

abbrev pub and_all : Test → Test → List Test → Test
and_all c e l = all_of (a_test c (a_test e (tests_of l)))

abbrev pub or_all : Test → Test → List Test → Test
or_all c e l = some_of (a_test c (a_test e (tests_of l)))

-- ---- whatever is in the grammar

mutual
  pub only_expr : (q : Bool) (e : Tree) (s : Size) (f : List Lexeme) → IsExpr q e s f
      → Only (IsExpr q) (follow_expr q) e s f
  only_expr q e s f (g.an_int p z h) = only_int p z
  only_expr q e s f (g.a_text p t) = only_text p t
  only_expr q e s f (g.of_atom n h) = only_named false n h (column (Atom 0) n) []
      (only_pure (grammar.pure (column (Atom 0) n)) (follow_expr false) (column (Atom 0) n))
  only_expr q e s f (g.of_free n h) = only_named true n h (column Free n) []
      (only_none (alias_grammar n) (follow_expr true) (column Free n) (sign POINT) refl)
  only_expr q e s f (g.of_alias a n h k) =
      only_named true a h (aliased a n) (sign POINT ∷ word n ∷ [])
      (only_some (alias_grammar a) (follow_expr true) (column Free a) (sign POINT) (aliased a n)
      nothing_counted (word n ∷ []) refl (only_map (λ m. aliased a m) name_grammar
      (follow_expr true) n nothing_counted (word n ∷ []) (only_name (follow_expr true) n k)))
  only_expr q e s f (g.a_length p x u k h) = only_length p x u k (only_expr p x u k h)
  only_expr q e s f (g.a_concat p x l u v k m h hl) =
      only_concat p x l u v k m hl (only_expr p x u k h) (only_parts p 1 l v m hl)
  only_expr q e s f (g.a_case p c a b u v w k m o hc ha hb) =
      only_case p c a b u v w k m o ha hb (only_cond p c u k hc) (only_expr p a v m ha)
      (only_expr p b w o hb)

  only_parts : (q : Bool) (j : ℕ) (l : List Tree) (s : Size) (f : List Lexeme) → AreParts q j l s f
      → Only (Parts q j) (follow_parts q) l s f
  only_parts q j l s f (g.no_part p i) = only_end (is_sign COMMA) (sign COMMA) (sign_is COMMA)
      (so_wide what.Parts) (IsExpr p) (follow_expr p) refl i
  only_parts q j l s f (g.a_part p i e o u v k m h hl) =
      only_next (is_sign COMMA) (sign COMMA) (sign_is COMMA) (so_wide what.Parts) (IsExpr p)
      (follow_expr p) refl i e o u v k m (parts_down p (i + 1) o v m hl) (only_expr p e u k h)
      (only_parts p (i + 1) o v m hl)

  only_fact : (q : Bool) (c : Test) (s : Size) (f : List Lexeme) → IsFact q c s f
      → Only (IsFact q) (follow_expr q) c s f
  only_fact q c s f (g.negated p d u k h) = only_not p d u k (only_fact p d u k h)
  only_fact q c s f (g.bracketed p d u k h) = only_bracket p d u k (only_cond p d u k h)
  only_fact q c s f (g.truth p) = only_truth p
  only_fact q c s f (g.falsehood p) = only_falsehood p
  only_fact q c s f (g.comparison p o a b u v k m ha hb) =
      by_cmp p a u k ha (compared o a b) (both u (one_node v)) (comparison_lexeme o ∷ m)
      (only_cmp p o a b u v k m hb (only_expr p a u k ha) (only_expr p b v m hb))

  only_facts : (q : Bool) (j : ℕ) (l : List Test) (s : Size) (f : List Lexeme) → AreFacts q l s f
      → Only (AreMore (word AND) no_end (IsFact q) j) (follow_conj q) l s f
  only_facts q j l s f (g.no_fact p) = only_end (is_word AND) (word AND) (word_is AND) no_end
      (IsFact p) (follow_expr p) refl j
  only_facts q j l s f (g.a_fact p c o u v k m h hl) =
      only_next (is_word AND) (word AND) (word_is AND) no_end (IsFact p) (follow_expr p) refl j c o
      u v k m (facts_down p (j + 1) o v m hl) (only_fact p c u k h)
      (only_facts p (j + 1) o v m hl)

  only_conj : (q : Bool) (c : Test) (s : Size) (f : List Lexeme) → IsConj q c s f
      → Only (IsConj q) (follow_conj q) c s f
  only_conj q c s f (g.one_fact p d u k h) = only_down (IsConj p)
      (grammar.seq (IsFact p) (RestGrammar AND and_all (IsFact p) (follow_expr p) refl))
      (follow_conj p) (conj_down p) d u k (only_alone AND and_all (IsFact p) (follow_expr p) refl d
      u k (only_fact p d u k h))
  only_conj q c s f (g.an_and p d e l u v w k m o hd he hl) =
      only_down (IsConj p) (grammar.seq (IsFact p)
      (RestGrammar AND and_all (IsFact p) (follow_expr p) refl)) (follow_conj p) (conj_down p)
      (and_all d e l) (both u (one_node (both v w))) (k ++ word AND ∷ (m ++ o))
      (only_joined AND and_all (IsFact p) (follow_expr p) refl d e l u v w k m o he
      (facts_down p 0 l w o hl) (only_fact p d u k hd) (only_fact p e v m he)
      (only_facts p 0 l w o hl))

  only_conjs : (q : Bool) (j : ℕ) (l : List Test) (s : Size) (f : List Lexeme) → AreConjs q l s f
      → Only (AreMore (word OR) no_end (IsConj q) j) (follow_cond q) l s f
  only_conjs q j l s f (g.no_conj p) = only_end (is_word OR) (word OR) (word_is OR) no_end
      (IsConj p) (follow_conj p) refl j
  only_conjs q j l s f (g.a_conj p c o u v k m h hl) =
      only_next (is_word OR) (word OR) (word_is OR) no_end (IsConj p) (follow_conj p) refl j c o u v
      k m (conjs_down p (j + 1) o v m hl) (only_conj p c u k h) (only_conjs p (j + 1) o v m hl)

  pub only_cond : (q : Bool) (c : Test) (s : Size) (f : List Lexeme) → IsCond q c s f
      → Only (IsCond q) (follow_cond q) c s f
  only_cond q c s f (g.one_conj p d u k h) = only_down (IsCond p)
      (grammar.seq (IsConj p) (RestGrammar OR or_all (IsConj p) (follow_conj p) refl))
      (follow_cond p) (cond_down p) d u k (only_alone OR or_all (IsConj p) (follow_conj p) refl d u
      k (only_conj p d u k h))
  only_cond q c s f (g.an_or p d e l u v w k m o hd he hl) =
      only_down (IsCond p) (grammar.seq (IsConj p)
      (RestGrammar OR or_all (IsConj p) (follow_conj p) refl)) (follow_cond p) (cond_down p)
      (or_all d e l) (both u (one_node (both v w))) (k ++ word OR ∷ (m ++ o))
      (only_joined OR or_all (IsConj p) (follow_conj p) refl d e l u v w k m o he
      (conjs_down p 0 l w o hl) (only_conj p d u k hd) (only_conj p e v m he)
      (only_conjs p 0 l w o hl))

-- ---- one prefix, one tree and size

pub once : {A : Type 0} (G : Grammar A) (follow : Lexeme → Bool) (a b : A) (s t : Size)
    (f : List Lexeme) → G b t f → Only G follow a s f → (a ≡ b) × (s ≡ t)
once G follow a b s t f h o = let r = o b t f [] [] h tt tt refl in (r.0, r.1)
