-- What is in the grammar is read where nothing of the grammar goes on with what stands after it.
use Rattle.std.proofs.Common.{◌≡◌, ℕ, suc, ◌+◌, Option, Some, None, Bool, true, false, ◌||◌, ◌&&◌}
use Rattle.std.proofs.Common.{List, [], ◌∷◌, ◌++◌, length, take, refl, sym, ap, ◌∙◌, subst}
use Rattle.std.proofs.Common.{append_assoc, append-nil, arith, codes, length-append}
use Rattle.prima_base.specs.declared.refusal.What.{What}
use Rattle.cond_expr.specs.Trees.{Tree, Test, fails, always}
use Rattle.lexer_spec.specs.Lexemes.{Lexeme, word, sign, is_word, is_sign}
use Rattle.lexer_combinators.specs.Grammar.{Grammar}
use Rattle.lexer_combinators.specs.Parsing.{Stops, CanGoOn, Fine, Exceeds}
use Rattle.lexer_combinators.specs.Grammar.{Size, both, one_node, one_open, nothing_counted}
use Rattle.lexer_trees_spec.specs.Grammar as g
use Rattle.lexer_trees_spec.specs.Grammar.{comparison_lexeme, leaf, IsExpr, IsFact, AreFacts}
use Rattle.lexer_trees_spec.specs.Grammar.{IsConj}
use Rattle.lexer_trees_spec.specs.Grammar.{AreConjs}
use Rattle.lexer_trees_spec.specs.Grammar.{IsCond}
use Rattle.lexer_combinators.specs.TokenCounts.{TokenCounts, crossed_by}
use Rattle.lexer_trees_spec.specs.TreeCounts.{expr_counts, cond_counts}
use Rattle.lexer_combinators.specs.Found.{Ends}
use Rattle.lexer_trees_spec.specs.Reader.{outermost, follow_expr, follow_cond}
use Rattle.lexer_spec.proofs.Cases.{true_false, by_test}
use Rattle.lexer_trees_spec.proofs.Grammar.{aliased, some_name, AND, OR, TRUE, POINT}
use Rattle.lexer_spec.proofs.LexemeTests.{word_exact, sign_exact}
use Rattle.lexer_trees_spec.proofs.Endings.{expr_free, fact_free, facts_free, conj_free, conjs_free}
use Rattle.lexer_trees_spec.proofs.Endings.{cond_free}
use Rattle.lexer_combinators.proofs.Counted.{along, or_else, by_crossed}
use Rattle.lexer_trees_spec.proofs.CountSizes.{expr_length, cond_length}
use Rattle.lexer_trees_spec.proofs.CountsJoined.{expr_read, cond_read, expr_counted, cond_counted}
use Rattle.lexer_trees_spec.proofs.Correctness.{outermost_correct}

-- ---- what goes on

-- these lexemes may stand after it
abbrev Grown : {A : Type 0} → Grammar A → List Lexeme → List Lexeme → Type 0
Grown {A} G f tail = (a : A) × (s : Size) × G a s (f ++ tail)

abbrev after : List Lexeme
after = sign POINT ∷ word (codes "a") ∷ []

abbrev and_true : List Lexeme
and_true = word AND ∷ word TRUE ∷ []

abbrev or_true : List Lexeme
or_true = word OR ∷ word TRUE ∷ []

expr_grows : (q : Bool) (e : Tree) (s : Size) (f : List Lexeme) (h : IsExpr q e s f)
    → expr_free q e s f h ≡ true → Grown (IsExpr q) f after
expr_grows q e s f (g.an_int p z h) r = true_false (sym r)
expr_grows q e s f (g.a_text p t) r = true_false (sym r)
expr_grows q e s f (g.of_atom n h) r = true_false (sym r)
expr_grows q e s f (g.of_free n h) r = (
  aliased n (codes "a"),
  leaf,
  g.of_alias n (codes "a") h some_name,
)
expr_grows q e s f (g.of_alias a n h k) r = true_false (sym r)
expr_grows q e s f (g.a_length p x u k h) r = true_false (sym r)
expr_grows q e s f (g.a_concat p x l u v k m h hl) r = true_false (sym r)
expr_grows q e s f (g.a_case p c a b u v w k m o hc ha hb) r = true_false (sym r)

fact_grows : (q : Bool) (c : Test) (s : Size) (f : List Lexeme) (h : IsFact q c s f)
    → fact_free q c s f h ≡ true → Grown (IsFact q) f after
fact_grows q c s f (g.negated p d u k h) r = let i = fact_grows p d u k h r in
    (fails i.0, one_node (one_open i.1), g.negated p i.0 i.1 (k ++ after) i.2)
fact_grows q c s f (g.bracketed p d u k h) r = true_false (sym r)
fact_grows q c s f (g.truth p) r = true_false (sym r)
fact_grows q c s f (g.falsehood p) r = true_false (sym r)
fact_grows q c s f (g.comparison p o a b u v k m ha hb) r =
    let i = expr_grows p b v m hb r in
    let P : List Lexeme → Type 0 = λ l. (d : Test) × (t : Size) × IsFact p d t l in
    subst P (sym (append_assoc k (comparison_lexeme o ∷ m) after))
    (_, _, g.comparison p o a i.0 u i.1 k (m ++ after) ha i.2)

-- ---- the last of what AND joins, and what stands in its place

abbrev LastFact : (q : Bool) → Bool → List Lexeme → (List Lexeme → Type 0) → Type 0
LastFact q free f Whole =
    (before : List Lexeme) × (k : List Lexeme) × (d : Test) × (u : Size) × (h : IsFact q d u k)
    × (f ≡ before ++ k) × (free ≡ fact_free q d u k h)
    × ((e : Test) (v : Size) (m : List Lexeme) → IsFact q e v m → Whole (before ++ m))

abbrev FactAndFacts : Bool → List Lexeme → Type 0
FactAndFacts q f = (c : Test) × (l : List Test) × (s : Size) × (t : Size) × (k : List Lexeme)
    × (m : List Lexeme) × IsFact q c s k × AreFacts q l t m × (f ≡ k ++ m)

last_facts : (q : Bool) (c : Test) (s : Size) (f : List Lexeme) (h : IsFact q c s f) (l : List Test)
    (t : Size) (m : List Lexeme) (hl : AreFacts q l t m)
    → LastFact q (facts_free (fact_free q c s f h) q l t m hl) (f ++ m) (FactAndFacts q)
last_facts q c s f h l t m (g.no_fact p) = (
  [],
  f,
  c,
  s,
  h,
  append-nil f,
  refl,
  λ e v k i.
      (e, [], v, nothing_counted, k, [], i, g.no_fact p, sym (append-nil k)),
)
last_facts q c s f h l t m (g.a_fact p c2 others u v k o h2 hl) =
    let r = last_facts p c2 u k h2 others v o hl in (
      f ++ word AND ∷ r.0,
      r.1,
      r.2,
      r.3,
      r.4,
      ap (λ x. f ++ word AND ∷ x) r.5 ∙ sym (append_assoc f (word AND ∷ r.0) r.1),
      r.6,
      λ e w x i.
          let z = r.7 e w x i in (
            c,
            z.0 ∷ z.1,
            s,
            both z.2 z.3,
            f,
            word AND ∷ (z.4 ++ z.5),
            h,
            g.a_fact p z.0 z.1 z.2 z.3 z.4 z.5 z.6 z.7,
            append_assoc f (word AND ∷ r.0) x
                ∙ ap (λ y. f ++ word AND ∷ y) z.8,
          ),
    )

abbrev AConj : Bool → List Lexeme → Type 0
AConj q f = (c : Test) × (s : Size) × IsConj q c s f

last_fact : (q : Bool) (c : Test) (s : Size) (f : List Lexeme) (h : IsConj q c s f)
    → LastFact q (conj_free q c s f h) f (AConj q)
last_fact q c s f (g.one_fact p d u k h) = (
  [],
  k,
  d,
  u,
  h,
  refl,
  refl,
  λ e v m i.
      (e, v, g.one_fact p e v m i),
)
last_fact q c s f (g.an_and p d e l u v w k m o hd he hl) =
    let r = last_facts p e v m he l w o hl in (
      k ++ word AND ∷ r.0,
      r.1,
      r.2,
      r.3,
      r.4,
      ap (λ x. k ++ word AND ∷ x) r.5 ∙ sym (append_assoc k (word AND ∷ r.0) r.1),
      r.6,
      λ e2 v2 x i. let z = r.7 e2 v2 x i in subst (AConj p)
          (sym (append_assoc k (word AND ∷ r.0) x ∙ ap (λ y. k ++ word AND ∷ y) z.8))
          (_, _, g.an_and p d z.0 z.1 u z.2 z.3 k z.4 z.5 hd z.6 z.7),
    )

conj_grows : (q : Bool) (c : Test) (s : Size) (f : List Lexeme) (h : IsConj q c s f)
    → conj_free q c s f h ≡ true → Grown (IsConj q) f after
conj_grows q c s f h e =
    let r = last_fact q c s f h in
    let i = fact_grows q r.2 r.3 r.1 r.4 (sym r.6 ∙ e) in
    subst (AConj q) (sym (append_assoc r.0 r.1 after) ∙ ap (λ l. l ++ after) (sym r.5))
    (r.7 i.0 i.1 (r.1 ++ after) i.2)

facts_and : (q : Bool) (l : List Test) (t : Size) (m : List Lexeme) → AreFacts q l t m
    → (o : List Test) × (u : Size) × AreFacts q o u (m ++ and_true)
facts_and q l t m (g.no_fact p) = (
  always ∷ [],
  both leaf nothing_counted,
  g.a_fact p always [] leaf nothing_counted (word TRUE ∷ []) [] (g.truth p) (g.no_fact p),
)
facts_and q l t m (g.a_fact p c others u v k o h hl) =
    let r = facts_and p others v o hl in
    let P : List Lexeme → Type 0 = λ x. (y : List Test) × (z : Size)
    × AreFacts p y z (word AND ∷ x) in
    subst P (sym (append_assoc k o and_true))
    (c ∷ r.0, both u r.1, g.a_fact p c r.0 u r.1 k (o ++ and_true) h r.2)

conj_and : (q : Bool) (c : Test) (s : Size) (f : List Lexeme) → IsConj q c s f
    → Grown (IsConj q) f and_true
conj_and q c s f (g.one_fact p d u k h) = (
  _,
  _,
  g.an_and p d always [] u leaf nothing_counted k (word TRUE ∷ []) [] h (g.truth p) (g.no_fact p),
)
conj_and q c s f (g.an_and p d e l u v w k m o hd he hl) =
    let r = facts_and p l w o hl in
    subst (AConj p) (sym (append_assoc k (word AND ∷ (m ++ o)) and_true
    ∙ ap (λ y. k ++ word AND ∷ y) (append_assoc m o and_true)))
    (_, _, g.an_and p d e r.0 u v r.1 k m (o ++ and_true) hd he r.2)

-- ---- the last of what OR joins, and what stands in its place

abbrev LastConj : (q : Bool) → Bool → List Lexeme → (List Lexeme → Type 0) → Type 0
LastConj q free f Whole =
    (before : List Lexeme) × (k : List Lexeme) × (d : Test) × (u : Size) × (h : IsConj q d u k)
    × (f ≡ before ++ k) × (free ≡ conj_free q d u k h)
    × ((e : Test) (v : Size) (m : List Lexeme) → IsConj q e v m → Whole (before ++ m))

abbrev ConjAndConjs : Bool → List Lexeme → Type 0
ConjAndConjs q f = (c : Test) × (l : List Test) × (s : Size) × (t : Size) × (k : List Lexeme)
    × (m : List Lexeme) × IsConj q c s k × AreConjs q l t m × (f ≡ k ++ m)

last_conjs : (q : Bool) (c : Test) (s : Size) (f : List Lexeme) (h : IsConj q c s f) (l : List Test)
    (t : Size) (m : List Lexeme) (hl : AreConjs q l t m)
    → LastConj q (conjs_free (conj_free q c s f h) q l t m hl) (f ++ m) (ConjAndConjs q)
last_conjs q c s f h l t m (g.no_conj p) = (
  [],
  f,
  c,
  s,
  h,
  append-nil f,
  refl,
  λ e v k i.
      (e, [], v, nothing_counted, k, [], i, g.no_conj p, sym (append-nil k)),
)
last_conjs q c s f h l t m (g.a_conj p c2 others u v k o h2 hl) =
    let r = last_conjs p c2 u k h2 others v o hl in (
      f ++ word OR ∷ r.0,
      r.1,
      r.2,
      r.3,
      r.4,
      ap (λ x. f ++ word OR ∷ x) r.5 ∙ sym (append_assoc f (word OR ∷ r.0) r.1),
      r.6,
      λ e w x i.
          let z = r.7 e w x i in (
            c,
            z.0 ∷ z.1,
            s,
            both z.2 z.3,
            f,
            word OR ∷ (z.4 ++ z.5),
            h,
            g.a_conj p z.0 z.1 z.2 z.3 z.4 z.5 z.6 z.7,
            append_assoc f (word OR ∷ r.0) x
                ∙ ap (λ y. f ++ word OR ∷ y) z.8,
          ),
    )

abbrev ACond : Bool → List Lexeme → Type 0
ACond q f = (c : Test) × (s : Size) × IsCond q c s f

last_conj : (q : Bool) (c : Test) (s : Size) (f : List Lexeme) (h : IsCond q c s f)
    → LastConj q (cond_free q c s f h) f (ACond q)
last_conj q c s f (g.one_conj p d u k h) = (
  [],
  k,
  d,
  u,
  h,
  refl,
  refl,
  λ e v m i.
      (e, v, g.one_conj p e v m i),
)
last_conj q c s f (g.an_or p d e l u v w k m o hd he hl) =
    let r = last_conjs p e v m he l w o hl in (
      k ++ word OR ∷ r.0,
      r.1,
      r.2,
      r.3,
      r.4,
      ap (λ x. k ++ word OR ∷ x) r.5 ∙ sym (append_assoc k (word OR ∷ r.0) r.1),
      r.6,
      λ e2 v2 x i. let z = r.7 e2 v2 x i in subst (ACond p)
          (sym (append_assoc k (word OR ∷ r.0) x ∙ ap (λ y. k ++ word OR ∷ y) z.8))
          (_, _, g.an_or p d z.0 z.1 u z.2 z.3 k z.4 z.5 hd z.6 z.7),
    )

-- what may stand after its last part may stand after the whole
by_last : (q : Bool) (c : Test) (s : Size) (f : List Lexeme) (h : IsCond q c s f)
    (tail : List Lexeme) → ((d : Test) (u : Size) (k : List Lexeme) (i : IsConj q d u k)
    → cond_free q c s f h ≡ conj_free q d u k i → Grown (IsConj q) k tail) → Grown (IsCond q) f tail
by_last q c s f h tail grow =
    let r = last_conj q c s f h in
    let i = grow r.2 r.3 r.1 r.4 r.6 in
    subst (ACond q) (sym (append_assoc r.0 r.1 tail) ∙ ap (λ l. l ++ tail) (sym r.5))
    (r.7 i.0 i.1 (r.1 ++ tail) i.2)

conjs_or : (q : Bool) (l : List Test) (t : Size) (m : List Lexeme) → AreConjs q l t m
    → (o : List Test) × (u : Size) × AreConjs q o u (m ++ or_true)
conjs_or q l t m (g.no_conj p) = (
  always ∷ [],
  both leaf nothing_counted,
  g.a_conj p always [] leaf nothing_counted (word TRUE ∷ []) []
      (g.one_fact p always leaf (word TRUE ∷ []) (g.truth p)) (g.no_conj p),
)
conjs_or q l t m (g.a_conj p c others u v k o h hl) =
    let r = conjs_or p others v o hl in
    let P : List Lexeme → Type 0 = λ x. (y : List Test) × (z : Size)
    × AreConjs p y z (word OR ∷ x) in
    subst P (sym (append_assoc k o or_true)) (
      c ∷ r.0,
      both u r.1,
      g.a_conj p c r.0 u r.1 k (o ++ or_true) h r.2,
    )

cond_or : (q : Bool) (c : Test) (s : Size) (f : List Lexeme) → IsCond q c s f
    → Grown (IsCond q) f or_true
cond_or q c s f (g.one_conj p d u k h) = (
  _,
  _,
  g.an_or p d always [] u leaf nothing_counted k (word TRUE ∷ []) [] h
      (g.one_fact p always leaf (word TRUE ∷ []) (g.truth p)) (g.no_conj p),
)
cond_or q c s f (g.an_or p d e l u v w k m o hd he hl) =
    let r = conjs_or p l w o hl in
    subst (ACond p) (sym (append_assoc k (word OR ∷ (m ++ o)) or_true
    ∙ ap (λ y. k ++ word OR ∷ y) (append_assoc m o or_true)))
    (_, _, g.an_or p d e r.0 u v r.1 k m (o ++ or_true) hd he r.2)

-- ---- where nothing goes on, reading stops

can : {A : Type 0} (G : Grammar A) (f : List Lexeme) (x y : Lexeme) (more : List Lexeme) → x ≡ y
    → Grown G f (y ∷ more) → CanGoOn G (f ++ x ∷ [])
can {A} G f x y more e h =
    let P : List Lexeme → Type 0 = λ l. (a : A) × (s : Size) × G a s l in
    let Q : Lexeme → Type 0 = λ z. CanGoOn G (f ++ z ∷ []) in
    let k = subst P (sym (append_assoc f (y ∷ []) more)) h in
    subst Q (sym e) (more, k.0, k.1, k.2)

both_false : (a b : Bool) → a ≡ false → b ≡ false → (a || b) ≡ false
both_false true b e k = true_false e
both_false false b e k = k

-- after a point, where no column without an alias ends it
no_point : (x : Lexeme) (b : Bool) → (x ≡ sign POINT → b ≡ true → ⊥) → follow_expr b x ≡ false
no_point x b halts = by_test (is_sign POINT x)
    (λ t. by_test b (λ r. absurd (halts (sign_exact POINT x t) r))
    (λ r. ap (λ z. is_sign POINT x && z) r ∙ ap (λ z. z && false) t)) (λ t. ap (λ z. z && b) t)

pub expr_stops : (q : Bool) (e : Tree) (s : Size) (f : List Lexeme) (h : IsExpr q e s f)
    (x : Lexeme) → (CanGoOn (IsExpr q) (f ++ x ∷ []) → ⊥)
    → follow_expr (expr_free q e s f h) x ≡ false
expr_stops q e s f h x halts = no_point x (expr_free q e s f h)
    (λ z r. halts (can (IsExpr q) f x (sign POINT) (word (codes "a") ∷ []) z
    (expr_grows q e s f h r)))

pub cond_stops : (q : Bool) (c : Test) (s : Size) (f : List Lexeme) (h : IsCond q c s f)
    (x : Lexeme) → (CanGoOn (IsCond q) (f ++ x ∷ []) → ⊥)
    → follow_cond (cond_free q c s f h) x ≡ false
cond_stops q c s f h x halts =
    both_false (is_word OR x) _ (by_test (is_word OR x)
    (λ t. absurd (halts (can (IsCond q) f x (word OR) (word TRUE ∷ []) (word_exact OR x t)
    (cond_or q c s f h)))) (λ t. t))
    (both_false (is_word AND x) _ (by_test (is_word AND x)
    (λ t. absurd (halts (can (IsCond q) f x (word AND) (word TRUE ∷ []) (word_exact AND x t)
    (by_last q c s f h and_true (λ d u k i r. conj_and q d u k i))))) (λ t. t))
    (no_point x (cond_free q c s f h) (λ z r.
    halts (can (IsCond q) f x (sign POINT) (word (codes "a") ∷ []) z
    (by_last q c s f h after (λ d u k i r2. conj_grows q d u k i (sym r2 ∙ r)))))))

pub take_next : {A : Type 0} (f : List A) (x : A) (rest : List A)
    → take (length f + 1) (f ++ x ∷ rest) ≡ f ++ x ∷ []
take_next [] x rest = refl
take_next (y ∷ f) x rest = let e : length (y ∷ f) + 1 ≡ suc (length f + 1) = omega arith in
    ap (λ n. take n (y ∷ (f ++ x ∷ rest))) e ∙ ap (λ l. y ∷ l) (take_next f x rest)

pub stops_after : {A : Type 0} (G : Grammar A) (follow : Lexeme → Bool) (f rest : List Lexeme)
    → Ends G (f ++ rest) (length f) → ((x : Lexeme) → (CanGoOn G (f ++ x ∷ []) → ⊥)
    → follow x ≡ false) → Stops follow rest
stops_after G follow f [] ends stops = tt
stops_after G follow f (x ∷ rest) ends stops =
    let P : List Lexeme → Type 0 = λ l. CanGoOn G l in
    stops x (λ h. ends (omega (arith, length-append f (x ∷ rest)))
    (subst P (sym (take_next f x rest)) h))

-- ---- what follows a prefix changes nothing of how it is read

fine_after : {A : Type 0} (d : ℕ) (a : A) (s : Size) (ms : List TokenCounts) (f us : List Lexeme)
    (n : ℕ) → length ms ≡ length f → Fine d a s 0 [] (along d a n ms f)
    → Fine d a s 0 us (along d a n ms (f ++ us))
fine_after d a s [] [] us n e h = (h.0, refl, h.2, h.3)
fine_after d a s [] (x ∷ f) us n e h = absurd (omega (arith, e))
fine_after d a s (m ∷ ms) [] us n e h = absurd (omega (arith, e))
fine_after {A} d a s (m ∷ ms) (x ∷ f) us n e h =
    by_crossed (crossed_by d (n + m.nodes) m) over
    (λ p. subst (Q p) (sym p) (fine_after d a s ms f us (n + m.nodes) (omega (arith, e))
    (subst (P p) p h)))
  where
    P : crossed_by d (n + m.nodes) m ≡ None → Option What → Type 0
    P p o = Fine d a s 0 [] (or_else o n (x ∷ f) (along d a (n + m.nodes) ms f))

    Q : crossed_by d (n + m.nodes) m ≡ None → Option What → Type 0
    Q p o = Fine d a s 0 us (or_else o n (x ∷ (f ++ us)) (along d a (n + m.nodes) ms (f ++ us)))

    over : (w : What) → crossed_by d (n + m.nodes) m ≡ Some w
        → Fine d a s 0 us (along d a n (m ∷ ms) ((x ∷ f) ++ us))
    over w p =
        let R : Option What → Type 0 = λ o. Fine d a s 0 []
        (or_else o n (x ∷ f) (along d a (n + m.nodes) ms f)) in
        let S : Option What → Type 0 = λ o. Fine d a s 0 us
        (or_else o n (x ∷ (f ++ us)) (along d a (n + m.nodes) ms (f ++ us))) in
        subst S (sym p) (let i : Exceeds w 0 d s = subst R p h in i)

-- ---- the longest is read

pub expr_longest : (q : Bool) (e : Tree) (s : Size) (prefix rest ts : List Lexeme)
    → ts ≡ prefix ++ rest → IsExpr q e s prefix → Ends (IsExpr q) ts (length prefix)
    → Fine 32 e s 0 rest ((outermost q).expr 0 ts)
unfolding outermost
expr_longest q e s prefix rest ts w h ends =
    let P : List Lexeme → Type 0 = λ l. Ends (IsExpr q) l (length prefix) in
    let stops : Stops (follow_expr (expr_free q e s prefix h)) rest =
    stops_after (IsExpr q) (follow_expr (expr_free q e s prefix h)) prefix rest (subst P w ends)
    (expr_stops q e s prefix h) in
    let ms : List TokenCounts = expr_counts q e s prefix h in
    let Q : List Lexeme → Type 0 = λ l. Fine 32 e s 0 [] ((outermost q).expr 0 l) in
    let here : Fine 32 e s 0 [] ((outermost q).expr 0 prefix) =
    subst Q (append-nil prefix) ((outermost_correct q).expr.complete 0 (omega arith) e s prefix
    [] h tt) in
    let alone : Fine 32 e s 0 [] (along 32 e 0 ms prefix) =
    subst (Fine 32 e s 0 []) (expr_counted q e s prefix h) here in
    subst (Fine 32 e s 0 rest) (sym (ap ((outermost q).expr 0) w
    ∙ expr_read q e s prefix h 32 0 (omega arith) rest stops))
    (fine_after 32 e s ms prefix rest 0 (expr_length q e s prefix h) alone)

pub cond_longest : (q : Bool) (c : Test) (s : Size) (prefix rest ts : List Lexeme)
    → ts ≡ prefix ++ rest → IsCond q c s prefix → Ends (IsCond q) ts (length prefix)
    → Fine 32 c s 0 rest ((outermost q).cond 0 ts)
unfolding outermost
cond_longest q c s prefix rest ts w h ends =
    let P : List Lexeme → Type 0 = λ l. Ends (IsCond q) l (length prefix) in
    let stops : Stops (follow_cond (cond_free q c s prefix h)) rest =
    stops_after (IsCond q) (follow_cond (cond_free q c s prefix h)) prefix rest (subst P w ends)
    (cond_stops q c s prefix h) in
    let ms : List TokenCounts = cond_counts q c s prefix h in
    let Q : List Lexeme → Type 0 = λ l. Fine 32 c s 0 [] ((outermost q).cond 0 l) in
    let here : Fine 32 c s 0 [] ((outermost q).cond 0 prefix) =
    subst Q (append-nil prefix) ((outermost_correct q).cond.complete 0 (omega arith) c s prefix
    [] h tt) in
    let alone : Fine 32 c s 0 [] (along 32 c 0 ms prefix) =
    subst (Fine 32 c s 0 []) (cond_counted q c s prefix h) here in
    subst (Fine 32 c s 0 rest) (sym (ap ((outermost q).cond 0) w
    ∙ cond_read q c s prefix h 32 0 (omega arith) rest stops))
    (fine_after 32 c s ms prefix rest 0 (cond_length q c s prefix h) alone)
