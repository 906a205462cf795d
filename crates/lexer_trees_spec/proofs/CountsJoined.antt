-- Reading along the token counts of parts joined by one word, and of whatever is in the grammar.
use Rattle.std.proofs.Common.{◌≡◌, ℕ, zero, suc, ◌+◌, ◌-◌, ◌≤◌, Bool, true, false, cond, ◌||◌, List}
use Rattle.std.proofs.Common.{[], ◌∷◌, ◌++◌, length, refl, sym, ap, ◌∙◌, subst, append_assoc}
use Rattle.std.proofs.Common.{append-nil, arith}
use Rattle.prima_base.specs.declared.refusal.What.TheVariants as what
use Rattle.cond_expr.specs.Trees.{Tree, Test, all_of, some_of, a_test}
use Rattle.cond_expr.specs.Seen.{tests_of}
use Rattle.lexer_spec.specs.Lexemes.{Lexeme, word, sign, is_word}
use Rattle.lexer_combinators.specs.Parsing.{Parsed, LimitExceeded, Parser, Stops, Takes, Counts}
use Rattle.lexer_combinators.specs.Parsing.{and_then, bind, pure, map_to, option, more, nodes_more}
use Rattle.lexer_combinators.specs.Parsing.{arm_run}
use Rattle.lexer_combinators.specs.Grammar.{Size}
use Rattle.lexer_trees_spec.specs.Grammar as g
use Rattle.lexer_trees_spec.specs.Grammar.{IsExpr, AreParts, IsFact, AreFacts, IsConj, AreConjs}
use Rattle.lexer_trees_spec.specs.Grammar.{IsCond}
use Rattle.lexer_combinators.specs.TokenCounts.{TokenCounts, plain, node, nodes_in}
use Rattle.lexer_trees_spec.specs.TreeCounts.{expr_counts, part_counts, fact_counts, facts_counts}
use Rattle.lexer_trees_spec.specs.TreeCounts.{conj_counts, conjs_counts, cond_counts}
use Rattle.lexer_trees_spec.specs.Reader.{outermost, level, facts, conj, conjs, cond as whole}
use Rattle.lexer_trees_spec.specs.Reader.{follow_expr, follow_conj, follow_cond}
use Rattle.lexer_combinators.specs.Reads.{sees}
use Rattle.lexer_spec.proofs.Cases.{true_false}
use Rattle.lexer_spec.proofs.LexemeTests.{word_is}
use Rattle.lexer_trees_spec.proofs.Grammar.{AND, OR, CLOSE}
use Rattle.lexer_trees_spec.proofs.TreeSteps.{level_is}
use Rattle.lexer_combinators.proofs.ReadSteps.{option_not}
use Rattle.lexer_combinators.proofs.Counted.{along, bind_along, map_along, plain_along, node_along}
use Rattle.lexer_trees_spec.proofs.Endings.{expr_free, fact_free, facts_free, conj_free, conjs_free}
use Rattle.lexer_trees_spec.proofs.Endings.{cond_free}
use Rattle.lexer_trees_spec.proofs.CountSizes.{expr_length, part_length, fact_length, conj_length}
use Rattle.lexer_trees_spec.proofs.CountSizes.{cond_length, fact_some, conj_some}
use Rattle.lexer_trees_spec.proofs.CountsRead.{at, in_room, ExprRead, PartsRead, FactRead}
use Rattle.lexer_trees_spec.proofs.CountsRead.{FactsRead}
use Rattle.lexer_trees_spec.proofs.CountsRead.{ConjRead, ConjsRead, CondRead, fact_at, conj_at}
use Rattle.lexer_trees_spec.proofs.CountsRead.{int_read, text_read, of_atom_read, of_free_read}
use Rattle.lexer_trees_spec.proofs.CountsRead.{of_alias_read, length_read, concat_read}
use Rattle.lexer_trees_spec.proofs.CountsRead.{no_part_read}
use Rattle.lexer_trees_spec.proofs.CountsRead.{a_part_read, case_read, truth_read, falsehood_read}
use Rattle.lexer_trees_spec.proofs.CountsRead.{not_read, bracket_read, compared_read}

-- parts joined by a word: AND between facts, OR between what AND joins
module _ (w : List ℕ) (make : Test → Test → List Test → Test) (item : Parser Test) (follow : Bool
    → Lexeme → Bool) (no_follow : (b : Bool) → follow b (word w) ≡ false) (d : ℕ) where
  abbrev goes_on : Bool → Lexeme → Bool
  goes_on b x = is_word w x || follow b x

  or_left : (a b : Bool) → (a || b) ≡ false → a ≡ false
  or_left true b e = true_false e
  or_left false b e = refl

  or_right : (a b : Bool) → (a || b) ≡ false → b ≡ false
  or_right true b e = true_false e
  or_right false b e = e

  unseen : (b : Bool) (us : List Lexeme) → Stops (goes_on b) us → sees (is_word w) us ≡ false
  unseen b [] h = refl
  unseen b (x ∷ us) h = or_left (is_word w x) (follow b x) h

  stops_too : (b : Bool) (us : List Lexeme) → Stops (goes_on b) us → Stops (follow b) us
  stops_too b [] h = tt
  stops_too b (x ∷ us) h = or_right (is_word w x) (follow b x) h

  abbrev ItemRead : Bool → Test → List Lexeme → List TokenCounts → Type 0
  ItemRead b c k ms = (n : ℕ) → n ≤ 256 → (us : List Lexeme) → Stops (follow b) us
      → item n (k ++ us) ≡ along d c n ms (k ++ us)

  abbrev MoreRead : Bool → List Test → List Lexeme → List TokenCounts → Type 0
  MoreRead b l k ms = (i n : ℕ) → n ≤ 256 → 257 ≤ n + i → (us : List Lexeme) → Stops (goes_on b) us
      → more (is_word w) what.Nodes item i n (k ++ us) ≡ along d l n ms (k ++ us)

  none_more : (b : Bool) → MoreRead b [] [] []
  unfolding more
  none_more b zero n h e us stops = absurd (omega (arith, h, e))
  none_more b (suc i) n h e us stops = option_not (is_word w)
      (Takes (bind item (λ a. map_to (λ o. a ∷ o) (more (is_word w) what.Nodes item i)))) [] n us
      (unseen b us stops)

  module _ (f b : Bool) (c : Test) (l : List Test) (k m : List Lexeme) (ms ks : List TokenCounts)
      (len : length ms ≡ length k) (some : 1 ≤ nodes_in ms) (first : ItemRead f c k ms)
      (others : MoreRead b l m ks) (between : (us : List Lexeme) → Stops (goes_on b) us
      → Stops (follow f) (m ++ us)) where
    one_more : MoreRead b (c ∷ l) (word w ∷ (k ++ m)) (plain ∷ (ms ++ ks))
    unfolding more
    one_more zero n h e us stops = absurd (omega (arith, h, e))
    one_more (suc i) n h e us stops =
        ap (λ b. cond b (bind item then n ((k ++ m) ++ us))
        (Parsed [] n (word w ∷ ((k ++ m) ++ us)))) (word_is w)
        ∙ at (bind item then n) (along d (c ∷ l) n (ms ++ ks)) ((k ++ m) ++ us) (k ++ (m ++ us))
        (append_assoc k m us)
        (bind_along d item then c (c ∷ l) ms ks k (m ++ us) n h len
        (first n h (m ++ us) (between us stops)) (λ o p z.
        ap (λ r. and_then r (λ a. pure (c ∷ a))) (others i o p (omega (arith, e, z, some)) us stops)
        ∙ map_along d (λ a. c ∷ a) l o ks (m ++ us)))
        ∙ sym (plain_along d (c ∷ l) n h (ms ++ ks) (word w) ((k ++ m) ++ us))
      where
        then : Test → Parser (List Test)
        then a = map_to (λ o. a ∷ o) (more (is_word w) what.Nodes item i)

  -- after the first part
  abbrev then_two : Test → Parser Test
  then_two c = bind item (λ e. map_to (make c e) (nodes_more (is_word w) item))

  abbrev rest_of : Test → Parser Test
  rest_of c = option (is_word w) (Counts (then_two c)) c

  module _ (f : Bool) (c : Test) (k : List Lexeme) (ms : List TokenCounts)
      (len : length ms ≡ length k) (first : ItemRead f c k ms) where
    alone : (n : ℕ) → n ≤ 256 → (us : List Lexeme) → Stops (goes_on f) us
        → bind item rest_of n (k ++ us) ≡ along d c n ms (k ++ us)
    alone n h us stops =
        bind_along d item rest_of c c ms [] k us n h len (first n h us (stops_too f us stops))
        (λ o p z. option_not (is_word w) (Counts (then_two c)) c o us (unseen f us stops))
        ∙ ap (λ l. along d c n l (k ++ us)) (append-nil ms)

    module _ (fe b : Bool) (e : Test) (l : List Test) (m o : List Lexeme) (me ml : List TokenCounts)
        (len_e : length me ≡ length m) (second : ItemRead fe e m me) (others : MoreRead b l o ml)
        (between : (us : List Lexeme) → Stops (goes_on b) us → Stops (follow fe) (o ++ us)) where
      two_parts : (n : ℕ) → n ≤ 256 → (us : List Lexeme) → Stops (goes_on b) us
          → then_two c n (m ++ (o ++ us)) ≡ along d (make c e l) n (me ++ ml) (m ++ (o ++ us))
      unfolding nodes_more
      two_parts n h us stops =
          bind_along d item (λ t. map_to (make c t) (nodes_more (is_word w) item)) e (make c e l) me
          ml m (o ++ us) n h len_e (second n h (o ++ us) (between us stops)) (λ j p z.
          ap (λ r. and_then r (λ a. pure (make c e a)))
          (others (257 - j) j p (omega (arith, p)) us stops)
          ∙ map_along d (make c e) l j ml (o ++ us))

      abbrev tail : List Lexeme → List Lexeme
      tail us = m ++ (o ++ us)

      joined : (n : ℕ) → n ≤ 256 → (us : List Lexeme) → Stops (goes_on b) us
          → bind item rest_of n ((k ++ word w ∷ (m ++ o)) ++ us)
          ≡ along d (make c e l) n (ms ++ node ∷ (me ++ ml)) ((k ++ word w ∷ (m ++ o)) ++ us)
      joined n h us stops =
          at (bind item rest_of n) (along d (make c e l) n (ms ++ node ∷ (me ++ ml)))
          ((k ++ word w ∷ (m ++ o)) ++ us) (k ++ word w ∷ tail us)
          (append_assoc k (word w ∷ (m ++ o)) us ∙ ap (λ u. k ++ word w ∷ u) (append_assoc m o us))
          (bind_along d item rest_of c (make c e l) ms (node ∷ (me ++ ml)) k (word w ∷ tail us) n h
          len (first n h (word w ∷ tail us) (no_follow f)) (λ j p z.
          ap (λ b. cond b (arm_run (Counts (then_two c)) (word w) j (tail us))
          (Parsed c j (word w ∷ tail us))) (word_is w)
          ∙ in_room j (then_two c (j + 1) (tail us))
          (along d (make c e l) (j + 1) (me ++ ml) (tail us))
          (LimitExceeded what.Nodes j (word w ∷ tail us)) (λ i. two_parts (j + 1) i us stops)
          ∙ sym (node_along d (make c e l) j p (me ++ ml) (word w) (tail us))))

-- ---- whatever is in the grammar

abbrev and_all : Test → Test → List Test → Test
and_all c e l = all_of (a_test c (a_test e (tests_of l)))

abbrev or_all : Test → Test → List Test → Test
or_all c e l = some_of (a_test c (a_test e (tests_of l)))

parts_stop : (b q : Bool) (j : ℕ) (l : List Tree) (s : Size) (m : List Lexeme) → AreParts q j l s m
    → (us : List Lexeme) → Stops (follow_expr b) (m ++ sign CLOSE ∷ us)
parts_stop b q j l s m (g.no_part p i) us = refl
parts_stop b q j l s m (g.a_part p i e o u v k n h hl) us = refl

facts_stop : (b q : Bool) (l : List Test) (s : Size) (m : List Lexeme) (h : AreFacts q l s m)
    → (us : List Lexeme) → Stops (follow_conj (facts_free b q l s m h)) us
    → Stops (follow_expr b) (m ++ us)
facts_stop b q l s m (g.no_fact p) us stops =
    stops_too AND and_all (fact_at q 0) follow_expr (λ f. refl) 0 b us stops
facts_stop b q l s m (g.a_fact p c o u v k n h hl) us stops = refl

conjs_stop : (b q : Bool) (l : List Test) (s : Size) (m : List Lexeme) (h : AreConjs q l s m)
    → (us : List Lexeme) → Stops (follow_cond (conjs_free b q l s m h)) us
    → Stops (follow_conj b) (m ++ us)
conjs_stop b q l s m (g.no_conj p) us stops =
    stops_too OR or_all (conj_at q 0) follow_conj (λ f. refl) 0 b us stops
conjs_stop b q l s m (g.a_conj p c o u v k n h hl) us stops = refl

mutual
  unfolding expr_counts conj whole facts conjs

  pub expr_read : (q : Bool) (e : Tree) (s : Size) (f : List Lexeme) (h : IsExpr q e s f)
      → ExprRead q (expr_free q e s f h) e f (expr_counts q e s f h)
  expr_read q e s f (g.an_int p z h) = int_read p z h
  expr_read q e s f (g.a_text p t) = text_read p t
  expr_read q e s f (g.of_atom n h) = of_atom_read n h
  expr_read q e s f (g.of_free n h) = of_free_read n h
  expr_read q e s f (g.of_alias a n h k) = of_alias_read a n h k
  expr_read q e s f (g.a_length p x u k h) = length_read p (expr_free p x u k h) x k
      (expr_counts p x u k h) (expr_length p x u k h) (expr_read p x u k h)
  expr_read q e s f (g.a_concat p x l u v k m h hl) =
      concat_read p (expr_free p x u k h) x l k m (expr_counts p x u k h) (part_counts p 1 l v m hl)
      (expr_length p x u k h) (part_length p 1 l v m hl) (expr_read p x u k h)
      (parts_read p 1 l v m hl) (parts_stop (expr_free p x u k h) p 1 l v m hl)
  expr_read q e s f (g.a_case p c a b u v w k m o hc ha hb) =
      case_read p (cond_free p c u k hc) (expr_free p a v m ha) (expr_free p b w o hb) c a b k m o
      (cond_counts p c u k hc) (expr_counts p a v m ha) (expr_counts p b w o hb)
      (cond_length p c u k hc) (expr_length p a v m ha) (expr_length p b w o hb)
      (cond_read p c u k hc) (expr_read p a v m ha) (expr_read p b w o hb)

  parts_read : (q : Bool) (j : ℕ) (l : List Tree) (s : Size) (f : List Lexeme)
      (h : AreParts q j l s f) → PartsRead q j l f (part_counts q j l s f h)
  parts_read q j l s f (g.no_part p i) = no_part_read p i
  parts_read q j l s f (g.a_part p i e others u v k m h hl) =
      a_part_read p (expr_free p e u k h) i e others k m (expr_counts p e u k h)
      (part_counts p (i + 1) others v m hl) (expr_length p e u k h) (expr_read p e u k h)
      (parts_read p (i + 1) others v m hl)
      (parts_stop (expr_free p e u k h) p (i + 1) others v m hl)

  fact_read : (q : Bool) (c : Test) (s : Size) (f : List Lexeme) (h : IsFact q c s f)
      → FactRead q (fact_free q c s f h) c f (fact_counts q c s f h)
  fact_read q c s f (g.negated p d u k h) = not_read p (fact_free p d u k h) d k
      (fact_counts p d u k h) (fact_read p d u k h)
  fact_read q c s f (g.bracketed p d u k h) =
      bracket_read p (cond_free p d u k h) d k (cond_counts p d u k h) (cond_length p d u k h)
      (cond_read p d u k h)
  fact_read q c s f (g.truth p) = truth_read p
  fact_read q c s f (g.falsehood p) = falsehood_read p
  fact_read q c s f (g.comparison p o a b u v k m ha hb) =
      compared_read p (expr_free p a u k ha) (expr_free p b v m hb) o a b u k m
      (expr_counts p a u k ha) (expr_counts p b v m hb) (expr_length p a u k ha) ha
      (expr_read p a u k ha) (expr_read p b v m hb)

  facts_read : (b q : Bool) (l : List Test) (s : Size) (f : List Lexeme) (h : AreFacts q l s f)
      → FactsRead q (facts_free b q l s f h) l f (facts_counts q l s f h)
  facts_read b q l s f (g.no_fact p) d = none_more AND and_all (fact_at p d) follow_expr (λ x. refl)
      d b
  facts_read b q l s f (g.a_fact p c others u v k m h hl) d =
      let e : Bool = fact_free p c u k h in
      one_more AND and_all (fact_at p d) follow_expr (λ x. refl) d e (facts_free e p others v m hl)
      c others k m (fact_counts p c u k h) (facts_counts p others v m hl)
      (fact_length p c u k h) (fact_some p c u k h) (fact_read p c u k h d)
      (facts_read e p others v m hl d) (facts_stop e p others v m hl)

  conj_read : (q : Bool) (c : Test) (s : Size) (f : List Lexeme) (h : IsConj q c s f)
      → ConjRead q (conj_free q c s f h) c f (conj_counts q c s f h)
  conj_read q c s f (g.one_fact p e u k h) d =
      alone AND and_all (fact_at p d) follow_expr (λ x. refl) d (fact_free p e u k h) e k
      (fact_counts p e u k h) (fact_length p e u k h) (fact_read p e u k h d)
  conj_read q c s f (g.an_and p a e l u v w k m o ha he hl) d =
      let b : Bool = fact_free p e v m he in
      joined AND and_all (fact_at p d) follow_expr (λ x. refl) d (fact_free p a u k ha) a k
      (fact_counts p a u k ha) (fact_length p a u k ha) (fact_read p a u k ha d) b
      (facts_free b p l w o hl) e l m o
      (fact_counts p e v m he) (facts_counts p l w o hl) (fact_length p e v m he)
      (fact_read p e v m he d) (facts_read b p l w o hl d) (facts_stop b p l w o hl)

  conjs_read : (b q : Bool) (l : List Test) (s : Size) (f : List Lexeme) (h : AreConjs q l s f)
      → ConjsRead q (conjs_free b q l s f h) l f (conjs_counts q l s f h)
  conjs_read b q l s f (g.no_conj p) d = none_more OR or_all (conj_at p d) follow_conj (λ x. refl) d
      b
  conjs_read b q l s f (g.a_conj p c others u v k m h hl) d =
      let e : Bool = conj_free p c u k h in
      one_more OR or_all (conj_at p d) follow_conj (λ x. refl) d e (conjs_free e p others v m hl) c
      others k m (conj_counts p c u k h) (conjs_counts p others v m hl) (conj_length p c u k h)
      (conj_some p c u k h) (conj_read p c u k h d) (conjs_read e p others v m hl d)
      (conjs_stop e p others v m hl)

  pub cond_read : (q : Bool) (c : Test) (s : Size) (f : List Lexeme) (h : IsCond q c s f)
      → CondRead q (cond_free q c s f h) c f (cond_counts q c s f h)
  cond_read q c s f (g.one_conj p e u k h) d n few us stops =
      ap (λ L. L.cond n (k ++ us)) (level_is p d)
      ∙ alone OR or_all (conj_at p d) follow_conj (λ x. refl) d (conj_free p e u k h) e k
      (conj_counts p e u k h) (conj_length p e u k h) (conj_read p e u k h d) n few us stops
  cond_read q c s f (g.an_or p a e l u v w k m o ha he hl) d n few us stops =
      let b : Bool = conj_free p e v m he in
      ap (λ L. L.cond n ((k ++ word OR ∷ (m ++ o)) ++ us)) (level_is p d)
      ∙ joined OR or_all (conj_at p d) follow_conj (λ x. refl) d (conj_free p a u k ha) a k
      (conj_counts p a u k ha) (conj_length p a u k ha) (conj_read p a u k ha d) b
      (conjs_free b p l w o hl) e l m o
      (conj_counts p e v m he) (conjs_counts p l w o hl) (conj_length p e v m he)
      (conj_read p e v m he d) (conjs_read b p l w o hl d) (conjs_stop b p l w o hl) n few us
      stops

-- from the outermost level on
pub expr_counted : (q : Bool) (e : Tree) (s : Size) (f : List Lexeme) (h : IsExpr q e s f)
    → (outermost q).expr 0 f ≡ along 32 e 0 (expr_counts q e s f h) f
unfolding outermost
expr_counted q e s f h = let P : List Lexeme → Type 0 = λ l.
    (level q 32).expr 0 l ≡ along 32 e 0 (expr_counts q e s f h) l in
    subst P (append-nil f) (expr_read q e s f h 32 0 (omega arith) [] tt)

pub cond_counted : (q : Bool) (c : Test) (s : Size) (f : List Lexeme) (h : IsCond q c s f)
    → (outermost q).cond 0 f ≡ along 32 c 0 (cond_counts q c s f h) f
unfolding outermost
cond_counted q c s f h = let P : List Lexeme → Type 0 = λ l.
    (level q 32).cond 0 l ≡ along 32 c 0 (cond_counts q c s f h) l in
    subst P (append-nil f) (cond_read q c s f h 32 0 (omega arith) [] tt)
