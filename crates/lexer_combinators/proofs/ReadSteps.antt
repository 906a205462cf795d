-- One step of reading, as the code takes it.
use Rattle.std.proofs.Common.{◌≡◌, ℕ, zero, suc, ◌+◌, ◌-◌, ◌<◌, Bool, true, false, cond, is_some}
use Rattle.std.proofs.Common.{Option, Some, None, List, [], ◌∷◌, ◌++◌, length, drop, refl, sym, ap}
use Rattle.std.proofs.Common.{◌∙◌, append_assoc, append-nil, arith}
use Rattle.prima_base.specs.declared.refusal.What.{What}
use Rattle.prima_base.specs.declared.refusal.What.TheVariants as what
use Rattle.lexer_spec.specs.Lexemes.{Lexeme}
use Rattle.lexer_combinators.specs.Parsing.{Out, Parsed, Unexpected, LimitExceeded, Parser, Arm}
use Rattle.lexer_combinators.specs.Parsing.{No, Takes, Counts, Refuses, Fills, arm_run, has_room}
use Rattle.lexer_combinators.specs.Parsing.{and_then, bind, pure, map_to, lead, option, pick}
use Rattle.lexer_combinators.specs.Parsing.{choose, more, set_back, single, single_arm, said_or}
use Rattle.lexer_combinators.specs.Parsing.{maybe, prepend}
use Rattle.lexer_combinators.specs.declared.cursor.Stop.{Stop}
use Rattle.lexer_combinators.specs.declared.cursor.Stop.TheVariants as stop
use Rattle.lexer_combinators.specs.declared.cursor.Cursor.{Cursor}
use Rattle.lexer_combinators.specs.Reads.{ahead, sees, Fails}
use Rattle.lexer_spec.proofs.Cases.{true_false}

-- a test, an arm and the others
pub choose_no : {A : Type 0} (is : Lexeme → Bool) (r : Arm A) (others : Lexeme → Arm A) (n : ℕ)
    (ts : List Lexeme) → sees is ts ≡ false → choose (λ x. cond (is x) r (others x)) n ts
    ≡ choose others n ts
choose_no is r others n [] e = refl
choose_no is r others n (x ∷ ts) e = ap (λ b. arm_run (cond b r (others x)) x n ts) e

pub choose_takes : {A : Type 0} (is : Lexeme → Bool) (p : Parser A) (others : Lexeme → Arm A)
    (n : ℕ) (ts : List Lexeme) → sees is ts ≡ true
    → choose (λ x. cond (is x) (Takes p) (others x)) n ts ≡ p n (drop 1 ts)
choose_takes is p others n [] e = true_false (sym e)
choose_takes is p others n (x ∷ ts) e = ap (λ b. arm_run (cond b (Takes p) (others x)) x n ts) e

pub choose_counts : {A : Type 0} (is : Lexeme → Bool) (p : Parser A) (others : Lexeme → Arm A)
    (n : ℕ) (ts : List Lexeme) → sees is ts ≡ true → has_room n ≡ true
    → choose (λ x. cond (is x) (Counts p) (others x)) n ts ≡ p (n + 1) (drop 1 ts)
choose_counts is p others n [] e r = true_false (sym e)
choose_counts is p others n (x ∷ ts) e r = ap (λ b. arm_run (cond b (Counts p) (others x)) x n ts) e
    ∙ ap (λ b. cond b (p (n + 1) ts) (LimitExceeded what.Nodes n (x ∷ ts))) r

pub choose_full : {A : Type 0} (is : Lexeme → Bool) (p : Parser A) (others : Lexeme → Arm A) (n : ℕ)
    (ts : List Lexeme) → sees is ts ≡ true → has_room n ≡ false
    → choose (λ x. cond (is x) (Counts p) (others x)) n ts ≡ LimitExceeded what.Nodes n ts
choose_full is p others n [] e r = true_false (sym e)
choose_full is p others n (x ∷ ts) e r = ap (λ b. arm_run (cond b (Counts p) (others x)) x n ts) e
    ∙ ap (λ b. cond b (p (n + 1) ts) (LimitExceeded what.Nodes n (x ∷ ts))) r

pub choose_refuses : {A : Type 0} (is : Lexeme → Bool) (w : What) (others : Lexeme → Arm A) (n : ℕ)
    (ts : List Lexeme) → sees is ts ≡ true → choose (λ x. cond (is x) (Refuses w) (others x)) n ts
    ≡ LimitExceeded w n ts
choose_refuses is w others n [] e = true_false (sym e)
choose_refuses is w others n (x ∷ ts) e = ap (λ b. arm_run (cond b (Refuses w) (others x)) x n ts) e

pub choose_deep : {A : Type 0} (is : Lexeme → Bool) (w : What) (others : Lexeme → Arm A) (n : ℕ)
    (ts : List Lexeme) → sees is ts ≡ true → has_room n ≡ true
    → choose (λ x. cond (is x) (Fills w) (others x)) n ts ≡ LimitExceeded w n ts
choose_deep is w others n [] e r = true_false (sym e)
choose_deep is w others n (x ∷ ts) e r = ap (λ b. arm_run (cond b (Fills w) (others x)) x n ts) e
    ∙ ap (λ b. cond b (LimitExceeded w n (x ∷ ts)) (LimitExceeded what.Nodes n (x ∷ ts))) r

pub choose_deep_full : {A : Type 0} (is : Lexeme → Bool) (w : What) (others : Lexeme → Arm A)
    (n : ℕ) (ts : List Lexeme) → sees is ts ≡ true → has_room n ≡ false
    → choose (λ x. cond (is x) (Fills w) (others x)) n ts ≡ LimitExceeded what.Nodes n ts
choose_deep_full is w others n [] e r = true_false (sym e)
choose_deep_full is w others n (x ∷ ts) e r =
    ap (λ b. arm_run (cond b (Fills w) (others x)) x n ts) e
    ∙ ap (λ b. cond b (LimitExceeded w n (x ∷ ts)) (LimitExceeded what.Nodes n (x ∷ ts))) r

no_arm : {A : Type 0} (n : ℕ) (ts : List Lexeme) → choose {A = A} (λ x. No) n ts ≡ Unexpected n ts
no_arm n [] = refl
no_arm n (x ∷ ts) = refl

pub lead_seen : {A : Type 0} (is : Lexeme → Bool) (p : Parser A) (n : ℕ) (ts : List Lexeme)
    → sees is ts ≡ true → lead is p n ts ≡ p n (drop 1 ts)
lead_seen is p n ts e = choose_takes is p (λ x. No) n ts e

pub lead_not : {A : Type 0} (is : Lexeme → Bool) (p : Parser A) (n : ℕ) (ts : List Lexeme)
    → sees is ts ≡ false → lead is p n ts ≡ Unexpected n ts
lead_not is p n ts e = choose_no is (Takes p) (λ x. No) n ts e ∙ no_arm n ts

pub pick_not : {A : Type 0} (is : Lexeme → Bool) (r : Arm A) (n : ℕ) (ts : List Lexeme)
    → sees is ts ≡ false → pick is r n ts ≡ Unexpected n ts
pick_not is r n ts e = choose_no is r (λ x. No) n ts e ∙ no_arm n ts

pub option_not : {A : Type 0} (is : Lexeme → Bool) (r : Arm A) (v : A) (n : ℕ) (ts : List Lexeme)
    → sees is ts ≡ false → option is r v n ts ≡ Parsed v n ts
option_not is r v n [] e = refl
option_not is r v n (x ∷ ts) e = ap (λ b. cond b (arm_run r x n ts) (Parsed v n (x ∷ ts))) e

pub option_counts : {A : Type 0} (is : Lexeme → Bool) (p : Parser A) (v : A) (n : ℕ)
    (ts : List Lexeme) → sees is ts ≡ true → has_room n ≡ true
    → option is (Counts p) v n ts ≡ p (n + 1) (drop 1 ts)
option_counts is p v n [] e r = true_false (sym e)
option_counts is p v n (x ∷ ts) e r = ap (λ b.
    cond b (arm_run (Counts p) x n ts) (Parsed v n (x ∷ ts))) e
    ∙ ap (λ b. cond b (p (n + 1) ts) (LimitExceeded what.Nodes n (x ∷ ts))) r

pub option_full : {A : Type 0} (is : Lexeme → Bool) (p : Parser A) (v : A) (n : ℕ)
    (ts : List Lexeme) → sees is ts ≡ true → has_room n ≡ false
    → option is (Counts p) v n ts ≡ LimitExceeded what.Nodes n ts
option_full is p v n [] e r = true_false (sym e)
option_full is p v n (x ∷ ts) e r = ap (λ b. cond b (arm_run (Counts p) x n ts)
    (Parsed v n (x ∷ ts))) e ∙ ap (λ b. cond b (p (n + 1) ts) (LimitExceeded what.Nodes n (x ∷ ts)))
    r

pub option_takes : {A : Type 0} (is : Lexeme → Bool) (p : Parser A) (v : A) (n : ℕ)
    (ts : List Lexeme) → sees is ts ≡ true → option is (Takes p) v n ts ≡ p n (drop 1 ts)
option_takes is p v n [] e = true_false (sym e)
option_takes is p v n (x ∷ ts) e = ap (λ b. cond b (arm_run (Takes p) x n ts) (Parsed v n (x ∷ ts)))
    e

pub option_refuses : {A : Type 0} (is : Lexeme → Bool) (w : What) (v : A) (n : ℕ) (ts : List Lexeme)
    → sees is ts ≡ true → option is (Refuses w) v n ts ≡ LimitExceeded w n ts
option_refuses is w v n [] e = true_false (sym e)
option_refuses is w v n (x ∷ ts) e = ap (λ b.
    cond b (arm_run (Refuses w) x n ts) (Parsed v n (x ∷ ts))) e

-- a value that the next lexeme says, or one that takes none
pub maybe_not : {A : Type 0} (says : Lexeme → Option A) (v : A) (n : ℕ) (ts : List Lexeme)
    → sees (λ x. is_some (says x)) ts ≡ false → maybe says v n ts ≡ Parsed v n ts
maybe_not says v n [] e = refl
maybe_not {A} says v n (x ∷ ts) e = by_said (says x) e
  where
    by_said : (o : Option A) → is_some o ≡ false → said_or o v x n ts ≡ Parsed v n (x ∷ ts)
    by_said None e = refl
    by_said (Some a) e = true_false e

pub maybe_says : {A : Type 0} (says : Lexeme → Option A) (v : A) (n : ℕ) (ts : List Lexeme)
    → sees (λ x. is_some (says x)) ts ≡ true → maybe says v n ts ≡ single says n ts
maybe_says says v n [] e = true_false (sym e)
maybe_says {A} says v n (x ∷ ts) e = by_said (says x) e
  where
    by_said : (o : Option A) → is_some o ≡ true → said_or o v x n ts ≡ arm_run (single_arm o) x n ts
    by_said None e = true_false (sym e)
    by_said (Some a) e = refl

pub some_left : (is : Lexeme → Bool) (ts : List Lexeme) → sees is ts ≡ true → 0 < length ts
some_left is [] e = true_false (sym e)
some_left is (x ∷ ts) e = omega arith

pub got_at : {A : Type 0} (a : A) (n m : ℕ) (l r : List Lexeme) → m ≡ n → r ≡ l
    → Parsed a n l ≡ Parsed a m r
got_at a n m l r e f = sym (ap (λ k. Parsed a k r) e ∙ ap (λ u. Parsed a n u) f)

-- ---- counts of its own

pub fresh_fails : {A : Type 0} (o : Out A) (n : ℕ) (e : Stop) (old new : Cursor)
    → ahead new ≡ ahead old → new.nodes ≡ n → Fails o e old → Fails (set_back n o) e new
fresh_fails o n stop.NoMemory old new a k f = tt
fresh_fails o n stop.Unexpected old new a k f = ap (set_back n) f ∙ ap (Unexpected n) (sym a)
    ∙ ap (λ m. Unexpected m (ahead new)) (sym k)
fresh_fails o n (stop.TooMany w) old new a k f = ap (set_back n) f ∙ ap (LimitExceeded w n) (sym a)
    ∙ ap (λ m. LimitExceeded w m (ahead new)) (sym k)

-- ---- after a skipped lexeme

pub after : {A : Type 0} (p : Parser A) (o : Out A) (n m : ℕ) (ts us : List Lexeme) → m ≡ n
    → us ≡ drop 1 ts → p m us ≡ o → p n (drop 1 ts) ≡ o
after p o n m ts us e f h = ap (λ k. p k (drop 1 ts)) (sym e) ∙ ap (p m) (sym f) ∙ h

pub after_fails : {A : Type 0} (p : Parser A) (e : Stop) (cur : Cursor) (n m : ℕ)
    (ts us : List Lexeme) → m ≡ n → us ≡ drop 1 ts → Fails (p m us) e cur
    → Fails (p n (drop 1 ts)) e cur
after_fails p e cur n m ts us f g h = rw (← f, ← g) h

-- ---- the turns of a loop that reads more items: o is the whole list's outcome

pub prepend_none : {A : Type 0} (o : Out (List A)) → o ≡ prepend [] o
prepend_none (Parsed l n r) = refl
prepend_none (Unexpected n r) = refl
prepend_none (LimitExceeded w n r) = refl

pub prepend_twice : {A : Type 0} (f h : List A) (o : Out (List A))
    → prepend f (prepend h o) ≡ prepend (f ++ h) o
prepend_twice f h (Parsed l n r) = ap (λ x. Parsed x n r) (sym (append_assoc f h l))
prepend_twice f h (Unexpected n r) = refl
prepend_twice f h (LimitExceeded w n r) = refl

pub as_prepend : {A : Type 0} (a : A) (o : Out (List A))
    → and_then o (λ l. pure (a ∷ l)) ≡ prepend (a ∷ []) o
as_prepend a (Parsed l n r) = refl
as_prepend a (Unexpected n r) = refl
as_prepend a (LimitExceeded w n r) = refl

module _ {A : Type 0} (is : Lexeme → Bool) (w : What) (item : Parser A) where
  more_not : (k n : ℕ) (ts : List Lexeme) → sees is ts ≡ false
      → more is w item k n ts ≡ Parsed [] n ts
  unfolding more
  more_not zero n ts h = option_not is (Refuses w) [] n ts h
  more_not (suc k) n ts h = option_not is (Takes
      (bind item (λ a. map_to (λ others. a ∷ others) (more is w item k)))) [] n ts h

  more_over : (k n : ℕ) (ts : List Lexeme) → k ≡ 0 → sees is ts ≡ true
      → more is w item k n ts ≡ LimitExceeded w n ts
  unfolding more
  more_over zero n ts z e = option_refuses is w [] n ts e
  more_over (suc k) n ts z e = absurd (omega (arith, z))

  more_step : (k n : ℕ) (ts : List Lexeme) → 0 < k → sees is ts ≡ true
      → more is w item k n ts ≡ and_then (item n (drop 1 ts))
      (λ a. map_to (λ others. a ∷ others) (more is w item (k - 1)))
  unfolding more
  more_step zero n ts h e = absurd (omega arith)
  more_step (suc k) n ts h e = option_takes is
      (bind item (λ a. map_to (λ others. a ∷ others) (more is w item k))) [] n ts e
      ∙ ap (λ j. and_then (item n (drop 1 ts))
      (λ a. map_to (λ others. a ∷ others) (more is w item j))) (omega arith)

  module _ (o : Out (List A)) (done : List A) (k n : ℕ) (ts : List Lexeme)
      (so_far : o ≡ prepend done (more is w item k n ts)) where
    pub more_done : sees is ts ≡ false → o ≡ Parsed done n ts
    more_done h = so_far ∙ ap (prepend done) (more_not k n ts h)
        ∙ ap (λ l. Parsed l n ts) (append-nil done)

    pub more_next : (a : A) (m : ℕ) (r : List Lexeme) → 0 < k → sees is ts ≡ true
        → item n (drop 1 ts) ≡ Parsed a m r → o
        ≡ prepend (done ++ a ∷ []) (more is w item (k - 1) m r)
    more_next a m r h e i = so_far ∙ ap (prepend done)
        (more_step k n ts h e ∙ ap (λ z. and_then z
        (λ a. map_to (λ others. a ∷ others) (more is w item (k - 1)))) i
        ∙ as_prepend a (more is w item (k - 1) m r))
        ∙ prepend_twice done (a ∷ []) (more is w item (k - 1) m r)

    pub more_full : k ≡ 0 → sees is ts ≡ true → o ≡ LimitExceeded w n ts
    more_full z e = so_far ∙ ap (prepend done) (more_over k n ts z e)

    pub more_err : (e : Stop) (cur : Cursor) → 0 < k → sees is ts ≡ true
        → Fails (item n (drop 1 ts)) e cur → Fails o e cur
    more_err stop.NoMemory cur h e f = tt
    more_err stop.Unexpected cur h e f = so_far
        ∙ ap (prepend done) (more_step k n ts h e
        ∙ ap (λ z. and_then z (λ a. map_to (λ others. a ∷ others) (more is w item (k - 1)))) f)
    more_err (stop.TooMany v) cur h e f = so_far
        ∙ ap (prepend done) (more_step k n ts h e
        ∙ ap (λ z. and_then z (λ a. map_to (λ others. a ∷ others) (more is w item (k - 1)))) f)
