-- A reader that is never stuck right after a whole text reads the longest one.
use Rattle.std.proofs.Common.{◌≡◌, ℕ, suc, ◌+◌, ◌<◌, ◌≤◌, Bool, true, false, cond, ◌||◌, zero}
use Rattle.std.proofs.Common.{Option, Some, None, List, [], ◌∷◌, ◌++◌, ◌⊎◌, length, take, inl, inr}
use Rattle.std.proofs.Common.{refl, sym, ap, ◌∙◌, subst, append_assoc, append-nil, arith}
use Rattle.std.proofs.Common.{length-append}
use Rattle.prima_base.specs.declared.refusal.What.{What}
use Rattle.lexer_spec.specs.Lexemes.{Lexeme}
use Rattle.lexer_combinators.specs.Parsing.{Out, Parsed, Unexpected, LimitExceeded, Parser}
use Rattle.lexer_combinators.specs.Parsing.{CanGoOn, IsCorrectParser, Explains, Fine, Valid}
use Rattle.lexer_combinators.specs.Parsing.{Exceeds, Same, Stops, No, Takes, Refuses, limit}
use Rattle.lexer_combinators.specs.Parsing.{and_then, arm_run, bind, pure, lead, map_to, option}
use Rattle.lexer_combinators.specs.Parsing.{more, single, single_arm, said_or, maybe, fresh}
use Rattle.lexer_combinators.specs.Parsing.{set_back}
use Rattle.lexer_combinators.specs.Grammar.{Size, both, Grammar, AreMore, so_wide}
use Rattle.lexer_combinators.specs.Grammar as grammar
use Rattle.lexer_combinators.specs.Found.{Ends}
use Rattle.lexer_combinators.proofs.AlongParts.{within_none}
use Rattle.lexer_combinators.proofs.Parsing.{more_correct, map_correct, side}
use Rattle.lexer_combinators.proofs.ReadSteps.{option_not, option_takes, option_refuses}

-- right after a whole text it is not stuck
abbrev pub StuckNowhere : {A : Type 0} → Parser A → Grammar A → Type 0
StuckNowhere {A} p G = (n : ℕ) (a : A) (s : Size) (prefix rest : List Lexeme) → G a s prefix
    → (c : ℕ) → p n (prefix ++ rest) ≡ Unexpected c rest → ⊥

-- ---- two partings of one list

abbrev Longer : {A : Type 0} → List A → List A → List A → List A → Type 0
Longer {A} f us g vs = (d : List A) × (g ≡ f ++ d) × (us ≡ d ++ vs)

abbrev Shorter : {A : Type 0} → List A → List A → List A → List A → Type 0
Shorter {A} f us g vs = (z : A) × (d : List A) × (f ≡ g ++ z ∷ d) × (vs ≡ z ∷ (d ++ us))

parted : {A : Type 0} (f us g vs : List A) → f ++ us ≡ g ++ vs → Longer f us g vs
    ⊎ Shorter f us g vs
parted [] us g vs e = inl (g, refl, e)
parted (x ∷ f) us [] vs e = inr (x, f, refl, sym e)
parted (x ∷ f) us (y ∷ g) vs e = both_first (parted f us g vs (let t : f ++ us ≡ g ++ vs = cc in t))
  where
    same : x ≡ y
    same = cc

    both_first : Longer f us g vs ⊎ Shorter f us g vs → Longer (x ∷ f) us (y ∷ g) vs
        ⊎ Shorter (x ∷ f) us (y ∷ g) vs
    both_first (inl h) = inl (h.0, ap (λ v. v ∷ g) (sym same) ∙ ap (λ l. x ∷ l) h.1, h.2)
    both_first (inr h) = inr (
      h.0,
      h.1,
      ap (λ l. x ∷ l) h.2 ∙ ap (λ v. v ∷ (g ++ h.0 ∷ h.1)) same,
      h.3,
    )

-- ---- what a good reader says of a whole text

module _ {A : Type 0} (p : Parser A) (G : A → Size → List Lexeme → Type 0) (follow : Lexeme → Bool)
    (correct : IsCorrectParser 0 32 p G follow) (n : ℕ) where
  explained : (ts : List Lexeme) (o : Out A) → p n ts ≡ o → Explains 32 (p n) G n ts o
  explained ts o e = let P : Out A → Type 0 = λ o. Explains 32 (p n) G n ts o in
      subst P e (correct.explains n (omega arith) ts)

  -- alone it is read, or is too much
  alone : (a : A) (s : Size) (f : List Lexeme) → G a s f → (o : Out A) → p n f ≡ o
      → Fine 32 a s n [] o
  alone a s f g o e =
      let P : List Lexeme → Type 0 = λ l. Fine 32 a s n [] (p n l) in
      subst (Fine 32 a s n []) e (subst P (append-nil f)
      (correct.complete n (omega arith) a s f [] g tt))

  -- with the lexeme at which it is stuck nothing goes on
  pub stuck_ends : (c : ℕ) (prefix : List Lexeme) (x : Lexeme) (rest : List Lexeme)
      → p n (prefix ++ x ∷ rest) ≡ Unexpected c (x ∷ rest) → CanGoOn G (prefix ++ x ∷ []) → ⊥
  stuck_ends c prefix x rest e h = at (parted prefix (x ∷ rest) k.0 (x ∷ rest) k.1)
    where
      k : Explains 32 (p n) G n (prefix ++ x ∷ rest) (Unexpected c (x ∷ rest))
      k = explained (prefix ++ x ∷ rest) (Unexpected c (x ∷ rest)) e

      on : k.0 ≡ prefix → ⊥
      on same =
          let whole : (prefix ++ x ∷ []) ++ h.0 ≡ prefix ++ x ∷ h.0 =
          append_assoc prefix (x ∷ []) h.0 in
          alone h.1 h.2 ((prefix ++ x ∷ []) ++ h.0) h.3 (Unexpected c (x ∷ h.0))
          (ap (p n) whole ∙ ap (λ l. p n (l ++ x ∷ h.0)) (sym same) ∙ k.3 h.0)

      at : Longer prefix (x ∷ rest) k.0 (x ∷ rest) ⊎ Shorter prefix (x ∷ rest) k.0 (x ∷ rest) → ⊥
      at (inl ([], e, f)) = on (e ∙ append-nil prefix)
      at (inl (y ∷ d, e, f)) = omega (arith, ap length f, length-append (y ∷ d) (x ∷ rest))
      at (inr (z, d, e, f)) = omega (arith, ap length f, length-append d (x ∷ rest))

  -- what was read of a text that stands before a rest, and leaves no less than the rest, is this
  -- text
  read_alone : (a : A) (s : Size) (f rest : List Lexeme) → G a s f
      → (b : A) (m : ℕ) (d r : List Lexeme) → r ≡ d ++ rest → p n (f ++ rest) ≡ Parsed b m r
      → Fine 32 a s n rest (Parsed b m r)
  read_alone a s f rest g b m d r left e = by_prefix d left
    where
      k : Explains 32 (p n) G n (f ++ rest) (Parsed b m r)
      k = explained (f ++ rest) (Parsed b m r) e

      -- all of it
      whole : k.0 ≡ f → r ≡ rest → (o : Out A) → p n f ≡ o → Fine 32 a s n rest (Parsed b m r)
      whole same t (Parsed c j u) q =
          let here = alone a s f g (Parsed c j u) q in
          let P : List Lexeme → Type 0 = λ l. G b k.1 l in
          let there = alone b k.1 f (subst P same k.3) (Parsed c j u) q in
          (sym there.0 ∙ here.0, t, omega (arith, here.2, there.2, k.4), here.3)
      whole same t (Unexpected c u) q = absurd (alone a s f g (Unexpected c u) q)
      whole same t (LimitExceeded w c u) q = over (explained f (LimitExceeded w c u) q)
        where
          over : Explains 32 (p n) G n f (LimitExceeded w c u) → Fine 32 a s n rest (Parsed b m r)
          over x = at u x
            where
              at : (u : List Lexeme) → Explains 32 (p n) G n f (LimitExceeded w c u)
                  → Fine 32 a s n rest (Parsed b m r)
              at [] x = absurd x.2
              at (z ∷ v) x =
                  let here : p n (f ++ rest) ≡ LimitExceeded w c (z ∷ (v ++ rest)) =
                  ap (λ l. p n (l ++ rest)) x.1 ∙ ap (p n) (append_assoc x.0 (z ∷ v) rest)
                  ∙ x.3 (v ++ rest) in
                  let clash : Parsed b m r ≡ LimitExceeded w c (z ∷ (v ++ rest)) = sym e ∙ here in
                  cc

      by_prefix : (d : List Lexeme) → r ≡ d ++ rest → Fine 32 a s n rest (Parsed b m r)
      by_prefix [] t = whole (sym (same_end f k.0 (k.2 ∙ ap (λ l. k.0 ++ l) t))) t (p n f) refl
        where
          same_end : (f g : List Lexeme) → f ++ rest ≡ g ++ rest → f ≡ g
          same_end [] [] e = refl
          same_end [] (y ∷ g) e = absurd (omega (arith, ap length e, length-append g rest))
          same_end (x ∷ f) [] e = absurd (omega (arith, ap length e, length-append f rest))
          same_end (x ∷ f) (y ∷ g) e = let z : x ≡ y = cc in let t : f ++ rest ≡ g ++ rest = cc in
              ap (λ v. v ∷ f) z ∙ ap (λ l. y ∷ l) (same_end f g t)
      by_prefix (z ∷ d) t = absurd (at (parted f rest k.0 (z ∷ (d ++ rest))
          (k.2 ∙ ap (λ l. k.0 ++ l) t)))
        where
          at : Longer f rest k.0 (z ∷ (d ++ rest)) ⊎ Shorter f rest k.0 (z ∷ (d ++ rest)) → ⊥
          at (inl h) = omega (
            arith,
            ap length h.2,
            length-append h.0 (z ∷ (d ++ rest)),
            length-append d rest,
          )
          at (inr h) =
              let P : List Lexeme → Type 0 = λ l. Same (p n) k.0 l (Parsed b m) in
              let same : Same (p n) k.0 (z ∷ (d ++ rest)) (Parsed b m) = subst P t k.7 in
              let first : z ≡ h.0 = let q = h.3 in cc in
              let Q : Lexeme → Type 0 = λ y. f ≡ k.0 ++ y ∷ h.1 in
              let short : p n f ≡ Parsed b m (z ∷ h.1) = ap (p n) (subst Q (sym first) h.2)
              ∙ same h.1 in
              let q = (alone a s f g (Parsed b m (z ∷ h.1)) short).1 in
              cc

-- ---- it composes

pub pure_nowhere : {A : Type 0} (v : A) → StuckNowhere (pure v) (grammar.pure v)
pure_nowhere v n a s f rest h c e = cc

pub single_nowhere : {A : Type 0} (says : Lexeme → Option A)
    → StuckNowhere (single says) (grammar.single says)
single_nowhere {A} says n a s f rest h c e =
    let read : single says n (f ++ rest) ≡ Parsed a n rest = ap (λ l. single says n (l ++ rest)) h.3
    ∙ ap (λ o. arm_run (single_arm o) h.0 n rest) h.1 in
    let clash : ◌≡◌ {A = Out A} (Parsed a n rest) (Unexpected c rest) = sym read ∙ e in
    cc

pub maybe_nowhere : {A : Type 0} (says : Lexeme → Option A) (v : A)
    → StuckNowhere (maybe says v) (grammar.maybe says v)
maybe_nowhere {A} says v n a s f rest h c e = never (f ++ rest) e
  where
    by_said : (o : Option A) (x : Lexeme) (ts : List Lexeme)
        → said_or o v x n ts ≡ Unexpected c rest → ⊥
    by_said None x ts e = cc
    by_said (Some b) x ts e = cc

    never : (ts : List Lexeme) → maybe says v n ts ≡ Unexpected c rest → ⊥
    never [] e = cc
    never (x ∷ ts) e = by_said (says x) x ts e

-- after its first lexeme it is another reader
pub after_nowhere : {A : Type 0} (p q : Parser A) (x : Lexeme)
    → ((n : ℕ) (ts : List Lexeme) → p n (x ∷ ts) ≡ q n ts) → (G : Grammar A) → StuckNowhere q G
    → StuckNowhere p (grammar.lead x G)
after_nowhere p q x same G k n a s f rest h c e =
    k n a s h.0 rest h.2 c (sym (same n (h.0 ++ rest)) ∙ ap (λ l. p n (l ++ rest)) (sym h.1) ∙ e)

pub lead_nowhere : {A : Type 0} (is : Lexeme → Bool) (x : Lexeme) → is x ≡ true
    → (p : Parser A) (G : Grammar A) → StuckNowhere p G
    → StuckNowhere (lead is p) (grammar.lead x G)
lead_nowhere is x t p G k = after_nowhere (lead is p) p x
    (λ n ts. ap (λ b. arm_run (cond b (Takes p) No) x n ts) t) G k

pub either_nowhere : {A : Type 0} (p : Parser A) (G H : Grammar A) → StuckNowhere p G
    → StuckNowhere p H → StuckNowhere p (grammar.alt G H)
either_nowhere p G H g h n a s f rest (inl k) c e = g n a s f rest k c e
either_nowhere p G H g h n a s f rest (inr k) c e = h n a s f rest k c e

pub map_nowhere : {A B : Type 0} (m : A → B) (p : Parser A) (G : Grammar A) → StuckNowhere p G
    → StuckNowhere (map_to m p) (grammar.map m G)
map_nowhere {A} {B} m p G k n b s f rest h c e = k n h.0 s f rest h.2 c (inside (p n (f ++ rest)) e)
  where
    inside : (o : Out A) → and_then o (λ a. pure (m a)) ≡ Unexpected c rest → o ≡ Unexpected c rest
    inside (Parsed a j r) e = cc
    inside (Unexpected j r) e = let z : r ≡ rest = cc in let y : j ≡ c = cc in ap (Unexpected j) z
        ∙ ap (λ k. Unexpected k rest) y
    inside (LimitExceeded w j r) e = cc

pub bind_nowhere : {A B : Type 0} (p : Parser A) (f : A → Parser B) (G : Grammar A) (H : A
    → Grammar B) (follow goes2 : Lexeme → Bool) →
    IsCorrectParser 0 32 p G follow → ((a : A) → IsCorrectParser 0 32 (f a) (H a) goes2)
    → ((a : A) (b : B) (s : Size) (ts rest : List Lexeme) → H a b s ts → Stops goes2 rest
    → Stops follow (ts ++ rest)) →
    StuckNowhere p G → ((a : A) → StuckNowhere (f a) (H a))
    → StuckNowhere (bind p f) (grammar.seq G H)
bind_nowhere {A} {B} p f G H follow goes2 gp gf stopping kp kf n b s prefix rest h d e =
    first (p n (h.3 ++ (h.4 ++ rest))) refl (ap (λ o. and_then o f) (sym (ap (p n) whole)) ∙ e)
  where
    whole : prefix ++ rest ≡ h.3 ++ (h.4 ++ rest)
    whole = ap (λ l. l ++ rest) h.6 ∙ append_assoc h.3 h.4 rest

    -- where the second part has lexemes, the first ends before them
    ended : (u : List Lexeme) → H h.0 b h.2 u → (0 < length u) → (o : Out A)
        → p n (h.3 ++ (u ++ rest)) ≡ o → Fine 32 h.0 h.1 n (u ++ rest) o
    ended [] k some o q = absurd (omega (arith, some))
    ended (y ∷ u) k some o q = subst (Fine 32 h.0 h.1 n (y ∷ (u ++ rest))) q
        (gp.complete n (omega arith) h.0 h.1 h.3 (y ∷ (u ++ rest)) h.7
        (stopping h.0 b h.2 (y ∷ u) [] k tt))

    -- the second part is read from where the first ends
    second : (c : A) (m : ℕ) (r : List Lexeme) → c ≡ h.0 → r ≡ h.4 ++ rest
        → f c m r ≡ Unexpected d rest → ⊥
    second c m r same left q = kf h.0 m b h.2 h.4 rest h.8 d
        (ap (f h.0 m) (sym left) ∙ ap (λ v. f v m r) (sym same) ∙ q)

    got : (u : List Lexeme) → h.4 ≡ u → (c : A) (m : ℕ) (r : List Lexeme)
        → p n (h.3 ++ (h.4 ++ rest)) ≡ Parsed c m r → f c m r ≡ Unexpected d rest → ⊥
    got [] none c m r q k =
        let alone : p n (h.3 ++ rest) ≡ Parsed c m r = ap (λ l. p n (h.3 ++ (l ++ rest))) (sym none)
        ∙ q in
        let x = explained (f c) (H c) goes2 (gf c) m r (Unexpected d rest) k in
        let fine = read_alone p G follow gp n h.0 h.1 h.3 rest h.7 c m x.0 r x.1 alone in
        second c m r fine.0 (fine.1 ∙ ap (λ l. l ++ rest) (sym none)) k
    got (y ∷ u) some c m r q k = let fine = ended h.4 h.8
        (let z = ap length some in omega (arith, z)) (Parsed c m r) q in
        second c m r fine.0 fine.1 k

    stuck : (u : List Lexeme) → h.4 ≡ u → (j : ℕ) (r : List Lexeme)
        → p n (h.3 ++ (h.4 ++ rest)) ≡ Unexpected j r → r ≡ rest → ⊥
    stuck [] none j r q t = kp n h.0 h.1 h.3 rest h.7 j
        (ap (λ l. p n (h.3 ++ (l ++ rest))) (sym none) ∙ q ∙ ap (Unexpected j) t)
    stuck (y ∷ u) some j r q t = ended h.4 h.8 (let z = ap length some in omega (arith, z))
        (Unexpected j r) q

    first : (o : Out A) → p n (h.3 ++ (h.4 ++ rest)) ≡ o → and_then o f ≡ Unexpected d rest → ⊥
    first (Parsed c m r) q k = got h.4 refl c m r q k
    first (Unexpected j r) q k = stuck h.4 refl j r q (let z : r ≡ rest = cc in z)
    first (LimitExceeded w j r) q k = cc

-- ---- what may be missing, and lists

module _ {A : Type 0} (is : Lexeme → Bool) (sep : Lexeme) (is_sep : is sep ≡ true)
    (exact : (x : Lexeme) → is x ≡ true → x ≡ sep) where
  -- what reads nothing before another lexeme is not stuck before it
  optional : (p : Parser A) (G : Grammar A) (follow : Lexeme → Bool)
      → IsCorrectParser 0 32 p G follow → CanGoOn G (sep ∷ []) → (v : A)
      → ((n : ℕ) → p n [] ≡ Parsed v n []) → ((n : ℕ) (x : Lexeme) (ts : List Lexeme) → is x ≡ false
      → p n (x ∷ ts) ≡ Parsed v n (x ∷ ts)) →
      (n : ℕ) (rest : List Lexeme) (c : ℕ) → p n rest ≡ Unexpected c rest → ⊥
  optional p G follow correct on v none other n [] c e =
      let clash : ◌≡◌ {A = Out A} (Parsed v n []) (Unexpected c []) = sym (none n) ∙ e in cc
  optional p G follow correct on v none other n (x ∷ rest) c e = by_test (is x) refl
    where
      by_test : (b : Bool) → is x ≡ b → ⊥
      by_test true t = let P : Lexeme → Type 0 = λ y. CanGoOn G (y ∷ []) in
          stuck_ends p G follow correct n c [] x rest e (subst P (sym (exact x t)) on)
      by_test false t = let clash : ◌≡◌ {A = Out A} (Parsed v n (x ∷ rest))
          (Unexpected c (x ∷ rest)) = sym (other n x rest t) ∙ e in cc

  pub option_nowhere : (p : Parser A) (v : A) (G : Grammar A) (follow : Lexeme → Bool)
      → IsCorrectParser 0 32 (option is (Takes p) v) (grammar.option v sep G) follow
      → ((a : A) × (s : Size) × (l : List Lexeme) × G a s l) → StuckNowhere p G
      → StuckNowhere (option is (Takes p) v) (grammar.option v sep G)
  option_nowhere p v G follow correct live k n a s f rest (inl h) c e =
      optional (option is (Takes p) v) (grammar.option v sep G) follow correct
      (live.2, live.0, live.1, inr (live.2, refl, live.3)) v (λ n. refl)
      (λ n x ts t. ap (λ b. cond b (p n ts) (Parsed v n (x ∷ ts))) t) n rest c
      (ap (λ l. option is (Takes p) v n (l ++ rest)) (sym h.2) ∙ e)
  option_nowhere p v G follow correct live k n a s f rest (inr h) c e =
      after_nowhere (option is (Takes p) v) p sep
      (λ n ts. ap (λ b. cond b (p n ts) (Parsed v n (sep ∷ ts))) is_sep) G k n a s f rest h c e

module _ (is : Lexeme → Bool) (sep : Lexeme) (is_sep : is sep ≡ true) (exact : (x : Lexeme)
    → is x ≡ true → x ≡ sep) {A : Type 0} (item : Parser A) (G : Grammar A) (follow : Lexeme → Bool)
    (correct : IsCorrectParser 0 32 item G follow) (apart : follow sep ≡ false)
    (w : What) (over : (s : Size) (n : ℕ) → limit w < s.wide w → Exceeds w n 32 s)
    (k : StuckNowhere item G) where
  abbrev more_go : Lexeme → Bool
  more_go x = is x || follow x

  more_is_correct : (m j : ℕ) → limit w ≡ j + m
      → IsCorrectParser 0 32 (more is w item m) (AreMore sep (so_wide w) G j) more_go
  more_is_correct m j e = more_correct is sep is_sep exact 32 item G follow correct apart w over m j
      e

  one_more : (j : ℕ) → CanGoOn (AreMore sep (so_wide w) G j) (sep ∷ [])
  one_more j = let l = correct.live in (
    l.2,
    l.0 ∷ [],
    both l.1 (so_wide w (j + 1)),
    (
      l.1,
      so_wide w (j + 1),
      l.2,
      [],
      refl,
      ap (λ t. sep ∷ t) (sym (append-nil l.2)),
      l.3,
      (refl, refl),
    ),
  )

  more_none : (m n : ℕ) → more is w item m n [] ≡ Parsed [] n []
  unfolding more
  more_none zero n = refl
  more_none (suc m) n = refl

  more_other : (m n : ℕ) (x : Lexeme) (ts : List Lexeme) → is x ≡ false
      → more is w item m n (x ∷ ts) ≡ Parsed [] n (x ∷ ts)
  unfolding more
  more_other zero n x ts t = option_not is (Refuses w) [] n (x ∷ ts) t
  more_other (suc m) n x ts t = option_not is
      (Takes (bind item (λ a. map_to (λ o. a ∷ o) (more is w item m)))) [] n (x ∷ ts) t

  more_full : (n : ℕ) (ts : List Lexeme) → more is w item zero n (sep ∷ ts)
      ≡ LimitExceeded w n (sep ∷ ts)
  unfolding more
  more_full n ts = option_refuses is w [] n (sep ∷ ts) is_sep

  more_next : (m n : ℕ) (ts : List Lexeme) → more is w item (suc m) n (sep ∷ ts)
      ≡ bind item (λ a. map_to (λ o. a ∷ o) (more is w item m)) n ts
  unfolding more
  more_next m n ts = option_takes is (bind item (λ a. map_to (λ o. a ∷ o) (more is w item m))) [] n
      (sep ∷ ts) is_sep

  next_nowhere : (m j : ℕ) → limit w ≡ j + m → StuckNowhere (more is w item m)
      (AreMore sep (so_wide w) G j) → StuckNowhere
      (bind item (λ a. map_to (λ o. a ∷ o) (more is w item m)))
      (grammar.seq G (λ a. grammar.map (λ o. a ∷ o) (AreMore sep (so_wide w) G j)))
  next_nowhere m j e inner = bind_nowhere item (λ a. map_to (λ o. a ∷ o) (more is w item m)) G
      (λ a. grammar.map (λ o. a ∷ o) (AreMore sep (so_wide w) G j)) follow more_go correct
      (λ a. map_correct 0 32 (λ o. a ∷ o) (more is w item m) (AreMore sep (so_wide w) G j) more_go
      (more_is_correct m j e))
      (λ a b s ts rest i stops. side is sep is_sep exact 32 item G follow correct apart (so_wide w)
      j i.0 s ts rest i.2 stops)
      k (λ a. map_nowhere (λ o. a ∷ o) (more is w item m) (AreMore sep (so_wide w) G j) inner)

  pub more_nowhere : (m j : ℕ) → limit w ≡ j + m
      → StuckNowhere (more is w item m) (AreMore sep (so_wide w) G j)
  more_nowhere m j e n [] s f rest h c q =
      optional is sep is_sep exact (more is w item m) (AreMore sep (so_wide w) G j) more_go
      (more_is_correct m j e) (one_more j) [] (more_none m) (λ n x ts t. more_other m n x ts t)
      n rest c (ap (λ l. more is w item m n (l ++ rest)) (sym h.1) ∙ q)
  more_nowhere zero j e n (a ∷ l) s f rest h c q =
      let full : more is w item zero n (f ++ rest)
      ≡ LimitExceeded w n (sep ∷ ((h.2 ++ h.3) ++ rest)) =
      ap (λ l. more is w item zero n (l ++ rest)) h.5 ∙ more_full n ((h.2 ++ h.3) ++ rest) in
      let clash : ◌≡◌ {A = Out (List A)} (LimitExceeded w n (sep ∷ ((h.2 ++ h.3) ++ rest)))
      (Unexpected c rest) = sym full ∙ q in
      cc
  more_nowhere (suc m) j e n (a ∷ l) s f rest h c q =
      after_nowhere (more is w item (suc m)) (bind item
      (λ a. map_to (λ o. a ∷ o) (more is w item m))) sep (λ n ts. more_next m n ts)
      (grammar.seq G (λ a. grammar.map (λ o. a ∷ o) (AreMore sep (so_wide w) G (j + 1))))
      (next_nowhere m (j + 1) (omega (arith, e)) (more_nowhere m (j + 1) (omega (arith, e)))) n
      (a ∷ l) s f rest (
        h.2 ++ h.3,
        h.5,
        (
          a,
          h.0,
          h.1,
          h.2,
          h.3,
          h.4,
          refl,
          h.6,
          (l, refl, h.7),
        ),
      ) c q

-- ---- what is within the limits is one value

pub one_value : {A : Type 0} (p : Parser A) (G : Grammar A) (follow : Lexeme → Bool)
    → IsCorrectParser 0 32 p G follow → (a b : A) (s t : Size) (f : List Lexeme) → G a s f → G b t f
    → s.nodes ≤ 256 → Valid 32 s → a ≡ b
one_value {A} p G follow correct a b s t f g h few valid = by_out (p 0 f) refl
  where
    by_out : (o : Out A) → p 0 f ≡ o → a ≡ b
    by_out (Parsed c m r) e = sym (alone p G follow correct 0 a s f g (Parsed c m r) e).0
        ∙ (alone p G follow correct 0 b t f h (Parsed c m r) e).0
    by_out (Unexpected c r) e = absurd (alone p G follow correct 0 a s f g (Unexpected c r) e)
    by_out (LimitExceeded w c r) e = absurd (within_none w s few valid
        (alone p G follow correct 0 a s f g (LimitExceeded w c r) e))

-- ---- the longest text

next_taken : {A : Type 0} (f : List A) (x : A) (rest : List A)
    → take (length f + 1) (f ++ x ∷ rest) ≡ f ++ x ∷ []
next_taken [] x rest = refl
next_taken (y ∷ f) x rest = let e : length (y ∷ f) + 1 ≡ suc (length f + 1) = omega arith in
    ap (λ n. take n (y ∷ (f ++ x ∷ rest))) e ∙ ap (λ l. y ∷ l) (next_taken f x rest)

module _ {A : Type 0} (p : Parser A) (G : A → Size → List Lexeme → Type 0) (follow : Lexeme → Bool)
    (correct : IsCorrectParser 0 32 p G follow) where
  -- with counts of its own, where the longest text is read
  pub fresh_nowhere : ((a : A) (s : Size) (prefix rest ts : List Lexeme) → ts ≡ prefix ++ rest
      → G a s prefix → Ends G ts (length prefix) → Fine 32 a s 0 rest (p 0 ts))
      → StuckNowhere (fresh p) (grammar.fresh G)
  fresh_nowhere longest n a s f rest h c e = let k = inside (p 0 (f ++ rest)) e in
      by_rest k.0 rest k.1
    where
      inside : (o : Out A) → set_back n o ≡ Unexpected c rest → (j : ℕ) × (o ≡ Unexpected j rest)
      inside (Parsed b m r) e = cc
      inside (Unexpected j r) e = let z : r ≡ rest = cc in (j, ap (Unexpected j) z)
      inside (LimitExceeded w j r) e = cc

      by_rest : (j : ℕ) (u : List Lexeme) → p 0 (f ++ u) ≡ Unexpected j u → ⊥
      by_rest j [] q = alone p G follow correct 0 a h.0 f h.2 (Unexpected j [])
          (ap (p 0) (sym (append-nil f)) ∙ q)
      by_rest j (x ∷ u) q =
          let ends : Ends G (f ++ x ∷ u) (length f) = λ less can.
          stuck_ends p G follow correct 0 j f x u q (let P : List Lexeme
          → Type 0 = λ l. CanGoOn G l in subst P (next_taken f x u) can) in
          subst (Fine 32 a h.0 0 (x ∷ u)) q (longest a h.0 f (x ∷ u) (f ++ x ∷ u) refl h.2 ends)

  module _ (nowhere : StuckNowhere p G) (a : A) (s : Size) (f : List Lexeme) (g : G a s f)
      (x : Lexeme) (rest : List Lexeme) (halts : CanGoOn G (f ++ x ∷ []) → ⊥) where
    -- nothing longer goes on
    no_longer : (d more : List Lexeme) (b : A) (t : Size) → G b t ((f ++ x ∷ d) ++ more) → ⊥
    no_longer d more b t h = halts (
      d ++ more,
      b,
      t,
      (let P : List Lexeme → Type 0 = λ l. G b t l in
          subst P (append_assoc f (x ∷ d) more ∙ sym (append_assoc f (x ∷ []) (d ++ more))) h),
    )

    abbrev whole : List Lexeme
    whole = f ++ x ∷ rest

    got : (b : A) (m : ℕ) (r : List Lexeme) → p 0 whole ≡ Parsed b m r
        → Fine 32 a s 0 (x ∷ rest) (Parsed b m r)
    got b m r e = at (parted f (x ∷ rest) k.0 r k.2)
      where
        k : Explains 32 (p 0) G 0 whole (Parsed b m r)
        k = explained p G follow correct 0 whole (Parsed b m r) e

        at : Longer f (x ∷ rest) k.0 r ⊎ Shorter f (x ∷ rest) k.0 r
            → Fine 32 a s 0 (x ∷ rest) (Parsed b m r)
        at (inl ([], same, left)) = read_alone p G follow correct 0 a s f (x ∷ rest) g b m [] r
            (sym left) e
        at (inl (y ∷ d, same, left)) =
            let z : y ≡ x = cc in
            let P : List Lexeme → Type 0 = λ l. G b k.1 l in
            absurd (no_longer d [] b k.1 (subst P
            (same ∙ ap (λ v. f ++ v ∷ d) z ∙ sym (append-nil (f ++ x ∷ d))) k.3))
        at (inr (z, d, same, left)) = absurd (short k.7)
          where
            short : Same (p 0) k.0 r (Parsed b m) → ⊥
            short q =
                let P : List Lexeme → Type 0 = λ l. Same (p 0) k.0 l (Parsed b m) in
                let read : p 0 f ≡ Parsed b m (z ∷ d) = ap (p 0) same ∙ subst P left q d in
                let none = (alone p G follow correct 0 a s f g (Parsed b m (z ∷ d)) read).1 in
                cc

    stuck : (c : ℕ) (r : List Lexeme) → p 0 whole ≡ Unexpected c r → ⊥
    stuck c r e = at (parted f (x ∷ rest) k.0 r k.1)
      where
        k : Explains 32 (p 0) G 0 whole (Unexpected c r)
        k = explained p G follow correct 0 whole (Unexpected c r) e

        at : Longer f (x ∷ rest) k.0 r ⊎ Shorter f (x ∷ rest) k.0 r → ⊥
        at (inl ([], same, left)) = nowhere 0 a s f (x ∷ rest) g c
            (e ∙ ap (Unexpected c) (sym left))
        at (inl (y ∷ d, same, left)) =
            let z : y ≡ x = cc in
            let P : List Lexeme → Type 0 = λ l. G k.2.1 k.2.2 (l ++ k.2.0) in
            no_longer d k.2.0 k.2.1 k.2.2 (subst P (same ∙ ap (λ v. f ++ v ∷ d) z) k.2.3)
        at (inr (z, d, same, left)) =
            let P : List Lexeme → Type 0 = λ l. Same (p 0) k.0 l (Unexpected c) in
            alone p G follow correct 0 a s f g (Unexpected c (z ∷ d))
            (ap (p 0) same ∙ subst P left k.3 d)

    over : (w : What) (c : ℕ) (r : List Lexeme) → p 0 whole ≡ LimitExceeded w c r
        → Fine 32 a s 0 (x ∷ rest) (LimitExceeded w c r)
    over w c [] e = absurd (explained p G follow correct 0 whole (LimitExceeded w c []) e).2
    over w c (y ∷ r) e = at (parted f (x ∷ rest) k.0 (y ∷ r) k.1)
      where
        k : Explains 32 (p 0) G 0 whole (LimitExceeded w c (y ∷ r))
        k = explained p G follow correct 0 whole (LimitExceeded w c (y ∷ r)) e

        at : Longer f (x ∷ rest) k.0 (y ∷ r) ⊎ Shorter f (x ∷ rest) k.0 (y ∷ r)
            → Fine 32 a s 0 (x ∷ rest) (LimitExceeded w c (y ∷ r))
        at (inl ([], same, left)) =
            let z : y ≡ x = cc in
            let P : List Lexeme → Type 0 = λ l. CanGoOn G l in
            absurd (halts (subst P (ap (λ l. l ++ y ∷ []) (same ∙ append-nil f)
            ∙ ap (λ v. f ++ v ∷ []) z) k.2))
        at (inl (v ∷ d, same, left)) =
            let z : v ≡ x = cc in
            let P : List Lexeme → Type 0 = λ l. G k.2.1 k.2.2 (l ++ k.2.0) in
            absurd (no_longer (d ++ y ∷ []) k.2.0 k.2.1 k.2.2
            (subst P (ap (λ l. l ++ y ∷ []) (same ∙ ap (λ u. f ++ u ∷ d) z)
            ∙ append_assoc f (x ∷ d) (y ∷ [])) k.2.3))
        at (inr (z, d, same, left)) =
            let first : y ≡ z = cc in
            let P : Lexeme → Type 0 = λ v. f ≡ k.0 ++ v ∷ d in
            let i : Exceeds w 0 32 s = alone p G follow correct 0 a s f g
            (LimitExceeded w c (y ∷ d)) (ap (p 0) (subst P (sym first) same) ∙ k.3 d) in
            i

    after : Fine 32 a s 0 (x ∷ rest) (p 0 whole)
    after = by_out (p 0 whole) refl
      where
        by_out : (o : Out A) → p 0 whole ≡ o → Fine 32 a s 0 (x ∷ rest) o
        by_out (Parsed b m r) e = got b m r e
        by_out (Unexpected c r) e = absurd (stuck c r e)
        by_out (LimitExceeded w c r) e = over w c r e

  -- a text is read where nothing goes on with what stands after it
  pub longest_read : StuckNowhere p G → (a : A) (s : Size) (prefix rest ts : List Lexeme)
      → ts ≡ prefix ++ rest → G a s prefix → Ends G ts (length prefix) → Fine 32 a s 0 rest (p 0 ts)
  longest_read nowhere a s prefix rest ts w g ends =
      subst (Fine 32 a s 0 rest) (sym (ap (p 0) w))
      (by_rest rest (let P : List Lexeme → Type 0 = λ l. Ends G l (length prefix) in
      subst P w ends))
    where
      by_rest : (rest : List Lexeme) → Ends G (prefix ++ rest) (length prefix)
          → Fine 32 a s 0 rest (p 0 (prefix ++ rest))
      by_rest [] h = correct.complete 0 (omega arith) a s prefix [] g tt
      by_rest (x ∷ rest) h = after nowhere a s prefix g x rest
          (λ can. h (omega (arith, length-append prefix (x ∷ rest))) (let P : List Lexeme
          → Type 0 = λ l. CanGoOn G l in subst P (sym (next_taken prefix x rest)) can))
