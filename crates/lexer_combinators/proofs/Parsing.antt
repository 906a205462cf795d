-- The laws of reading, for all grammars.
use Rattle.std.proofs.Common.{◌≡◌, ℕ, zero, suc, ◌+◌, ◌-◌, ◌<◌, ◌≤◌, max, Bool, true, false, cond}
use Rattle.std.proofs.Common.{nat_lt, ◌==◌, eq-eqb, eqb-true, get_or, List, [], ◌∷◌, ◌++◌, refl}
use Rattle.std.proofs.Common.{sym, ap, ◌∙◌, subst, append_assoc, arith, append-nil, length}
use Rattle.std.proofs.Common.{length-append, ◌||◌, inl, inr}
use Rattle.std.proofs.Math.Nat.{le-max_left, le-max_right, max-le, max-zero, zero-max}
use Rattle.std.proofs.lemmas.Bool.Decides.{nat_tests}
use Rattle.prima_base.specs.declared.refusal.What.{What}
use Rattle.prima_base.specs.declared.refusal.What.TheVariants as what
use Rattle.lexer_spec.specs.Lexemes.{Lexeme}
use Rattle.lexer_combinators.specs.Grammar.{Grammar}
use Rattle.lexer_combinators.specs.Parsing.{limit, limits, Out, Parsed, Unexpected, LimitExceeded}
use Rattle.lexer_combinators.specs.Parsing.{Parser, Same, GoesOnWith, Valid, Explains, Stops}
use Rattle.lexer_combinators.specs.Parsing.{Exceeds, Fine, IsCorrectParser, and_then, bind, pure}
use Rattle.lexer_combinators.specs.Parsing.{lead, Arm, No, Takes, Counts, Whole, Refuses, Fills}
use Rattle.lexer_combinators.specs.Parsing.{arm_run, choose, option, map_to, more, nodes_more}
use Rattle.lexer_combinators.specs.Parsing.{as_many, many, pick}
use Rattle.lexer_combinators.specs.Grammar.{Size, nothing_counted, both, one_node, one_open}
use Rattle.lexer_combinators.specs.Grammar.{so_wide, rank, AreMore, no_end}
use Rattle.lexer_combinators.specs.Grammar as grammar
use Rattle.lexer_spec.proofs.Cases.{true_false, by_test}

-- ---- counts

pub valid_both : (d : ℕ) (s t : Size) → Valid d s → Valid d t → Valid d (both s t)
valid_both d s t h k = (max-le h.0 k.0, λ w. max-le (h.1 w) (k.1 w))

pub both_none : (s : Size) → both s nothing_counted ≡ s
both_none s = λ i. record {
  nodes = (let e : s.nodes + 0 ≡ s.nodes = omega arith in e) i;
  depth =
      max-zero s.depth i;
  wide = λ w. max-zero (s.wide w) i;
}

pub none_both : (s : Size) → both nothing_counted s ≡ s
none_both s = λ i. record {
  nodes = (let e : 0 + s.nodes ≡ s.nodes = omega arith in e) i;
  depth =
      zero-max s.depth i;
  wide = λ w. zero-max (s.wide w) i;
}

exceeds_first : (w : What) (n d : ℕ) (s t : Size) → Exceeds w n d s → Exceeds w n d (both s t)
exceeds_first what.Nodes n d s t h = omega (arith, h)
exceeds_first what.Depth n d s t h = omega (arith, h, le-max_left s.depth t.depth)
exceeds_first what.Parts n d s t h = omega (
  arith,
  h,
  le-max_left (s.wide what.Parts) (t.wide what.Parts),
)
exceeds_first what.Tables n d s t h = omega (
  arith,
  h,
  le-max_left (s.wide what.Tables) (t.wide what.Tables),
)
exceeds_first what.Branches n d s t h = omega
    (arith, h, le-max_left (s.wide what.Branches) (t.wide what.Branches))
exceeds_first what.Outputs n d s t h = omega (
  arith,
  h,
  le-max_left (s.wide what.Outputs) (t.wide what.Outputs),
)
exceeds_first what.Keeps n d s t h = omega (
  arith,
  h,
  le-max_left (s.wide what.Keeps) (t.wide what.Keeps),
)
exceeds_first what.Changes n d s t h = omega (
  arith,
  h,
  le-max_left (s.wide what.Changes) (t.wide what.Changes),
)
exceeds_first what.Columns n d s t h = omega (
  arith,
  h,
  le-max_left (s.wide what.Columns) (t.wide what.Columns),
)
exceeds_first what.Inverse n d s t h = omega (
  arith,
  h,
  le-max_left (s.wide what.Inverse) (t.wide what.Inverse),
)
exceeds_first what.Versions n d s t h = omega
    (arith, h, le-max_left (s.wide what.Versions) (t.wide what.Versions))

exceeds_second : (w : What) (n m d : ℕ) (s t : Size) → m ≡ n + s.nodes → Exceeds w m d t
    → Exceeds w n d (both s t)
exceeds_second what.Nodes n m d s t e h = omega (arith, e, h)
exceeds_second what.Depth n m d s t e h = omega (arith, h, le-max_right s.depth t.depth)
exceeds_second what.Parts n m d s t e h = omega
    (arith, h, le-max_right (s.wide what.Parts) (t.wide what.Parts))
exceeds_second what.Tables n m d s t e h = omega
    (arith, h, le-max_right (s.wide what.Tables) (t.wide what.Tables))
exceeds_second what.Branches n m d s t e h = omega
    (arith, h, le-max_right (s.wide what.Branches) (t.wide what.Branches))
exceeds_second what.Outputs n m d s t e h = omega
    (arith, h, le-max_right (s.wide what.Outputs) (t.wide what.Outputs))
exceeds_second what.Keeps n m d s t e h = omega
    (arith, h, le-max_right (s.wide what.Keeps) (t.wide what.Keeps))
exceeds_second what.Changes n m d s t e h = omega
    (arith, h, le-max_right (s.wide what.Changes) (t.wide what.Changes))
exceeds_second what.Columns n m d s t e h = omega
    (arith, h, le-max_right (s.wide what.Columns) (t.wide what.Columns))
exceeds_second what.Inverse n m d s t e h = omega
    (arith, h, le-max_right (s.wide what.Inverse) (t.wide what.Inverse))
exceeds_second what.Versions n m d s t e h = omega
    (arith, h, le-max_right (s.wide what.Versions) (t.wide what.Versions))

exceeds_open : (w : What) (n d : ℕ) (s : Size) → Exceeds w n d s → Exceeds w n (suc d) (one_open s)
exceeds_open what.Nodes n d s h = h
exceeds_open what.Depth n d s h = omega (arith, h)
exceeds_open what.Parts n d s h = h
exceeds_open what.Tables n d s h = h
exceeds_open what.Branches n d s h = h
exceeds_open what.Outputs n d s h = h
exceeds_open what.Keeps n d s h = h
exceeds_open what.Changes n d s h = h
exceeds_open what.Columns n d s h = h
exceeds_open what.Inverse n d s h = h
exceeds_open what.Versions n d s h = h

exceeds_node : (w : What) (n d : ℕ) (s : Size) → Exceeds w (n + 1) d s → Exceeds w n d (one_node s)
exceeds_node what.Nodes n d s h = omega (arith, h)
exceeds_node what.Depth n d s h = h
exceeds_node what.Parts n d s h = h
exceeds_node what.Tables n d s h = h
exceeds_node what.Branches n d s h = h
exceeds_node what.Outputs n d s h = h
exceeds_node what.Keeps n d s h = h
exceeds_node what.Changes n d s h = h
exceeds_node what.Columns n d s h = h
exceeds_node what.Inverse n d s h = h
exceeds_node what.Versions n d s h = h

-- ---- one after the other

-- `Same` at a tail that begins otherwise
same_at : {A : Type 0} (run : List Lexeme → Out A) (make : List Lexeme → Out A)
    (prefix f : List Lexeme) (x : Lexeme) (r other : List Lexeme) →
    Same run prefix (f ++ x ∷ r) make → run (prefix ++ (f ++ x ∷ other)) ≡ make (f ++ x ∷ other)
same_at run make prefix [] x r other s = s other
same_at run make prefix (y ∷ f) x r other s = s (f ++ x ∷ other)

module _ {A B : Type 0} (d : ℕ) (p : Parser A) (f : A → Parser B) (G : A → Size → List Lexeme
    → Type 0) (H : A → B → Size → List Lexeme → Type 0) (n : ℕ) (ts : List Lexeme) where
  same_bind : (make : List Lexeme → Out B) (a : A) (m : ℕ) (suffix f1 f2 : List Lexeme)
      (rest2 : List Lexeme) → suffix ≡ f2 ++ rest2 → Same (p n) f1 suffix (Parsed a m)
      → Same (f a m) f2 rest2 make →
      Same (bind p f n) (f1 ++ f2) rest2 make
  same_bind make a m suffix f1 f2 [] e s1 s2 = tt
  same_bind make a m suffix f1 f2 (x ∷ r) e s1 s2 =
      λ other. ap (bind p f n) (append_assoc f1 f2 (x ∷ other))
      ∙ ap (λ o. and_then o f) (same_at (p n) (Parsed a m) f1 f2 x r other (let P : List Lexeme
      → Type 0 = λ l. Same (p n) f1 l (Parsed a m) in subst P e s1)) ∙ s2 other

  whole : (suffix f1 f2 rest2 : List Lexeme) → ts ≡ f1 ++ suffix → suffix ≡ f2 ++ rest2
      → ts ≡ (f1 ++ f2) ++ rest2
  whole suffix f1 f2 rest2 e e2 = e ∙ ap (λ l. f1 ++ l) e2 ∙ sym (append_assoc f1 f2 rest2)

  follow_second : (a : A) (s : Size) (f1 f2 suffix : List Lexeme) → G a s f1
      → GoesOnWith (H a) f2 suffix → GoesOnWith (grammar.seq G H) (f1 ++ f2) suffix
  follow_second a s f1 f2 [] g h = h
  follow_second a s f1 f2 (x ∷ suffix) g h = (
    h.0,
    h.1,
    both s h.2,
    (
      a,
      s,
      h.2,
      f1,
      (f2 ++ x ∷ []) ++ h.0,
      refl,
      ap (λ l. l ++ h.0) (append_assoc f1 f2 (x ∷ []))
          ∙ append_assoc f1 (f2 ++ x ∷ []) h.0,
      g,
      h.3,
    ),
  )

  follow_first : ((a : A) → (b : B) × (t : Size) × (us : List Lexeme) × H a b t us)
      → (f1 suffix : List Lexeme) → GoesOnWith G f1 suffix → GoesOnWith (grammar.seq G H) f1 suffix
  follow_first live f1 [] h = h
  follow_first live f1 (x ∷ suffix) h = let l = live h.1 in (
    h.0 ++ l.2,
    l.0,
    both h.2 l.1,
    (
      h.1,
      h.2,
      l.1,
      (f1 ++ x ∷ []) ++ h.0,
      l.2,
      refl,
      sym (append_assoc (f1 ++ x ∷ []) h.0 l.2),
      h.3,
      l.3,
    ),
  )

  -- after the first part
  inner : (a : A) (s1 : Size) (m : ℕ) (suffix f1 : List Lexeme) → ts ≡ f1 ++ suffix → G a s1 f1
      → m ≡ n + s1.nodes → (n ≤ 256 → m ≤ 256) → Valid d s1 → Same (p n) f1 suffix (Parsed a m)
      → (o : Out B) → Explains d (f a m) (H a) m suffix o
      → Explains d (bind p f n) (grammar.seq G H) n ts o
  inner a s1 m suffix f1 e g em el law s (Parsed b k rest2) x = (
    f1 ++ x.0,
    both s1 x.1,
    whole suffix f1 x.0 rest2 e x.2,
    (a, s1, x.1, f1, x.0, refl, refl, g, x.3),
    omega (arith, em, x.4),
    (λ h. x.5 (el h)),
    valid_both d s1 x.1 law x.6,
    same_bind (Parsed b k) a m suffix f1 x.0 rest2 x.2 s x.7,
  )
  inner a s1 m suffix f1 e g em el law s (Unexpected c rest2) x = (
    f1 ++ x.0,
    whole suffix f1 x.0 rest2 e x.1,
    (
      x.2.0,
      x.2.1,
      both s1 x.2.2,
      (
        a,
        s1,
        x.2.2,
        f1,
        x.0 ++ x.2.0,
        refl,
        append_assoc f1 x.0 x.2.0,
        g,
        x.2.3,
      ),
    ),
    same_bind (Unexpected c) a m suffix f1 x.0 rest2 x.1 s x.3,
  )
  inner a s1 m suffix f1 e g em el law s (LimitExceeded w c rest2) x = (
    f1 ++ x.0,
    whole suffix f1 x.0 rest2 e x.1,
    follow_second a s1 f1 x.0 rest2 g x.2,
    same_bind (LimitExceeded w c) a m suffix f1 x.0 rest2 x.1 s x.3,
  )

  -- an outcome of the first part that is the whole's
  same_first : (make1 : List Lexeme → Out A) (make : List Lexeme → Out B) (f1 suffix : List Lexeme)
      → ((l : List Lexeme) → and_then (make1 l) f ≡ make l) → Same (p n) f1 suffix make1
      → Same (bind p f n) f1 suffix make
  same_first make1 make f1 [] e s = tt
  same_first make1 make f1 (x ∷ r) e s = λ other. ap (λ o. and_then o f) (s other) ∙ e (x ∷ other)

  outer : (low few : ℕ) → low ≤ n → ((a : A) (s : Size) (us : List Lexeme) → G a s us
      → few ≤ s.nodes) → (live : (a : A) → (b : B) × (t : Size) × (us : List Lexeme) × H a b t us) →
      (o : Out A) → p n ts ≡ o → ((a : A) (m : ℕ) → low + few ≤ m → (us : List Lexeme)
      → o ≡ Parsed a m us → Explains d (f a m) (H a) m us (f a m us))
      → Explains d (p n) G n ts o → Explains d (bind p f n) (grammar.seq G H) n ts
      (and_then o f)
  outer low few at_least some live (Parsed a m suffix) e ef x =
      inner a x.1 m suffix x.0 x.2 x.3 x.4 x.5 x.6 x.7 (f a m suffix)
      (ef a m (omega (arith, at_least, x.4, some a x.1 x.0 x.3)) suffix refl)
  outer low few at_least some live (Unexpected c suffix) e ef x =
      let a = x.2.1 in let h = live a in (
        x.0,
        x.1,
        (
          x.2.0 ++ h.2,
          h.0,
          both x.2.2 h.1,
          (a, x.2.2, h.1, x.0 ++ x.2.0, h.2, refl, sym (append_assoc x.0 x.2.0 h.2), x.2.3, h.3),
        ),
        same_first (Unexpected c) (Unexpected c) x.0 suffix (λ l. refl) x.3,
      )
  outer low few at_least some live (LimitExceeded w c suffix) e ef x = (
    x.0,
    x.1,
    follow_first live x.0 suffix x.2,
    same_first (LimitExceeded w c) (LimitExceeded w c) x.0 suffix (λ l. refl) x.3,
  )

  fine_second : (b : B) (s t : Size) (m : ℕ) (rest2 : List Lexeme) (o : Out B) → m ≡ n + s.nodes
      → Valid d s → Fine d b t m rest2 o → Fine d b (both s t) n rest2 o
  fine_second b s t m rest2 (Parsed c k r) e l h =
      (h.0, h.1, omega (arith, e, h.2), valid_both d s t l h.3)
  fine_second b s t m rest2 (Unexpected c r) e l h = h
  fine_second b s t m rest2 (LimitExceeded w c r) e l h = exceeds_second w n m d s t e h

  fine_inner : (a : A) (b : B) (s t : Size) (suffix rest2 : List Lexeme) (o : Out A)
      → ((m : ℕ) → m ≡ n + s.nodes → Fine d b t m rest2 (f a m suffix)) → Fine d a s n suffix o
      → Fine d b (both s t) n rest2 (and_then o f)
  fine_inner a b s t suffix rest2 (Parsed a2 m r) h x =
      let P : A → Type 0 = λ v. Fine d b (both s t) n rest2 (f v m r) in
      let Q : List Lexeme → Type 0 = λ l. Fine d b (both s t) n rest2 (f a m l) in
      subst P (sym x.0) (subst Q (sym x.1) (fine_second b s t m rest2 (f a m suffix) x.2 x.3
      (h m x.2)))
  fine_inner a b s t suffix rest2 (Unexpected c r) h x = absurd x
  fine_inner a b s t suffix rest2 (LimitExceeded w c r) h x = exceeds_first w n d s t x

pub bind_later : {A B : Type 0} (low few d : ℕ) (p : Parser A) (f : A → Parser B) (G : Grammar A)
    (H : A → Grammar B) (follow goes2 : Lexeme → Bool) →
    ((a : A) (s : Size) (us : List Lexeme) → G a s us → few ≤ s.nodes) →
    IsCorrectParser low d p G follow → ((a : A) → IsCorrectParser (low + few) d (f a) (H a) goes2)
    → ((a : A) (b : B) (s : Size) (ts suffix : List Lexeme) → H a b s ts → Stops goes2 suffix
    → Stops follow (ts ++ suffix)) →
    IsCorrectParser low d (bind p f) (grammar.seq G H) goes2
bind_later {A} {B} low few d p f G H follow goes2 some gp gf side = record {
  live = (let x = gp.live in let y = (gf x.0).live in
      (y.0, both x.1 y.1, x.2 ++ y.2, (x.0, x.1, y.1, x.2, y.2, refl, refl, x.3, y.3)));
  explains = λ n h ts. outer d p f G H n ts low few h some (λ a. (gf a).live) (p n ts) refl
      (λ a m k us e. (gf a).explains m k us) (gp.explains n h ts);
  complete = complete;
}
  where
    complete : (n : ℕ) → low ≤ n → (b : B) (s : Size) (prefix suffix : List Lexeme)
        → grammar.seq G H b s prefix → Stops goes2 suffix
        → Fine d b s n suffix (bind p f n (prefix ++ suffix))
    complete n h b s prefix suffix g stops =
        let a = g.0 in let s1 = g.1 in let s2 = g.2 in let f1 = g.3 in let f2 = g.4 in
        let same : prefix ++ suffix ≡ f1 ++ (f2 ++ suffix) = ap (λ l. l ++ suffix) g.6
        ∙ append_assoc f1 f2 suffix in
        let P : List Lexeme → Type 0 = λ l. Fine d b s n suffix (bind p f n l) in
        let Q : Size → Type 0 = λ z. Fine d b z n suffix (bind p f n (f1 ++ (f2 ++ suffix))) in
        subst P (sym same) (subst Q (sym g.5)
        (fine_inner d p f G H n (f1 ++ (f2 ++ suffix)) a b s1 s2 (f2 ++ suffix) suffix
        (p n (f1 ++ (f2 ++ suffix)))
        (λ m e. (gf a).complete m (omega (arith, e, h, some a s1 f1 g.7)) b s2 f2 suffix g.8 stops)
        (gp.complete n h a s1 f1 (f2 ++ suffix) g.7 (side a b s2 f2 suffix g.8 stops))))

-- after more nodes
pub later : {A : Type 0} (low more d : ℕ) (p : Parser A) (G : Grammar A) (follow : Lexeme → Bool)
    → low ≤ more → IsCorrectParser low d p G follow → IsCorrectParser more d p G follow
later low more d p G follow h g = record {
  live = g.live;
  explains = λ n k ts.
      g.explains n (omega (arith, h, k)) ts;
  complete = λ n k a s prefix suffix x stops.
      g.complete n (omega (arith, h, k)) a s prefix suffix x stops;
}

pub bind_correct : {A B : Type 0} (low d : ℕ) (p : Parser A) (f : A → Parser B) (G : Grammar A)
    (H : A → Grammar B) (follow goes2 : Lexeme → Bool) →
    IsCorrectParser low d p G follow → ((a : A) → IsCorrectParser low d (f a) (H a) goes2)
    → ((a : A) (b : B) (s : Size) (ts suffix : List Lexeme) → H a b s ts → Stops goes2 suffix
    → Stops follow (ts ++ suffix)) →
    IsCorrectParser low d (bind p f) (grammar.seq G H) goes2
bind_correct low d p f G H follow goes2 gp gf side =
    bind_later low 0 d p f G H follow goes2 (λ a s us g. omega arith) gp
    (λ a. later low (low + 0) d (f a) (H a) goes2 (omega arith) (gf a)) side

pub valid_none : (d : ℕ) → Valid d nothing_counted
valid_none d = (omega arith, λ w. omega arith)

pub pure_correct : {A : Type 0} (low d : ℕ) (a : A) (follow : Lexeme → Bool)
    → IsCorrectParser low d (pure a) (grammar.pure a) follow
pure_correct {A} low d a follow = record {
  live = (a, nothing_counted, [], (refl, refl, refl));
  explains = λ n h ts. (
    [],
    nothing_counted,
    refl,
    (refl, refl, refl),
    omega arith,
    (λ k. k),
    valid_none d,
    same n ts,
  );
  complete = λ n h b s prefix suffix g stops. (
    sym g.0,
    ap (λ l. l ++ suffix) g.2,
    (let e : s.nodes ≡ 0 = ap (λ z. z.nodes) g.1 in
        omega (arith, e)),
    (let P : Size → Type 0 = λ z. Valid d z in
        subst P (sym g.1) (valid_none d)),
  );
}
  where
    same : (n : ℕ) (ts : List Lexeme) → Same (pure a n) [] ts (Parsed a n)
    same n [] = tt
    same n (x ∷ ts) = λ other. refl

-- ---- a lexeme first

module _ {A : Type 0} (run run2 : List Lexeme → Out A) (G G2 : A → Size → List Lexeme → Type 0)
    (x : Lexeme) (grow : Size → Size) where
  same_after : (make : List Lexeme → Out A) (prefix suffix : List Lexeme)
      → ((l : List Lexeme) → run2 (x ∷ l) ≡ run l) → Same run prefix suffix make
      → Same run2 (x ∷ prefix) suffix make
  same_after make prefix [] e s = tt
  same_after make prefix (y ∷ r) e s = λ other. e (prefix ++ y ∷ other) ∙ s other

  follow_after : ((a : A) (s : Size) (l : List Lexeme) → G a s l → G2 a (grow s) (x ∷ l))
      → (prefix suffix : List Lexeme) → GoesOnWith G prefix suffix
      → GoesOnWith G2 (x ∷ prefix) suffix
  follow_after up prefix [] h = h
  follow_after up prefix (y ∷ suffix) h = (h.0, h.1, grow h.2, up _ _ _ h.3)

  -- what is explained after a lexeme is explained from it on
  explains_after : (d n m : ℕ) → ((s : Size) → n + (grow s).nodes ≡ m + s.nodes)
      → (n ≤ 256 → m ≤ 256) → ((s : Size) → Valid d s → Valid d (grow s)) →
      ((l : List Lexeme) → run2 (x ∷ l) ≡ run l)
      → ((a : A) (s : Size) (l : List Lexeme) → G a s l → G2 a (grow s) (x ∷ l))
      → (ts : List Lexeme) (o : Out A) → Explains d run G m ts o
      → Explains d run2 G2 n (x ∷ ts) o
  explains_after d n m grown room law e up ts (Parsed a k suffix) h = (
    x ∷ h.0,
    grow h.1,
    ap (λ l. x ∷ l) h.2,
    up a h.1 h.0 h.3,
    h.4 ∙ sym (grown h.1),
    (λ z. h.5 (room z)),
    law h.1 h.6,
    same_after (Parsed a k) h.0 suffix e h.7,
  )
  explains_after d n m grown room law e up ts (Unexpected c suffix) h = (
    x ∷ h.0,
    ap (λ l. x ∷ l) h.1,
    (h.2.0, h.2.1, grow h.2.2, up _ _ _ h.2.3),
    same_after (Unexpected c) h.0 suffix e h.3,
  )
  explains_after d n m grown room law e up ts (LimitExceeded w c suffix) h = (
    x ∷ h.0,
    ap (λ l. x ∷ l) h.1,
    follow_after up h.0 suffix h.2,
    same_after (LimitExceeded w c) h.0 suffix e h.3,
  )

goes_iff : {A : Type 0} (G G2 : Grammar A) → ((a : A) (s : Size) (l : List Lexeme) → G a s l
    → G2 a s l) → (prefix suffix : List Lexeme) → GoesOnWith G prefix suffix
    → GoesOnWith G2 prefix suffix
goes_iff G G2 up prefix [] h = h
goes_iff G G2 up prefix (y ∷ suffix) h = (h.0, h.1, h.2, up _ _ _ h.3)

explains_iff : {A : Type 0} (d : ℕ) (run : List Lexeme → Out A) (G G2 : Grammar A)
    → ((a : A) (s : Size) (l : List Lexeme) → G a s l → G2 a s l)
    → (n : ℕ) (ts : List Lexeme) (o : Out A) → Explains d run G n ts o → Explains d run G2 n ts o
explains_iff d run G G2 up n ts (Parsed a m suffix) h =
    (h.0, h.1, h.2, up a h.1 h.0 h.3, h.4, h.5, h.6, h.7)
explains_iff d run G G2 up n ts (Unexpected c suffix) h =
    (h.0, h.1, (h.2.0, h.2.1, h.2.2, up _ _ _ h.2.3), h.3)
explains_iff d run G G2 up n ts (LimitExceeded w c suffix) h =
    (h.0, h.1, goes_iff G G2 up h.0 suffix h.2, h.3)

pub correct_iff : {A : Type 0} (low d : ℕ) (p : Parser A) (G G2 : Grammar A) (follow : Lexeme
    → Bool) → ((a : A) (s : Size) (l : List Lexeme) → G a s l → G2 a s l)
    → ((a : A) (s : Size) (l : List Lexeme) → G2 a s l → G a s l) → IsCorrectParser low d p G follow
    → IsCorrectParser low d p G2 follow
correct_iff {A} low d p G G2 follow up down g = record {
  live = (let x = g.live in (x.0, x.1, x.2, up x.0 x.1 x.2 x.3));
  explains = λ n h ts. explains_iff d (p n) G G2 up n ts (p n ts) (g.explains n h ts);
  complete = λ n k a s prefix suffix h stops.
      g.complete n k a s prefix suffix (down a s prefix h) stops;
}

-- fewer lexemes with which it goes on
pub correct_follow : {A : Type 0} (low d : ℕ) (p : Parser A) (G : Grammar A) (follow goes2 : Lexeme
    → Bool) → ((x : Lexeme) → goes2 x ≡ false → follow x ≡ false) → IsCorrectParser low d p G follow
    → IsCorrectParser low d p G goes2
correct_follow {A} low d p G follow goes2 h g = record {
  live = g.live;
  explains = g.explains;
  complete = λ n k a s prefix suffix x stops. g.complete n k a s prefix suffix x (off suffix stops);
}
  where
    off : (suffix : List Lexeme) → Stops goes2 suffix → Stops follow suffix
    off [] k = tt
    off (x ∷ suffix) k = h x k

fine_open : {A : Type 0} (d : ℕ) (a : A) (s : Size) (n : ℕ) (suffix : List Lexeme) (o : Out A)
    → Fine d a s n suffix o → Fine (suc d) a (one_open s) n suffix o
fine_open d a s n suffix (Parsed b m r) h = (h.0, h.1, h.2, (omega (arith, h.3.0), h.3.1))
fine_open d a s n suffix (Unexpected c r) h = h
fine_open d a s n suffix (LimitExceeded w c r) h = exceeds_open w n d s h

follow_open : {A : Type 0} (G : Grammar A) (prefix suffix : List Lexeme)
    → GoesOnWith G prefix suffix → GoesOnWith (grammar.opened G) prefix suffix
follow_open G prefix [] h = h
follow_open G prefix (y ∷ suffix) h = (h.0, h.1, one_open h.2, (h.2, refl, h.3))

explains_open : {A : Type 0} (d : ℕ) (run : List Lexeme → Out A) (G : Grammar A) (n : ℕ)
    (ts : List Lexeme) (o : Out A) → Explains d run G n ts o
    → Explains (suc d) run (grammar.opened G) n ts o
explains_open d run G n ts (Parsed a m suffix) h =
    (h.0, one_open h.1, h.2, (h.1, refl, h.3), h.4, h.5, (omega (arith, h.6.0), h.6.1), h.7)
explains_open d run G n ts (Unexpected c suffix) h =
    (h.0, h.1, (h.2.0, h.2.1, one_open h.2.2, (h.2.2, refl, h.2.3)), h.3)
explains_open d run G n ts (LimitExceeded w c suffix) h =
    (h.0, h.1, follow_open G h.0 suffix h.2, h.3)

-- inside one more open construct
pub open_correct : {A : Type 0} (low d : ℕ) (p : Parser A) (G : Grammar A) (follow : Lexeme → Bool)
    → IsCorrectParser low d p G follow → IsCorrectParser low (suc d) p (grammar.opened G) follow
open_correct {A} low d p G follow g = record {
  live = (let x = g.live in (x.0, one_open x.1, x.2, (x.1, refl, x.3)));
  explains = λ n h ts. explains_open d (p n) G n ts (p n ts) (g.explains n h ts);
  complete = λ n k a s prefix suffix h stops.
      (let P : Size → Type 0 = λ z. Fine (suc d) a z n suffix (p n (prefix ++ suffix)) in
      subst P (sym h.1) (fine_open d a h.0 n suffix (p n (prefix ++ suffix))
      (g.complete n k a h.0 prefix suffix h.2 stops)));
}

-- ---- arms

abbrev pub IsNode : {A : Type 0} → Lexeme → Grammar A → Type 0
IsNode {A} x G = (a : A) (s : Size) (l : List Lexeme) → G a s (x ∷ l) → (t : Size)
    × (s ≡ one_node t)

abbrev pub Live : {A : Type 0} → Lexeme → Grammar A → Type 0
Live {A} x G = (a : A) × (s : Size) × (l : List Lexeme) × G a s (x ∷ l)

abbrev pub TooMuch : {A : Type 0} → ℕ → ℕ → What → Lexeme → Grammar A → Type 0
TooMuch {A} low d w x G = (n : ℕ) → low ≤ n → (a : A) (s : Size) (l : List Lexeme) → G a s (x ∷ l)
    → Exceeds w n d s

abbrev pub ArmCorrect : {A : Type 0} → ℕ → ℕ → Arm A → Lexeme → Grammar A → (Lexeme → Bool) → Type 0
ArmCorrect {A} low d No x G follow = (a : A) (s : Size) (ts : List Lexeme) → G a s (x ∷ ts) → ⊥
ArmCorrect {A} low d (Takes p) x G follow = IsCorrectParser low d p (λ a s l. G a s (x ∷ l)) follow
ArmCorrect {A} low d (Counts p) x G follow = IsCorrectParser low d p
    (λ a s l. G a (one_node s) (x ∷ l)) follow × IsNode x G
ArmCorrect {A} low d (Whole p) x G follow = ((n : ℕ) → low ≤ n → (ts : List Lexeme)
    → Explains d (p n) G n (x ∷ ts) (p n (x ∷ ts))) ×
    ((n : ℕ) → low ≤ n → (a : A) (s : Size) (prefix suffix : List Lexeme) → G a s (x ∷ prefix)
    → Stops follow suffix → Fine d a s n suffix (p n (x ∷ (prefix ++ suffix))))
ArmCorrect {A} low d (Refuses w) x G follow = Live x G × TooMuch low d w x G
ArmCorrect {A} low d (Fills w) x G follow = Live x G × TooMuch low d w x G × IsNode x G

fine_node : {A : Type 0} (d : ℕ) (a : A) (s : Size) (n : ℕ) (suffix : List Lexeme) (o : Out A)
    → Fine d a s (n + 1) suffix o → Fine d a (one_node s) n suffix o
fine_node d a s n suffix (Parsed b m r) h = (h.0, h.1, omega (arith, h.2), h.3)
fine_node d a s n suffix (Unexpected c r) h = h
fine_node d a s n suffix (LimitExceeded w c r) h = exceeds_node w n d s h

no_room : (n : ℕ) (s t : Size) → nat_lt n 256 ≡ false → s ≡ one_node t
    → 256 < max (n + s.nodes) (s.wide what.Nodes)
no_room n s t e h = let k : s.nodes ≡ t.nodes + 1 = ap (λ z. z.nodes) h in let m : 256 ≤ n =
    grind (arith, nat_tests) in omega (arith, k, m)

room_left : (n : ℕ) → nat_lt n 256 ≡ true → n + 1 ≤ 256
room_left n e = grind (arith, nat_tests)

module _ {A : Type 0} (low d : ℕ) (G : A → Size → List Lexeme → Type 0) (follow : Lexeme
    → Bool) where
  stuck_here : (live : (a : A) × (s : Size) × (ts : List Lexeme) × G a s ts) (run : List Lexeme
      → Out A) (n : ℕ) (x : Lexeme) (ts : List Lexeme)
      → ((l : List Lexeme) → run (x ∷ l) ≡ Unexpected n (x ∷ l))
      → Explains d run G n (x ∷ ts) (Unexpected n (x ∷ ts))
  stuck_here live run n x ts e = ([], refl, (live.2, live.0, live.1, live.3), e)

  over_here : (run : List Lexeme → Out A) (n : ℕ) (x : Lexeme) (ts : List Lexeme) (w : What)
      → Live x G → ((l : List Lexeme) → run (x ∷ l) ≡ LimitExceeded w n (x ∷ l))
      → Explains d run G n (x ∷ ts) (LimitExceeded w n (x ∷ ts))
  over_here run n x ts w h e = ([], refl, (h.2, h.0, h.1, h.3), e)

  -- one arm, run from x on
  pub arm_explains : (live : (a : A) × (s : Size) × (ts : List Lexeme) × G a s ts) (run : ℕ
      → List Lexeme → Out A) (n : ℕ) → low ≤ n → (x : Lexeme) (r : Arm A)
      → ((l : List Lexeme) → run n (x ∷ l) ≡ arm_run r x n l) → ArmCorrect low d r x G follow
      → (ts : List Lexeme) → Explains d (run n) G n (x ∷ ts) (arm_run r x n ts)
  arm_explains live run n z x No e h ts = stuck_here live (run n) n x ts e
  arm_explains live run n z x (Takes p) e h ts =
      explains_after (p n) (run n) (λ a s l. G a s (x ∷ l)) G x (λ s. s) d n n (λ s. refl) (λ k. k)
      (λ s k. k) e (λ a s l g. g) ts (p n ts) (h.explains n z ts)
  arm_explains live run n z x (Counts p) e h ts = counted (nat_lt n 256) refl e
    where
      counted : (b : Bool) → nat_lt n 256 ≡ b
          → ((l : List Lexeme) → run n (x ∷ l)
          ≡ cond b (p (n + 1) l) (LimitExceeded what.Nodes n (x ∷ l)))
          → Explains d (run n) G n (x ∷ ts) (cond b (p (n + 1) ts)
          (LimitExceeded what.Nodes n (x ∷ ts)))
      counted true r e2 = explains_after (p (n + 1)) (run n) (λ a s l. G a (one_node s) (x ∷ l)) G x
          one_node d n (n + 1) (λ s. omega arith) (λ k. room_left n r) (λ s k. k) e2 (λ a s l g. g)
          ts (p (n + 1) ts) (h.0.explains (n + 1) (omega (arith, z)) ts)
      counted false r e2 = let l = h.0.live in
          over_here (run n) n x ts what.Nodes (l.0, one_node l.1, l.2, l.3) e2
  arm_explains live run n z x (Whole p) e h ts = whole (p n (x ∷ ts)) (h.0 n z ts)
    where
      same_whole : (make : List Lexeme → Out A) (prefix suffix : List Lexeme)
          → x ∷ ts ≡ prefix ++ suffix → Same (p n) prefix suffix make
          → Same (run n) prefix suffix make
      same_whole make prefix [] e2 s = tt
      same_whole make [] (y ∷ r) e2 s = λ other.
          (let z : x ≡ y = cc in let P : Lexeme
          → Type 0 = λ t. run n (t ∷ other) ≡ p n (t ∷ other) in subst P z (e other)) ∙ s other
      same_whole make (z ∷ prefix) (y ∷ r) e2 s = λ other.
          (let w : x ≡ z = cc in let P : Lexeme
          → Type 0 = λ t. run n (t ∷ (prefix ++ y ∷ other)) ≡ p n (t ∷ (prefix ++ y ∷ other)) in
          subst P w (e (prefix ++ y ∷ other))) ∙ s other

      whole : (o : Out A) → Explains d (p n) G n (x ∷ ts) o → Explains d (run n) G n (x ∷ ts) o
      whole (Parsed a m suffix) k = (
        k.0,
        k.1,
        k.2,
        k.3,
        k.4,
        k.5,
        k.6,
        same_whole (Parsed a m) k.0 suffix k.2 k.7,
      )
      whole (Unexpected c suffix) k = (k.0, k.1, k.2, same_whole (Unexpected c) k.0 suffix k.1 k.3)
      whole (LimitExceeded w c suffix) k = (
        k.0,
        k.1,
        k.2,
        same_whole (LimitExceeded w c) k.0 suffix k.1 k.3,
      )
  arm_explains live run n z x (Refuses w) e h ts = over_here (run n) n x ts w h.0 e
  arm_explains live run n z x (Fills w) e h ts = filled (nat_lt n 256) e
    where
      filled : (b : Bool) → ((l : List Lexeme)
          → run n (x ∷ l) ≡ cond b (LimitExceeded w n (x ∷ l)) (LimitExceeded what.Nodes n (x ∷ l)))
          → Explains d (run n) G n (x ∷ ts) (cond b (LimitExceeded w n (x ∷ ts))
          (LimitExceeded what.Nodes n (x ∷ ts)))
      filled true e2 = over_here (run n) n x ts w h.0 e2
      filled false e2 = over_here (run n) n x ts what.Nodes h.0 e2

  pub arm_complete : (n : ℕ) → low ≤ n → (x : Lexeme) (r : Arm A) → ArmCorrect low d r x G follow
      → (a : A) (s : Size) (prefix suffix : List Lexeme) → G a s (x ∷ prefix) → Stops follow suffix
      → Fine d a s n suffix (arm_run r x n (prefix ++ suffix))
  arm_complete n z x No h a s prefix suffix g stops = absurd (h a s prefix g)
  arm_complete n z x (Takes p) h a s prefix suffix g stops =
      h.complete n z a s prefix suffix g stops
  arm_complete n z x (Counts p) h a s prefix suffix g stops = counted (nat_lt n 256) refl
    where
      node : (t : Size) × (s ≡ one_node t)
      node = h.1 a s prefix g

      counted : (b : Bool) → nat_lt n 256 ≡ b
          → Fine d a s n suffix (cond b (p (n + 1) (prefix ++ suffix))
          (LimitExceeded what.Nodes n (x ∷ (prefix ++ suffix))))
      counted true r =
          let P : Size → Type 0 = λ y. Fine d a y n suffix (p (n + 1) (prefix ++ suffix)) in
          let Q : Size → Type 0 = λ y. G a y (x ∷ prefix) in
          subst P (sym node.1) (fine_node d a node.0 n suffix (p (n + 1) (prefix ++ suffix))
          (h.0.complete (n + 1) (omega (arith, z)) a node.0 prefix suffix (subst Q node.1 g)
          stops))
      counted false r = no_room n s node.0 r node.1
  arm_complete n z x (Whole p) h a s prefix suffix g stops = h.1 n z a s prefix suffix g stops
  arm_complete n z x (Refuses w) h a s prefix suffix g stops = h.1 n z a s prefix g
  arm_complete n z x (Fills w) h a s prefix suffix g stops = filled (nat_lt n 256) refl
    where
      filled : (b : Bool) → nat_lt n 256 ≡ b → Fine d a s n suffix
          (cond b (LimitExceeded w n (x ∷ (prefix ++ suffix)))
          (LimitExceeded what.Nodes n (x ∷ (prefix ++ suffix))))
      filled true r = h.1 n z a s prefix g
      filled false r = let k = h.2 a s prefix g in no_room n s k.0 r k.1

pub choose_correct : {A : Type 0} (low d : ℕ) (arm : Lexeme → Arm A) (G : Grammar A)
    (follow : Lexeme → Bool) → (live : (a : A) × (s : Size) × (ts : List Lexeme) × G a s ts)
    → ((a : A) (s : Size) → G a s [] → ⊥) → ((x : Lexeme) → ArmCorrect low d (arm x) x G follow)
    → IsCorrectParser low d (choose arm) G follow
choose_correct {A} low d arm G follow live some arms =
    record { live = live; explains = explains; complete = complete }
  where
    explains : (n : ℕ) → low ≤ n → (ts : List Lexeme)
        → Explains d (choose arm n) G n ts (choose arm n ts)
    explains n h [] = ([], refl, (live.2, live.0, live.1, live.3), tt)
    explains n h (x ∷ ts) = arm_explains low d G follow live (choose arm) n h x (arm x) (λ l. refl)
        (arms x) ts

    complete : (n : ℕ) → low ≤ n → (a : A) (s : Size) (prefix suffix : List Lexeme) → G a s prefix
        → Stops follow suffix → Fine d a s n suffix (choose arm n (prefix ++ suffix))
    complete n h a s [] suffix g stops = absurd (some a s g)
    complete n h a s (x ∷ prefix) suffix g stops =
        arm_complete low d G follow n h x (arm x) (arms x) a s prefix suffix g stops

-- an arm by a test
pub arm_if : {A : Type 0} (low d : ℕ) (b : Bool) (r1 r2 : Arm A) (x : Lexeme) (G : Grammar A)
    (follow : Lexeme → Bool) → (b ≡ true → ArmCorrect low d r1 x G follow)
    → (b ≡ false → ArmCorrect low d r2 x G follow) → ArmCorrect low d (cond b r1 r2) x G follow
arm_if low d true r1 r2 x G follow h k = h refl
arm_if low d false r1 r2 x G follow h k = k refl

-- what is nothing and counts nothing at the end
pub both_last : (s t : Size) → t ≡ nothing_counted → both s t ≡ s
both_last s t e = ap (both s) e ∙ both_none s

pub map_correct : {A B : Type 0} (low d : ℕ) (f : A → B) (p : Parser A) (G : Grammar A)
    (follow : Lexeme → Bool) → IsCorrectParser low d p G follow
    → IsCorrectParser low d (map_to f p) (grammar.map f G) follow
map_correct {A} {B} low d f p G follow g =
    correct_iff low d (map_to f p) (grammar.seq G (λ a. grammar.pure (f a))) (grammar.map f G)
    follow
    (λ b s l h. (
      h.0,
      h.8.0,
      (let P : List Lexeme → Type 0 = λ t. G h.0 s t in let Q : Size
          → Type 0 = λ z. G h.0 z h.3 in subst P
          (sym (h.6 ∙ ap (λ t. h.3 ++ t) h.8.2 ∙ append-nil h.3))
          (subst Q (sym (h.5 ∙ both_last h.1 h.2 h.8.1)) h.7)),
    ))
    (λ b s l h. (
      h.0,
      s,
      nothing_counted,
      l,
      [],
      sym (both_none s),
      sym (append-nil l),
      h.2,
      (h.1, refl, refl),
    ))
    (bind_correct low d p (λ a. pure (f a)) G (λ a. grammar.pure (f a)) follow follow g
    (λ a. pure_correct low d (f a) follow)
    (λ a b s ts suffix h stops. let P : List Lexeme
    → Type 0 = λ t. Stops follow (t ++ suffix) in subst P (sym h.2) stops))

module _ {A B : Type 0} (d : ℕ) (f : A → B) (p : Parser A) (G : A → Size → List Lexeme
    → Type 0) where
  explains_map : (n : ℕ) (ts : List Lexeme) (o : Out A) → Explains d (p n) G n ts o
      → Explains d (map_to f p n) (grammar.map f G) n ts (and_then o (λ a. pure (f a)))
  explains_map n ts (Parsed a m suffix) h = (
    h.0,
    h.1,
    h.2,
    (a, refl, h.3),
    h.4,
    h.5,
    h.6,
    same_first d p (λ a. pure (f a)) G (λ a. grammar.pure (f a)) n ts (Parsed a m)
        (Parsed (f a) m) h.0 suffix (λ l. refl) h.7,
  )
  explains_map n ts (Unexpected c suffix) h = (
    h.0,
    h.1,
    (h.2.0, f h.2.1, h.2.2, (h.2.1, refl, h.2.3)),
    same_first d p (λ a. pure (f a)) G (λ a. grammar.pure (f a)) n ts (Unexpected c)
        (Unexpected c) h.0 suffix (λ l. refl) h.3,
  )
  explains_map n ts (LimitExceeded w c suffix) h = (
    h.0,
    h.1,
    follow_map h.0 suffix h.2,
    same_first d p (λ a. pure (f a)) G
        (λ a. grammar.pure (f a)) n ts (LimitExceeded w c) (LimitExceeded w c) h.0 suffix
        (λ l. refl) h.3,
  )
    where
      follow_map : (prefix suffix : List Lexeme) → GoesOnWith G prefix suffix
          → GoesOnWith (grammar.map f G) prefix suffix
      follow_map prefix [] k = k
      follow_map prefix (x ∷ suffix) k = (k.0, f k.1, k.2, (k.1, refl, k.3))

  fine_map : (a : A) (s : Size) (n : ℕ) (suffix : List Lexeme) (o : Out A) → Fine d a s n suffix o
      → Fine d (f a) s n suffix (and_then o (λ b. pure (f b)))
  fine_map a s n suffix (Parsed b m r) h = (ap f h.0, h.1, h.2, h.3)
  fine_map a s n suffix (Unexpected c r) h = h
  fine_map a s n suffix (LimitExceeded w c r) h = h

pub one_node_once : (s t : Size) → one_node s ≡ one_node t → s ≡ t
one_node_once s t e = λ i. record {
  nodes = (let k : s.nodes ≡ t.nodes =
      omega (arith, ap (λ z. z.nodes) e) in k) i;
  depth = (e i).depth;
  wide = (e i).wide;
}

-- ---- arms of a node, and of what is open

pub counts_correct : {A : Type 0} (low d : ℕ) (p : Parser A) (x : Lexeme) (G H : Grammar A)
    (follow : Lexeme → Bool) → ((a : A) (s : Size) (l : List Lexeme) → H a s l
    → G a (one_node s) (x ∷ l)) →
    ((a : A) (s : Size) (l : List Lexeme) → G a s (x ∷ l) → grammar.node H a s l)
    → IsCorrectParser low d p H follow → ArmCorrect low d (Counts p) x G follow
counts_correct {A} low d p x G H follow up down correct = (
  correct_iff low d p H (λ a s l. G a (one_node s) (x ∷ l)) follow up
      (λ a s l g. let k = down a (one_node s) l g in let P : Size
      → Type 0 = λ z. H a z l in subst P (sym (one_node_once s k.0 k.1)) k.2) correct,
  λ a s l g. let k = down a s l g in (k.0, k.1),
)

deep_node : (s t u : Size) (d : ℕ) → s ≡ one_node t → t ≡ one_open u → d ≡ 0 → d < s.depth
deep_node s t u d e f z = let k : s.depth ≡ u.depth + 1 = ap (λ y. y.depth) (e ∙ ap one_node f) in
    omega (arith, k, z)

pub opens_correct : {A : Type 0} (low d : ℕ) (may : Bool) (p : Parser A) (x : Lexeme)
    (G H : Grammar A) (follow : Lexeme → Bool) → Live x G
    → ((a : A) (s : Size) (l : List Lexeme) → grammar.opened H a s l → G a (one_node s) (x ∷ l)) →
    ((a : A) (s : Size) (l : List Lexeme) → G a s (x ∷ l) → grammar.node (grammar.opened H) a s l)
    → (may ≡ true → IsCorrectParser low d p (grammar.opened H) follow) → (may ≡ false → d ≡ 0)
    → ArmCorrect low d (cond may (Counts p) (Fills what.Depth)) x G follow
opens_correct {A} low d true p x G H follow live up down deep shallow =
    counts_correct low d p x G (grammar.opened H) follow up down (deep refl)
opens_correct {A} low d false p x G H follow live up down deep shallow = (
  live,
  (λ n z a s l g. let k = down a s l g in let m = k.2 in
      deep_node s k.0 m.0 d k.1 m.1 (shallow refl)),
  (λ a s l g. let k = down a s l g in (k.0, k.1)),
)

pub bracket_correct : {A : Type 0} (low d : ℕ) (may : Bool) (p : Parser A) (x : Lexeme)
    (G H : Grammar A) (follow : Lexeme → Bool) → Live x G
    → ((a : A) (s : Size) (l : List Lexeme) → grammar.opened H a s l → G a s (x ∷ l)) →
    ((a : A) (s : Size) (l : List Lexeme) → G a s (x ∷ l) → grammar.opened H a s l)
    → (may ≡ true → IsCorrectParser low d p (grammar.opened H) follow) → (may ≡ false → d ≡ 0)
    → ArmCorrect low d (cond may (Takes p) (Refuses what.Depth)) x G follow
bracket_correct {A} low d true p x G H follow live up down deep shallow =
    correct_iff low d p (grammar.opened H) (λ a s l. G a s (x ∷ l)) follow up down (deep refl)
bracket_correct {A} low d false p x G H follow live up down deep shallow = (
  live,
  (λ n z a s l g. let k = down a s l g in let e : s.depth ≡ k.0.depth + 1 =
      ap (λ y. y.depth) k.1 in omega (arith, e, shallow refl)),
)

pub whole_correct : {A : Type 0} (low d : ℕ) (p : Parser A) (W G : Grammar A) (x : Lexeme)
    (follow : Lexeme → Bool) → IsCorrectParser low d p W follow
    → ((a : A) (s : Size) (l : List Lexeme) → W a s l → G a s l)
    → ((a : A) (s : Size) (l : List Lexeme) → G a s (x ∷ l) → W a s (x ∷ l))
    → ArmCorrect low d (Whole p) x G follow
whole_correct {A} low d p W G x follow g up down = (
  λ n h ts. explains_iff d (p n) W G up n (x ∷ ts) (p n (x ∷ ts)) (g.explains n h (x ∷ ts)),
  λ n h a s prefix suffix k stops. g.complete n h a s (x ∷ prefix) suffix (down a s prefix k)
      stops,
)

-- ---- as many as there are

-- what stands after what was read is no more than there was
pub got_fewer : {A : Type 0} (low d : ℕ) (p : Parser A) (G : Grammar A) (follow : Lexeme → Bool)
    → IsCorrectParser low d p G follow → (n : ℕ) → low ≤ n
    → (ts : List Lexeme) (a : A) (m : ℕ) (suffix : List Lexeme) → p n ts ≡ Parsed a m suffix
    → length suffix ≤ length ts
got_fewer {A} low d p G follow correct n h ts a m suffix e =
    let P : Out A → Type 0 = λ o. Explains d (p n) G n ts o in
    let x = subst P e (correct.explains n h ts) in
    omega (arith, ap length x.2, length-append x.0 suffix)

and_then_same : {A B : Type 0} (o : Out A) (f g : A → Parser B)
    → ((a : A) (m : ℕ) (suffix : List Lexeme) → o ≡ Parsed a m suffix → f a m suffix ≡ g a m suffix)
    → and_then o f ≡ and_then o g
and_then_same (Parsed a m suffix) f g h = h a m suffix refl
and_then_same (Unexpected c suffix) f g h = refl
and_then_same (LimitExceeded w c suffix) f g h = refl

module _ {A : Type 0} (is : Lexeme → Bool) (item : Parser A)
    (fewer : (n : ℕ) (ts : List Lexeme) (a : A) (m : ℕ) (suffix : List Lexeme)
    → item n ts ≡ Parsed a m suffix → length suffix ≤ length ts) where
  -- two bounds that are not reached
  enough : (k j n : ℕ) (ts : List Lexeme) → length ts ≤ k → length ts ≤ j
      → as_many is item k n ts ≡ as_many is item j n ts
  unfolding as_many
  enough zero zero n ts h i = refl
  enough zero (suc j) n [] h i = refl
  enough zero (suc j) n (x ∷ ts) h i = absurd (omega (arith, h))
  enough (suc k) zero n [] h i = refl
  enough (suc k) zero n (x ∷ ts) h i = absurd (omega (arith, i))
  enough (suc k) (suc j) n [] h i = refl
  enough (suc k) (suc j) n (x ∷ ts) h i =
      ap (λ o. cond (is x) o (Parsed [] n (x ∷ ts)))
      (and_then_same (item n ts) (λ a. map_to (λ o. a ∷ o) (as_many is item k))
      (λ a. map_to (λ o. a ∷ o) (as_many is item j))
      (λ a m suffix e. ap (λ o. and_then o (λ l. pure (a ∷ l)))
      (enough k j m suffix (omega (arith, h, fewer n ts a m suffix e))
      (omega (arith, i, fewer n ts a m suffix e)))))

  pub many_none : (n : ℕ) → many is item n [] ≡ Parsed [] n []
  unfolding as_many
  many_none n = refl

  pub many_some : (n : ℕ) (x : Lexeme) (ts : List Lexeme)
      → many is item n (x ∷ ts) ≡ cond (is x)
      (bind item (λ a. map_to (λ o. a ∷ o) (many is item)) n ts) (Parsed [] n (x ∷ ts))
  unfolding as_many
  many_some n x ts =
      ap (λ o. cond (is x) o (Parsed [] n (x ∷ ts)))
      (and_then_same (item n ts) (λ a. map_to (λ o. a ∷ o) (as_many is item (length ts)))
      (λ a. map_to (λ o. a ∷ o) (many is item))
      (λ a m suffix e. ap (λ o. and_then o (λ l. pure (a ∷ l)))
      (enough (length ts) (length suffix) m suffix (fewer n ts a m suffix e) (omega arith))))

-- ---- a lexeme, and lists after separators

module _ (is : Lexeme → Bool) (sep : Lexeme) (is_sep : is sep ≡ true) (exact : (x : Lexeme)
    → is x ≡ true → x ≡ sep) (low d : ℕ) where
  pub pick_correct : {A : Type 0} (r : Arm A) (G : Grammar A) (follow : Lexeme → Bool)
      → ((a : A) × (s : Size) × (l : List Lexeme) × G a s l)
      → ArmCorrect low d r sep (grammar.lead sep G) follow
      → IsCorrectParser low d (pick is r) (grammar.lead sep G) follow
  pick_correct {A} r G follow live correct = choose_correct low d (λ x. cond (is x) r No)
      (grammar.lead sep G) follow (live.0, live.1, sep ∷ live.2, (live.2, refl, live.3))
      (λ a s g. let e = g.1 in cc) arms
    where
      not_here : (x : Lexeme) → is x ≡ false → (a : A) (s : Size) (l : List Lexeme)
          → grammar.lead sep G a s (x ∷ l) → ⊥
      not_here x e a s l g = let k = g.1 in let z : x ≡ sep = cc in
          true_false (sym is_sep ∙ sym (ap is z) ∙ e)

      arms : (x : Lexeme) → ArmCorrect low d (cond (is x) r No) x (grammar.lead sep G) follow
      arms x = arm_if low d (is x) r No x (grammar.lead sep G) follow
          (λ e. let R : Lexeme → Type 0 = λ t. ArmCorrect low d r t (grammar.lead sep G) follow in
          subst R (sym (exact x e)) correct)
          (not_here x)

  pub after_up : {A : Type 0} (G : Grammar A) (a : A) (s : Size) (l : List Lexeme) → G a s l
      → grammar.lead sep G a s (sep ∷ l)
  after_up G a s l h = (l, refl, h)

  pub after_down : {A : Type 0} (G : Grammar A) (a : A) (s : Size) (l : List Lexeme)
      → grammar.lead sep G a s (sep ∷ l) → G a s l
  after_down G a s l h = let e = h.1 in let z : l ≡ h.0 = cc in let P : List Lexeme
      → Type 0 = λ u. G a s u in subst P (sym z) h.2

  pub after_correct : {A : Type 0} (p : Parser A) (G : Grammar A) (follow : Lexeme → Bool)
      → IsCorrectParser low d p G follow → IsCorrectParser low d p
      (λ a s l. grammar.lead sep G a s (sep ∷ l)) follow
  after_correct p G follow g = correct_iff low d p G (λ a s l. grammar.lead sep G a s (sep ∷ l))
      follow (after_up G) (after_down G) g

  pub lead_correct : {A : Type 0} (p : Parser A) (G : Grammar A) (follow : Lexeme → Bool)
      → IsCorrectParser low d p G follow → IsCorrectParser low d (lead is p) (grammar.lead sep G)
      follow
  lead_correct p G follow g = pick_correct (Takes p) G follow g.live (after_correct p G follow g)

  -- a lexeme that opens a bracket
  pub pick_open_correct : {A : Type 0} (may : Bool) (p : Parser A) (H : Grammar A) (follow : Lexeme
      → Bool) → ((a : A) × (s : Size) × (l : List Lexeme) × H a s l)
      → (may ≡ true → IsCorrectParser low d p (grammar.opened H) follow) → (may ≡ false → d ≡ 0) →
      IsCorrectParser low d (pick is (cond may (Takes p) (Refuses what.Depth)))
      (grammar.lead sep (grammar.opened H)) follow
  pick_open_correct may p H follow live deep shallow =
      pick_correct (cond may (Takes p) (Refuses what.Depth)) (grammar.opened H) follow
      (live.0, one_open live.1, live.2, (live.1, refl, live.3))
      (bracket_correct low d may p sep (grammar.lead sep (grammar.opened H)) H follow
      (live.0, one_open live.1, live.2, (live.2, refl, (live.1, refl, live.3)))
      (after_up (grammar.opened H)) (after_down (grammar.opened H)) deep shallow)

  -- an arm after the lexeme, or a value that takes none
  pub option_correct : {A : Type 0} (r : Arm A) (v : A) (size : Size) (G : Grammar A)
      (follow : Lexeme → Bool) → size.nodes ≡ 0 → Valid d size → G v size []
      → ((a : A) (s : Size) → G a s [] → (v ≡ a) × (s ≡ size))
      → ((a : A) (s : Size) (x : Lexeme) (l : List Lexeme) → G a s (x ∷ l) → is x ≡ true) →
      ((x : Lexeme) → is x ≡ true → follow x ≡ true) → ArmCorrect low d r sep G follow
      → IsCorrectParser low d (option is r v) G follow
  option_correct {A} r v size G follow no_node valid none only starts on correct =
      record { live = (v, size, [], none); explains = explains; complete = complete }
    where
      test : (n : ℕ) → low ≤ n → (x : Lexeme) (ts : List Lexeme) (b : Bool) → is x ≡ b
          → Explains d (option is r v n) G n (x ∷ ts)
          (cond b (arm_run r x n ts) (Parsed v n (x ∷ ts)))
      test n h x ts true e =
          let R : Lexeme → Type 0 = λ t. ArmCorrect low d r t G follow in
          arm_explains low d G follow (v, size, [], none) (option is r v) n h x r
          (λ l. ap (λ b. cond b (arm_run r x n l) (Parsed v n (x ∷ l))) e)
          (subst R (sym (exact x e)) correct) ts
      test n h x ts false e = (
        [],
        size,
        refl,
        none,
        omega (arith, no_node),
        (λ k. k),
        valid,
        λ other. ap (λ b. cond b (arm_run r x n other) (Parsed v n (x ∷ other))) e,
      )

      explains : (n : ℕ) → low ≤ n → (ts : List Lexeme)
          → Explains d (option is r v n) G n ts (option is r v n ts)
      explains n h [] = ([], size, refl, none, omega (arith, no_node), (λ k. k), valid, tt)
      explains n h (x ∷ ts) = test n h x ts (is x) refl

      no_nodes : (s : Size) → s ≡ size → (n : ℕ) → n ≡ n + s.nodes
      no_nodes s e n = let k : s.nodes ≡ size.nodes = ap (λ z. z.nodes) e in
          omega (arith, k, no_node)

      valid_at : (s : Size) → s ≡ size → Valid d s
      valid_at s e = let P : Size → Type 0 = λ z. Valid d z in subst P (sym e) valid

      at_rest : (n : ℕ) (a : A) (s : Size) (suffix : List Lexeme) → (v ≡ a) × (s ≡ size)
          → Stops follow suffix → Fine d a s n suffix (option is r v n suffix)
      at_rest n a s [] e stops = (e.0, refl, no_nodes s e.1 n, valid_at s e.1)
      at_rest n a s (x ∷ suffix) e stops = case (is x) refl
        where
          case : (b : Bool) → is x ≡ b → Fine d a s n (x ∷ suffix)
              (cond b (arm_run r x n suffix) (Parsed v n (x ∷ suffix)))
          case true t = true_false (sym (on x t) ∙ stops)
          case false t = (e.0, refl, no_nodes s e.1 n, valid_at s e.1)

      complete : (n : ℕ) → low ≤ n → (a : A) (s : Size) (prefix suffix : List Lexeme) → G a s prefix
          → Stops follow suffix → Fine d a s n suffix (option is r v n (prefix ++ suffix))
      complete n h a s [] suffix g stops = at_rest n a s suffix (only a s g) stops
      complete n h a s (x ∷ prefix) suffix g stops =
          let e = starts a s x prefix g in
          let R : Lexeme → Type 0 = λ t. ArmCorrect low d r t G follow in
          let Q : Bool → Type 0 = λ b. Fine d a s n suffix
          (cond b (arm_run r x n (prefix ++ suffix)) (Parsed v n (x ∷ (prefix ++ suffix)))) in
          subst Q (sym e) (arm_complete low d G follow n h x r (subst R (sym (exact x e)) correct) a
          s prefix suffix g stops)

  -- the same, where what follows the lexeme is a grammar of its own
  pub option_arm_correct : {A : Type 0} (r : Arm A) (v : A) (H : Grammar A) (follow : Lexeme → Bool)
      → ((x : Lexeme) → is x ≡ true → follow x ≡ true)
      → ArmCorrect low d r sep (grammar.option v sep H) follow
      → IsCorrectParser low d (option is r v) (grammar.option v sep H) follow
  option_arm_correct {A} r v H follow on correct =
      option_correct r v nothing_counted (grammar.option v sep H) follow refl (valid_none d)
      (inl (refl, refl, refl)) only starts on correct
    where
      only : (a : A) (s : Size) → grammar.option v sep H a s [] → (v ≡ a) × (s ≡ nothing_counted)
      only a s (inl h) = (sym h.0, h.1)
      only a s (inr h) = let e = h.1 in cc

      starts : (a : A) (s : Size) (x : Lexeme) (l : List Lexeme)
          → grammar.option v sep H a s (x ∷ l) → is x ≡ true
      starts a s x l (inl h) = let e = h.2 in cc
      starts a s x l (inr h) = let e = h.1 in let z : x ≡ sep = cc in ap is z ∙ is_sep

  option_down : {A : Type 0} (v : A) (H : Grammar A) (a : A) (s : Size) (l : List Lexeme)
      → grammar.option v sep H a s (sep ∷ l) → H a s l
  option_down v H a s l (inl h) = let e = h.2 in cc
  option_down v H a s l (inr h) = after_down H a s l h

  pub option_node_correct : {A : Type 0} (p : Parser A) (v : A) (H : Grammar A) (follow : Lexeme
      → Bool) → ((x : Lexeme) → is x ≡ true → follow x ≡ true) → IsCorrectParser low d p H follow
      → IsCorrectParser low d (option is (Counts p) v) (grammar.option v sep (grammar.node H))
      follow
  option_node_correct {A} p v H follow on g =
      option_arm_correct (Counts p) v (grammar.node H) follow on
      (counts_correct low d p sep (grammar.option v sep (grammar.node H)) H follow
      (λ a s l h. inr (l, refl, (s, refl, h))) (option_down v (grammar.node H)) g)

  pub option_takes_correct : {A : Type 0} (p : Parser A) (v : A) (H : Grammar A) (follow : Lexeme
      → Bool) → ((x : Lexeme) → is x ≡ true → follow x ≡ true) → IsCorrectParser low d p H follow
      → IsCorrectParser low d (option is (Takes p) v) (grammar.option v sep H) follow
  option_takes_correct {A} p v H follow on g = option_arm_correct (Takes p) v H follow on
      (correct_iff low d p H (λ a s l. grammar.option v sep H a s (sep ∷ l)) follow
      (λ a s l h. inr (l, refl, h)) (option_down v H) g)

module _ (is : Lexeme → Bool) (sep : Lexeme) (is_sep : is sep ≡ true) (exact : (x : Lexeme)
    → is x ≡ true → x ≡ sep) (d : ℕ) {A : Type 0} (item : Parser A) (G : A → Size → List Lexeme
    → Type 0) (follow : Lexeme → Bool) (correct : IsCorrectParser 0 d item G follow)
    (stops_sep : follow sep ≡ false) where
  abbrev more_follow : Lexeme → Bool
  more_follow x = is x || follow x

  on : (x : Lexeme) → is x ≡ true → more_follow x ≡ true
  on x e = ap (λ b. b || follow x) e

  off : (b c : Bool) → (b || c) ≡ false → c ≡ false
  off true c e = true_false e
  off false c e = e

  stops_off : (suffix : List Lexeme) → Stops more_follow suffix → Stops follow suffix
  stops_off [] h = tt
  stops_off (x ∷ suffix) h = off (is x) (follow x) h

  module _ (end : ℕ → Size) where
    starts : (j : ℕ) (a : List A) (s : Size) (x : Lexeme) (l : List Lexeme)
        → AreMore sep end G j a s (x ∷ l) → is x ≡ true
    starts j [] s x l h = let e = h.1 in cc
    starts j (a ∷ others) s x l h = let e = h.5 in let z : x ≡ sep = cc in ap is z ∙ is_sep

    only : (j : ℕ) (a : List A) (s : Size) → AreMore sep end G j a s [] → ([] ≡ a) × (s ≡ end j)
    only j [] s h = (refl, h.0)
    only j (a ∷ others) s h = let e = h.5 in cc

    pub side : (j : ℕ) (o : List A) (s : Size) (ts suffix : List Lexeme)
        → AreMore sep end G j o s ts → Stops more_follow suffix → Stops follow (ts ++ suffix)
    side j [] s ts suffix h stops = let P : List Lexeme
        → Type 0 = λ t. Stops follow (t ++ suffix) in subst P (sym h.1) (stops_off suffix stops)
    side j (a ∷ o) s ts suffix h stops = let P : List Lexeme
        → Type 0 = λ t. Stops follow (t ++ suffix) in subst P (sym h.5) stops_sep

    abbrev NextGrammar : ℕ → Grammar (List A)
    NextGrammar j = grammar.seq G (λ a. grammar.map (λ o. a ∷ o) (AreMore sep end G (j + 1)))

    down : (j : ℕ) (v : List A) (s : Size) (l : List Lexeme) → AreMore sep end G j v s (sep ∷ l)
        → NextGrammar j v s l
    down j [] s l h = let e : sep ∷ l ≡ [] = h.1 in cc
    down j (a ∷ o) s l h = let e = h.5 in (
      a,
      h.0,
      h.1,
      h.2,
      h.3,
      h.4,
      (let z : l ≡ h.2 ++ h.3 = cc in z),
      h.6,
      (o, refl, h.7),
    )

    up : (j : ℕ) (v : List A) (s : Size) (l : List Lexeme) → NextGrammar j v s l
        → AreMore sep end G j v s (sep ∷ l)
    up j v s l h =
        let P : List A → Type 0 = λ w. AreMore sep end G j w s (sep ∷ l) in
        subst P (sym h.8.1) (h.1, h.2, h.3, h.4, h.5, ap (λ t. sep ∷ t) h.6, h.7, h.8.2)

    live_one : (j : ℕ) → Live sep (AreMore sep end G j)
    live_one j = let l = correct.live in (
      l.0 ∷ [],
      both l.1 (end (j + 1)),
      l.2,
      (
        l.1,
        end (j + 1),
        l.2,
        [],
        refl,
        ap (λ t. sep ∷ t) (sym (append-nil l.2)),
        l.3,
        (refl, refl),
      ),
    )

    next_correct : (low few j : ℕ) → ((a : A) (s : Size) (us : List Lexeme) → G a s us
        → few ≤ s.nodes) → (p : Parser (List A))
        → IsCorrectParser (low + few) d p (AreMore sep end G (j + 1)) more_follow
        → ArmCorrect low d (Takes (bind item (λ a. map_to (λ o. a ∷ o) p))) sep
        (AreMore sep end G j) more_follow
    next_correct low few j some p h =
        correct_iff low d (bind item (λ a. map_to (λ o. a ∷ o) p)) (NextGrammar j)
        (λ v s l. AreMore sep end G j v s (sep ∷ l)) more_follow (up j) (down j)
        (bind_later low few d item (λ a. map_to (λ o. a ∷ o) p) G
        (λ a. grammar.map (λ o. a ∷ o) (AreMore sep end G (j + 1))) follow more_follow some
        (later 0 low d item G follow (omega arith) correct)
        (λ a. map_correct (low + few) d (λ o. a ∷ o) p (AreMore sep end G (j + 1)) more_follow h)
        (λ a b s ts suffix k stops. side (j + 1) k.0 s ts suffix k.2 stops))

    -- an item, and then more of them
    pub bind_more : {B : Type 0} (low j : ℕ) (q : Parser (List A)) (f : A → List A → B)
        → IsCorrectParser low d q (AreMore sep end G j) more_follow
        → IsCorrectParser low d (bind item (λ a. map_to (f a) q))
        (grammar.seq G (λ a. grammar.map (f a) (AreMore sep end G j))) more_follow
    bind_more low j q f h = bind_correct low d item (λ a. map_to (f a) q) G
        (λ a. grammar.map (f a) (AreMore sep end G j)) follow more_follow
        (later 0 low d item G follow (omega arith) correct)
        (λ a. map_correct low d (f a) q (AreMore sep end G j) more_follow h)
        (λ a b s ts suffix k stops. side j k.0 s ts suffix k.2 stops)

  -- ---- no more than so many

  module _ (w : What) (over : (s : Size) (n : ℕ) → limit w < s.wide w → Exceeds w n d s) where
    at_itself : (j : ℕ) → (so_wide w j).wide w ≡ j
    at_itself j = ap (λ b. cond b j 0) (eq-eqb (rank w) (rank w) refl)

    at_other : (j : ℕ) → j ≤ limit w → (v : What) (b : Bool) → (rank v == rank w) ≡ b
        → cond b j 0 ≤ limit v
    at_other j h v true e = let k : limit v ≡ limit w =
        ap (λ r. get_or limits r 0) (eqb-true (rank v) (rank w) e) in omega (arith, h, k)
    at_other j h v false e = omega arith

    valid_wide : (j : ℕ) → j ≤ limit w → Valid d (so_wide w j)
    valid_wide j h = (omega arith, λ v. at_other j h v (rank v == rank w) refl)

    at_least : (j : ℕ) (o : List A) (s : Size) (ts : List Lexeme)
        → AreMore sep (so_wide w) G j o s ts → j ≤ s.wide w
    at_least j [] s ts h = let k : s.wide w ≡ (so_wide w j).wide w = ap (λ z. z.wide w) h.0 in
        omega (arith, k, at_itself j)
    at_least j (a ∷ o) s ts h = let k : s.wide w ≡ max (h.0.wide w) (h.1.wide w) =
        ap (λ z. z.wide w) h.4 in omega (
          arith,
          k,
          le-max_right (h.0.wide w) (h.1.wide w),
          at_least (j + 1) o h.1 h.3 h.7,
        )

    too_wide : (j : ℕ) → limit w ≡ j → (n : ℕ) → 0 ≤ n → (o : List A) (s : Size) (l : List Lexeme)
        → AreMore sep (so_wide w) G j o s (sep ∷ l) → Exceeds w n d s
    too_wide j e n z [] s l h = let k : sep ∷ l ≡ [] = h.1 in cc
    too_wide j e n z (a ∷ o) s l h = over s n
        (let k : s.wide w ≡ max (h.0.wide w) (h.1.wide w) = ap (λ y. y.wide w) h.4 in
        omega (arith, e, k, le-max_right (h.0.wide w) (h.1.wide w), at_least (j + 1) o h.1 h.3 h.7))

    pub more_correct : (k j : ℕ) → limit w ≡ j + k
        → IsCorrectParser 0 d (more is w item k) (AreMore sep (so_wide w) G j) more_follow
    unfolding more
    more_correct zero j e = option_correct is sep is_sep exact 0 d (Refuses w) [] (so_wide w j)
        (AreMore sep (so_wide w) G j) more_follow refl (valid_wide j (omega (arith, e)))
        (refl, refl) (only (so_wide w) j) (starts (so_wide w) j) on
        (live_one (so_wide w) j, too_wide j (omega (arith, e)))
    more_correct (suc k) j e = option_correct is sep is_sep exact 0 d
        (Takes (bind item (λ a. map_to (λ o. a ∷ o) (more is w item k)))) [] (so_wide w j)
        (AreMore sep (so_wide w) G j) more_follow refl (valid_wide j (omega (arith, e)))
        (refl, refl) (only (so_wide w) j) (starts (so_wide w) j) on
        (next_correct (so_wide w) 0 0 j (λ a s us g. omega arith) (more is w item k)
        (more_correct k (j + 1) (omega (arith, e))))

  -- ---- no more than nodes that are left

  too_many : (low : ℕ) → 257 ≤ low → (j n : ℕ) → low ≤ n → (o : List A) (s : Size) (l : List Lexeme)
      → AreMore sep no_end G j o s (sep ∷ l) → 256 < max (n + s.nodes) (s.wide what.Nodes)
  too_many low h j n z o s l g = omega (arith, h, z)

  nodes_by : (some : (a : A) (s : Size) (us : List Lexeme) → G a s us → 1 ≤ s.nodes) (k j : ℕ)
      → IsCorrectParser (257 - k) d (more is what.Nodes item k) (AreMore sep no_end G j) more_follow
  unfolding more
  nodes_by some zero j = option_correct is sep is_sep exact 257 d (Refuses what.Nodes) []
      nothing_counted (AreMore sep no_end G j) more_follow refl (valid_none d) (refl, refl)
      (only no_end j) (starts no_end j) on
      (live_one no_end j, too_many 257 (omega arith) j)
  nodes_by some (suc k) j = option_correct is sep is_sep exact (257 - suc k) d
      (Takes (bind item (λ a. map_to (λ o. a ∷ o) (more is what.Nodes item k)))) [] nothing_counted
      (AreMore sep no_end G j) more_follow refl (valid_none d) (refl, refl) (only no_end j)
      (starts no_end j) on
      (next_correct no_end (257 - suc k) 1 j some (more is what.Nodes item k)
      (later (257 - k) (257 - suc k + 1) d (more is what.Nodes item k)
      (AreMore sep no_end G (j + 1)) more_follow (omega arith) (nodes_by some k (j + 1))))

  pub nodes_correct : (some : (a : A) (s : Size) (us : List Lexeme) → G a s us → 1 ≤ s.nodes)
      (j : ℕ) → IsCorrectParser 0 d (nodes_more is item) (AreMore sep no_end G j) more_follow
  unfolding nodes_more
  nodes_correct some j = record {
    live = ([], nothing_counted, [], (refl, refl));
    explains = λ n h ts. (nodes_by some (257 - n) j).explains n (omega arith) ts;
    complete = λ n h a s prefix suffix g stops.
        (nodes_by some (257 - n) j).complete n (omega arith) a s prefix suffix g stops;
  }

  -- ---- as many as there are

  abbrev Many : ℕ → Grammar (List A)
  Many j = AreMore sep no_end G j

  abbrev then_many : A → Parser (List A)
  then_many a = map_to (λ o. a ∷ o) (many is item)

  fewer : (n : ℕ) (ts : List Lexeme) (a : A) (m : ℕ) (suffix : List Lexeme)
      → item n ts ≡ Parsed a m suffix → length suffix ≤ length ts
  fewer n ts a m suffix e = got_fewer 0 d item G follow correct n (omega arith) ts a m suffix e

  many_not : (n : ℕ) (x : Lexeme) (ts : List Lexeme) → is x ≡ false
      → many is item n (x ∷ ts) ≡ Parsed [] n (x ∷ ts)
  many_not n x ts e = many_some is item fewer n x ts
      ∙ ap (λ b. cond b (bind item then_many n ts) (Parsed [] n (x ∷ ts))) e

  many_next : (n : ℕ) (ts : List Lexeme) → many is item n (sep ∷ ts) ≡ bind item then_many n ts
  many_next n ts = many_some is item fewer n sep ts
      ∙ ap (λ b. cond b (bind item then_many n ts) (Parsed [] n (sep ∷ ts))) is_sep

  live_many : (j : ℕ) (a : A) → (b : List A) × (t : Size) × (us : List Lexeme)
      × grammar.map (λ o. a ∷ o) (Many j) b t us
  live_many j a = (a ∷ [], nothing_counted, [], ([], refl, (refl, refl)))

  next_many : (j n : ℕ) (x : Lexeme) (ts : List Lexeme)
      → ((a : A) (m : ℕ) (us : List Lexeme) → item n ts ≡ Parsed a m us
      → Explains d (many is item m) (Many (j + 1)) m us (many is item m us)) →
      Explains d (many is item n) (Many j) n (x ∷ ts) (many is item n (x ∷ ts))
  next_many j n x ts others = by_test (is x) yes no
    where
      no : is x ≡ false → Explains d (many is item n) (Many j) n (x ∷ ts) (many is item n (x ∷ ts))
      no e = let P : Out (List A) → Type 0 = λ o.
          Explains d (many is item n) (Many j) n (x ∷ ts) o in
          subst P (sym (many_not n x ts e)) (
            [],
            nothing_counted,
            refl,
            (refl, refl),
            omega arith,
            (λ i. i),
            valid_none d,
            λ other. many_not n x other e,
          )

      inside : Explains d (bind item then_many n) (NextGrammar no_end j) n ts
          (bind item then_many n ts)
      inside = outer d item then_many G (λ a. grammar.map (λ o. a ∷ o) (Many (j + 1))) n ts 0 0
          (omega arith) (λ a s us g. omega arith) (live_many (j + 1)) (item n ts) refl
          (λ a m low us e. explains_map d (λ o. a ∷ o) (many is item) (Many (j + 1)) m us
          (many is item m us) (others a m us e))
          (correct.explains n (omega arith) ts)

      at_sep : Explains d (many is item n) (Many j) n (sep ∷ ts) (many is item n (sep ∷ ts))
      at_sep = let P : Out (List A) → Type 0 = λ o.
          Explains d (many is item n) (Many j) n (sep ∷ ts) o in
          subst P (sym (many_next n ts))
          (explains_after (bind item then_many n) (many is item n) (NextGrammar no_end j) (Many j)
          sep (λ s. s) d n n (λ s. refl) (λ i. i) (λ s i. i) (many_next n) (up no_end j) ts
          (bind item then_many n ts) inside)

      yes : is x ≡ true → Explains d (many is item n) (Many j) n (x ∷ ts) (many is item n (x ∷ ts))
      yes e = let P : Lexeme → Type 0 = λ y. Explains d (many is item n) (Many j) n (y ∷ ts)
          (many is item n (y ∷ ts)) in subst P (sym (exact x e)) at_sep

  explains_many : (k j n : ℕ) (ts : List Lexeme) → length ts ≤ k
      → Explains d (many is item n) (Many j) n ts (many is item n ts)
  explains_many k j n [] h =
      let P : Out (List A) → Type 0 = λ o. Explains d (many is item n) (Many j) n [] o in
      subst P (sym (many_none is item fewer n))
      ([], nothing_counted, refl, (refl, refl), omega arith, (λ i. i), valid_none d, tt)
  explains_many zero j n (x ∷ ts) h = absurd (omega (arith, h))
  explains_many (suc k) j n (x ∷ ts) h = next_many j n x ts
      (λ a m us e. explains_many k (j + 1) m us (omega (arith, h, fewer n ts a m us e)))

  fine_none : (j n : ℕ) (s : Size) (suffix : List Lexeme) → s ≡ nothing_counted
      → Stops more_follow suffix → Fine d [] s n suffix (many is item n suffix)
  fine_none j n s suffix e stops = let Q : Size
      → Type 0 = λ z. Fine d [] z n suffix (many is item n suffix) in
      subst Q (sym e) (by_rest suffix stops)
    where
      by_rest : (r : List Lexeme) → Stops more_follow r
          → Fine d [] nothing_counted n r (many is item n r)
      by_rest [] k = let Q : Out (List A) → Type 0 = λ o. Fine d [] nothing_counted n [] o in
          subst Q (sym (many_none is item fewer n)) (refl, refl, omega arith, valid_none d)
      by_rest (x ∷ r) k = let Q : Out (List A)
          → Type 0 = λ o. Fine d [] nothing_counted n (x ∷ r) o in
          subst Q (sym (many_not n x r (off_left (is x) (follow x) k)))
          (refl, refl, omega arith, valid_none d)
        where
          off_left : (b c : Bool) → (b || c) ≡ false → b ≡ false
          off_left true c e = true_false e
          off_left false c e = refl

  fine_many : (j n : ℕ) (l : List A) (s : Size) (prefix suffix : List Lexeme) → Many j l s prefix
      → Stops more_follow suffix → Fine d l s n suffix (many is item n (prefix ++ suffix))
  fine_many j n [] s prefix suffix g stops = let P : List Lexeme
      → Type 0 = λ u. Fine d [] s n suffix (many is item n (u ++ suffix)) in
      subst P (sym g.1) (fine_none j n s suffix g.0 stops)
  fine_many j n (a ∷ l) s prefix suffix g stops =
      let others : List Lexeme = g.3 ++ suffix in
      let P : Size → Type 0 = λ z. Fine d (a ∷ l) z n suffix (many is item n (prefix ++ suffix)) in
      let Q : Out (List A) → Type 0 = λ o. Fine d (a ∷ l) (both g.0 g.1) n suffix o in
      let same : many is item n (prefix ++ suffix) ≡ and_then (item n (g.2 ++ others)) then_many =
      ap (λ u. many is item n (u ++ suffix)) g.5
      ∙ ap (λ u. many is item n (sep ∷ u)) (append_assoc g.2 g.3 suffix)
      ∙ many_next n (g.2 ++ others) in
      subst P (sym g.4) (subst Q (sym same)
      (fine_inner d item then_many G (λ a. grammar.map (λ o. a ∷ o) (Many (j + 1))) n
      (g.2 ++ others) a (a ∷ l) g.0 g.1 others suffix (item n (g.2 ++ others))
      (λ m e. fine_map d (λ o. a ∷ o) (many is item) (Many (j + 1)) l g.1 m suffix
      (many is item m others) (fine_many (j + 1) m l g.1 g.3 suffix g.7 stops))
      (correct.complete n (omega arith) a g.0 g.2 others g.6
      (side no_end (j + 1) l g.1 g.3 suffix g.7 stops))))

  pub many_correct : (j : ℕ) → IsCorrectParser 0 d (many is item) (AreMore sep no_end G j)
      more_follow
  many_correct j = record {
    live = ([], nothing_counted, [], (refl, refl));
    explains = λ n h ts. explains_many (length ts) j n ts (omega arith);
    complete = λ n h l s prefix suffix g stops. fine_many j n l s prefix suffix g stops;
  }

-- a part that begins with a lexeme stops what does not go on with it
lead_stops : {A : Type 0} (x : Lexeme) (G : Grammar A) (follow : Lexeme → Bool) → follow x ≡ false
    → (b : A) (s : Size) (ts suffix : List Lexeme) → grammar.lead x G b s ts
    → Stops follow (ts ++ suffix)
lead_stops x G follow e b s ts suffix h = let P : List Lexeme
    → Type 0 = λ u. Stops follow (u ++ suffix) in subst P (sym h.1) e

-- a part, and then one that begins with a lexeme that the first does not go on with
pub bind_lead : {A B : Type 0} (low d : ℕ) (p : Parser A) (f : A → Parser B) (G : Grammar A)
    (x : Lexeme) (H : A → Grammar B) (follow goes2 : Lexeme → Bool) → follow x ≡ false →
    IsCorrectParser low d p G follow → ((a : A)
    → IsCorrectParser low d (f a) (grammar.lead x (H a)) goes2)
    → IsCorrectParser low d (bind p f) (grammar.seq G (λ a. grammar.lead x (H a))) goes2
bind_lead low d p f G x H follow goes2 e gp gf =
    bind_correct low d p f G (λ a. grammar.lead x (H a)) follow goes2 gp gf
    (λ a b s ts suffix h stops. lead_stops x (H a) follow e b s ts suffix h)

-- a part, and then maybe more after a lexeme that the first does not go on with
pub bind_option : {A : Type 0} (low d : ℕ) (p : Parser A) (f : A → Parser A) (G : Grammar A)
    (x : Lexeme) (H : A → Grammar A) (follow goes2 : Lexeme → Bool) → follow x ≡ false
    → ((y : Lexeme) → goes2 y ≡ false → follow y ≡ false) →
    IsCorrectParser low d p G follow → ((a : A)
    → IsCorrectParser low d (f a) (grammar.option a x (H a)) goes2)
    → IsCorrectParser low d (bind p f) (grammar.seq G (λ a. grammar.option a x (H a))) goes2
bind_option {A} low d p f G x H follow goes2 e fewer gp gf =
    bind_correct low d p f G (λ a. grammar.option a x (H a)) follow goes2 gp gf side
  where
    off : (suffix : List Lexeme) → Stops goes2 suffix → Stops follow suffix
    off [] h = tt
    off (y ∷ suffix) h = fewer y h

    side : (a b : A) (s : Size) (ts suffix : List Lexeme) → grammar.option a x (H a) b s ts
        → Stops goes2 suffix → Stops follow (ts ++ suffix)
    side a b s ts suffix (inl k) stops = let P : List Lexeme
        → Type 0 = λ u. Stops follow (u ++ suffix) in subst P (sym k.2) (off suffix stops)
    side a b s ts suffix (inr k) stops = lead_stops x (H a) follow e b s ts suffix k

pub last_size : (t s u : Size) → t ≡ both s u → u ≡ nothing_counted → t ≡ s
last_size t s u e f = e ∙ both_last s u f
