-- Reading along the token counts of what is read.
use Rattle.std.proofs.Common.{◌≡◌, ℕ, suc, ◌+◌, ◌<◌, ◌≤◌, Bool, true, false, cond, nat_lt, Option}
use Rattle.std.proofs.Common.{Some, None, List, [], ◌∷◌, ◌++◌, length, refl, sym, ap, ◌∙◌, arith}
use Rattle.std.proofs.lemmas.Bool.Decides.{nat_tests}
use Rattle.prima_base.specs.declared.refusal.What.{What}
use Rattle.prima_base.specs.declared.refusal.What.TheVariants as what
use Rattle.lexer_spec.specs.Lexemes.{Lexeme}
use Rattle.lexer_combinators.specs.Parsing.{Out, Parsed, LimitExceeded, Parser, and_then, bind}
use Rattle.lexer_combinators.specs.Parsing.{pure, has_room}
use Rattle.lexer_combinators.specs.TokenCounts.{TokenCounts, plain, node, begins, deeper, opened}
use Rattle.lexer_combinators.specs.TokenCounts.{nodes_in, crossed_by}
use Rattle.lexer_spec.proofs.Cases.{by_test}

-- too much at the start of these, with so many nodes before it, or else
abbrev pub or_else : {A : Type 0} → Option What → ℕ → List Lexeme → Out A → Out A
or_else (Some w) n us o = LimitExceeded w n us
or_else None n us o = o

-- how reading ends that goes along these token counts
abbrev pub along : {A : Type 0} → ℕ → A → ℕ → List TokenCounts → List Lexeme → Out A
along d a n [] ts = Parsed a n ts
along d a n (m ∷ ms) [] = Parsed a n []
along d a n (m ∷ ms) (x ∷ ts) = or_else (crossed_by d (n + m.nodes) m) n (x ∷ ts)
    (along d a (n + m.nodes) ms ts)

few : (d n : ℕ) (m : TokenCounts) → crossed_by d n m ≡ None → n ≤ 256
few d n m e = by_few (nat_lt 256 n) refl e
  where
    by_few : (b : Bool) → nat_lt 256 n ≡ b → cond b (Some what.Nodes)
        (cond (nat_lt d m.depth) (Some what.Depth) (cond (nat_lt 8 m.part) (Some what.Parts) None))
        ≡ None → n ≤ 256
    by_few true f h = let z : Some what.Nodes ≡ None = h in cc
    by_few false f h = grind (arith, nat_tests)

pub by_crossed : {X : Type 0} (o : Option What) → ((w : What) → o ≡ Some w → X) → (o ≡ None → X) → X
by_crossed (Some w) f h = f w refl
by_crossed None f h = h refl

-- one part, and then what follows it
pub then_along : {A B : Type 0} (d : ℕ) (a : A) (b : B) (g : A → Parser B)
    (ms ks : List TokenCounts) (f us : List Lexeme) (n : ℕ) → n ≤ 256 → length ms ≡ length f →
    ((m : ℕ) → m ≤ 256 → m ≡ n + nodes_in ms → g a m us ≡ along d b m ks us)
    → and_then (along d a n ms (f ++ us)) g ≡ along d b n (ms ++ ks) (f ++ us)
then_along d a b g [] ks [] us n h e k = k n h (omega arith)
then_along d a b g [] ks (x ∷ f) us n h e k = absurd (omega (arith, e))
then_along d a b g (m ∷ ms) ks [] us n h e k = absurd (omega (arith, e))
then_along {A} {B} d a b g (m ∷ ms) ks (x ∷ f) us n h e k =
    by_crossed (crossed_by d (n + m.nodes) m)
    (λ w p. ap (λ o. and_then (or_else o n (x ∷ (f ++ us)) (along d a (n + m.nodes) ms (f ++ us)))
    g) p ∙ sym (ap (λ o. or_else o n (x ∷ (f ++ us))
    (along d b (n + m.nodes) (ms ++ ks) (f ++ us))) p))
    (λ p. ap (λ o. and_then (or_else o n (x ∷ (f ++ us)) (along d a (n + m.nodes) ms (f ++ us))) g)
    p
    ∙ then_along d a b g ms ks f us (n + m.nodes) (few d (n + m.nodes) m p) (omega (arith, e))
    (λ j i z. k j i (omega (arith, z)))
    ∙ sym (ap (λ o. or_else o n (x ∷ (f ++ us)) (along d b (n + m.nodes) (ms ++ ks) (f ++ us))) p))

pub bind_along : {A B : Type 0} (d : ℕ) (p : Parser A) (g : A → Parser B) (a : A) (b : B)
    (ms ks : List TokenCounts) (f us : List Lexeme) (n : ℕ) → n ≤ 256 → length ms ≡ length f
    → p n (f ++ us) ≡ along d a n ms (f ++ us) →
    ((m : ℕ) → m ≤ 256 → m ≡ n + nodes_in ms → g a m us ≡ along d b m ks us)
    → bind p g n (f ++ us) ≡ along d b n (ms ++ ks) (f ++ us)
bind_along d p g a b ms ks f us n h e run k = ap (λ o. and_then o g) run
    ∙ then_along d a b g ms ks f us n h e k

map_else : {A B : Type 0} (f : A → B) (p : Option What) (n : ℕ) (us : List Lexeme) (o : Out A)
    → and_then (or_else p n us o) (λ x. pure (f x)) ≡ or_else p n us (and_then o (λ x. pure (f x)))
map_else f (Some w) n us o = refl
map_else f None n us o = refl

-- another value
pub map_along : {A B : Type 0} (d : ℕ) (f : A → B) (a : A) (n : ℕ) (ms : List TokenCounts)
    (ts : List Lexeme) → and_then (along d a n ms ts) (λ x. pure (f x)) ≡ along d (f a) n ms ts
map_along d f a n [] ts = refl
map_along d f a n (m ∷ ms) [] = refl
map_along d f a n (m ∷ ms) (x ∷ ts) = map_else f (crossed_by d (n + m.nodes) m) n (x ∷ ts)
    (along d a (n + m.nodes) ms ts) ∙ ap (or_else (crossed_by d (n + m.nodes) m) n (x ∷ ts))
    (map_along d f a (n + m.nodes) ms ts)

-- ---- one token

above : (n m : ℕ) → n < m → nat_lt n m ≡ true
above n m h = grind (arith, nat_tests)

within : (n m : ℕ) → m ≤ n → nat_lt n m ≡ false
within n m h = grind (arith, nat_tests)

abbrev test_all : Bool → Bool → Bool → Option What
test_all a b c = cond a (Some what.Nodes) (cond b (Some what.Depth) (cond c (Some what.Parts) None))

fits : (d n : ℕ) (m : TokenCounts) → n ≤ 256 → m.depth ≤ d → m.part ≤ 8 → crossed_by d n m ≡ None
fits d n m h i j = rw (within 256 n h, within d m.depth i, within 8 m.part j) refl

too_many : (d n : ℕ) (m : TokenCounts) → 256 < n → crossed_by d n m ≡ Some what.Nodes
too_many d n m h = rw (above 256 n h) refl

too_deep : (d n : ℕ) (m : TokenCounts) → n ≤ 256 → d < m.depth → crossed_by d n m ≡ Some what.Depth
too_deep d n m h i = rw (within 256 n h, above d m.depth i) refl

too_wide : (d n : ℕ) (m : TokenCounts) → n ≤ 256 → m.depth ≤ d → 8 < m.part
    → crossed_by d n m ≡ Some what.Parts
too_wide d n m h i j = rw (within 256 n h, within d m.depth i, above 8 m.part j) refl

crossed_deeper : (d n : ℕ) (m : TokenCounts) → crossed_by (suc d) n (deeper m) ≡ crossed_by d n m
crossed_deeper d n m = let e : nat_lt (suc d) (m.depth + 1) ≡ nat_lt d m.depth =
    grind (arith, nat_tests) in ap (λ b. test_all (nat_lt 256 n) b (nat_lt 8 m.part)) e

-- inside one more open construct
pub open_along : {A : Type 0} (d : ℕ) (a : A) (n : ℕ) (ms : List TokenCounts) (ts : List Lexeme)
    → along (suc d) a n (opened ms) ts ≡ along d a n ms ts
open_along d a n [] ts = refl
open_along d a n (m ∷ ms) [] = refl
open_along d a n (m ∷ ms) (x ∷ ts) = ap (λ o.
    or_else o n (x ∷ ts) (along (suc d) a (n + m.nodes) (opened ms) ts))
    (crossed_deeper d (n + m.nodes) m) ∙ ap (or_else (crossed_by d (n + m.nodes) m) n (x ∷ ts))
    (open_along d a (n + m.nodes) ms ts)

module _ {A : Type 0} (d : ℕ) (a : A) (n : ℕ) (few : n ≤ 256) (ms : List TokenCounts) (x : Lexeme)
    (ts : List Lexeme) where
  -- a token that passes no limit
  step : (k : ℕ) (m : TokenCounts) → k ≡ n + m.nodes → k ≤ 256 → m.depth ≤ d → m.part ≤ 8
      → along d a n (m ∷ ms) (x ∷ ts) ≡ along d a k ms ts
  step k m e h i j = rw (← e) (ap (λ o. or_else o n (x ∷ ts) (along d a k ms ts))
      (fits d k m h i j))

  -- and one that does
  stop : (k : ℕ) (m : TokenCounts) (w : What) → k ≡ n + m.nodes → crossed_by d k m ≡ Some w
      → along d a n (m ∷ ms) (x ∷ ts) ≡ LimitExceeded w n (x ∷ ts)
  stop k m w e h = rw (← e) (ap (λ o. or_else o n (x ∷ ts) (along d a k ms ts)) h)

  pub plain_along : along d a n (plain ∷ ms) (x ∷ ts) ≡ along d a n ms ts
  plain_along = step n plain (omega arith) few (omega arith) (omega arith)

  pub part_along : (j : ℕ) → j ≤ 8 → along d a n (begins j ∷ ms) (x ∷ ts) ≡ along d a n ms ts
  part_along j h = step n (begins j) (omega arith) few (omega arith) h

  pub part_over : (j : ℕ) → 8 < j → along d a n (begins j ∷ ms) (x ∷ ts)
      ≡ LimitExceeded what.Parts n (x ∷ ts)
  part_over j h = stop n (begins j) what.Parts (omega arith)
      (too_wide d n (begins j) few (omega arith) h)

  -- where a node is counted
  counted : (u v : Out A) → (n + 1 ≤ 256 → u ≡ v)
      → (256 < n + 1 → u ≡ LimitExceeded what.Nodes n (x ∷ ts))
      → u ≡ cond (has_room n) v (LimitExceeded what.Nodes n (x ∷ ts))
  counted u v h k = by_test (has_room n) (λ r. h (grind (arith, nat_tests))
      ∙ sym (ap (λ b. cond b v (LimitExceeded what.Nodes n (x ∷ ts))) r))
      (λ r. k (grind (arith, nat_tests)) ∙ sym
      (ap (λ b. cond b v (LimitExceeded what.Nodes n (x ∷ ts))) r))

  pub node_along : along d a n (node ∷ ms) (x ∷ ts)
      ≡ cond (has_room n) (along d a (n + 1) ms ts) (LimitExceeded what.Nodes n (x ∷ ts))
  node_along = counted (along d a n (node ∷ ms) (x ∷ ts)) (along d a (n + 1) ms ts)
      (λ h. step (n + 1) node refl h (omega arith) (omega arith))
      (λ h. stop (n + 1) node what.Nodes refl (too_many d (n + 1) node h))

-- what cannot be opened
module _ {A : Type 0} (a : A) (n : ℕ) (few : n ≤ 256) (ms : List TokenCounts) (x : Lexeme)
    (ts : List Lexeme) where
  pub shut_along : along 0 a n (deeper plain ∷ ms) (x ∷ ts) ≡ LimitExceeded what.Depth n (x ∷ ts)
  shut_along = stop 0 a n few ms x ts n (deeper plain) what.Depth (omega arith)
      (too_deep 0 n (deeper plain) few (omega arith))

  pub shut_node_along : along 0 a n (deeper node ∷ ms) (x ∷ ts)
      ≡ cond (has_room n) (LimitExceeded what.Depth n (x ∷ ts))
      (LimitExceeded what.Nodes n (x ∷ ts))
  shut_node_along = counted 0 a n few ms x ts (along 0 a n (deeper node ∷ ms) (x ∷ ts))
      (LimitExceeded what.Depth n (x ∷ ts))
      (λ h. stop 0 a n few ms x ts (n + 1) (deeper node) what.Depth refl
      (too_deep 0 (n + 1) (deeper node) h (omega arith)))
      (λ h. stop 0 a n few ms x ts (n + 1) (deeper node) what.Nodes refl
      (too_many 0 (n + 1) (deeper node) h))
