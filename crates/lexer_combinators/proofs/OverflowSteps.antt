-- Reading along the tokens at which counts pass their limits, where parts have counts of their own,
-- and the first of them.
use Rattle.std.proofs.Common.{◌≡◌, ℕ, zero, suc, ◌+◌, ◌<◌, ◌≤◌, Bool, true, cond, Option, Some}
use Rattle.std.proofs.Common.{None, List, [], ◌∷◌, ◌++◌, length, drop, get_or, refl, sym, ap, ◌∙◌}
use Rattle.std.proofs.Common.{subst, append_assoc, append-nil, arith, length-append, length-drop}
use Rattle.std.proofs.Common.{Err}
use Rattle.prima_base.specs.declared.refusal.What.{What}
use Rattle.lexer_spec.specs.declared.token.Token.{Token}
use Rattle.lexer_combinators.specs.Grammar.{Grammar}
use Rattle.lexer_combinators.specs.declared.fault.ParseFault.{ParseFault}
use Rattle.lexer_combinators.specs.declared.fault.ParseFault.TheVariants as fault
use Rattle.lexer_combinators.specs.declared.cursor.Stop.{Stop}
use Rattle.lexer_combinators.specs.declared.cursor.Stop.TheVariants as stop
use Rattle.lexer_combinators.specs.declared.cursor.Cursor.{Cursor}
use Rattle.lexer_spec.specs.Lexemes.{Lexeme}
use Rattle.lexer_combinators.specs.Reads.{ahead, Fails}
use Rattle.lexer_combinators.specs.Parsing.{Out, Parsed, Unexpected, LimitExceeded, Parser}
use Rattle.lexer_combinators.specs.Parsing.{Explains, Fine, Exceeds, Valid, CanGoOn}
use Rattle.lexer_combinators.specs.Parsing.{IsCorrectParser, Takes, No, arm_run, and_then, bind}
use Rattle.lexer_combinators.specs.Parsing.{pure, map_to, lead, single, single_arm, set_back}
use Rattle.lexer_combinators.specs.Grammar.{Size}
use Rattle.lexer_combinators.specs.TokenCounts.{TokenCounts, crossed_by}
use Rattle.lexer_combinators.specs.Found.{lexemes_from, IsTooMany, FaultAt}
use Rattle.lexer_combinators.specs.Overflows.{overflows, overflows_after, no_overflows}
use Rattle.lexer_combinators.specs.Overflows.{IsFirstOverflow, OverflowsFirst, IsFaultOf}
use Rattle.lexer_combinators.specs.ListOverflows.{CountsOf, Overflow, count_overflow}
use Rattle.lexer_combinators.proofs.Counted.{along, or_else, by_crossed}
use Rattle.lexer_combinators.proofs.Places.{err_syntax, err_ran_out}
use Rattle.lexer_spec.proofs.Cuts.{drop_prefix}

-- where a token passes a limit, reading ends at the first that does, with so many nodes, and else
-- so
abbrev pub by_overflows : {A : Type 0} → ℕ → List (Option What) → List Lexeme → Out A → Out A
by_overflows n [] ts o = o
by_overflows n (p ∷ ps) [] o = o
by_overflows n (p ∷ ps) (x ∷ ts) o = or_else p n (x ∷ ts) (by_overflows n ps ts o)

-- ---- how it is made of the parts

back_else : {A : Type 0} (k n : ℕ) (p : Option What) (us : List Lexeme) (o : Out A)
    → set_back k (or_else p n us o) ≡ or_else p k us (set_back k o)
back_else k n None us o = refl
back_else k n (Some w) us o = refl

-- a part with counts of its own
pub fresh_along : {A : Type 0} (a : A) (k n : ℕ) (ms : List TokenCounts) (f us : List Lexeme)
    → length ms ≡ length f → set_back k (along 32 a n ms (f ++ us))
    ≡ by_overflows k (overflows_after n ms) (f ++ us) (Parsed a k us)
fresh_along a k n [] [] us e = refl
fresh_along a k n [] (x ∷ f) us e = absurd (omega (arith, e))
fresh_along a k n (m ∷ ms) [] us e = absurd (omega (arith, e))
fresh_along a k n (m ∷ ms) (x ∷ f) us e =
    back_else k n (crossed_by 32 (n + m.nodes) m) (x ∷ (f ++ us))
    (along 32 a (n + m.nodes) ms (f ++ us))
    ∙ ap (or_else (crossed_by 32 (n + m.nodes) m) k (x ∷ (f ++ us)))
    (fresh_along a k (n + m.nodes) ms f us (omega (arith, e)))

then_else : {A B : Type 0} (g : A → Parser B) (p : Option What) (n : ℕ) (us : List Lexeme)
    (o : Out A) → and_then (or_else p n us o) g ≡ or_else p n us (and_then o g)
then_else g None n us o = refl
then_else g (Some w) n us o = refl

-- a part, and then what follows it
pub then_overflows : {A B : Type 0} (g : A → Parser B) (a : A) (n : ℕ) (o : Out B)
    (ps qs : List (Option What)) (f us : List Lexeme) → length ps ≡ length f
    → g a n us ≡ by_overflows n qs us o →
    and_then (by_overflows n ps (f ++ us) (Parsed a n us)) g ≡ by_overflows n (ps ++ qs) (f ++ us) o
then_overflows g a n o [] qs [] us e k = k
then_overflows g a n o [] qs (x ∷ f) us e k = absurd (omega (arith, e))
then_overflows g a n o (p ∷ ps) qs [] us e k = absurd (omega (arith, e))
then_overflows g a n o (p ∷ ps) qs (x ∷ f) us e k =
    then_else g p n (x ∷ (f ++ us)) (by_overflows n ps (f ++ us) (Parsed a n us))
    ∙ ap (or_else p n (x ∷ (f ++ us))) (then_overflows g a n o ps qs f us (omega (arith, e)) k)

pub bind_overflows : {A B : Type 0} (p : Parser A) (g : A → Parser B) (a : A) (n : ℕ) (o : Out B)
    (ps qs : List (Option What)) (f us : List Lexeme) → length ps ≡ length f
    → p n (f ++ us) ≡ by_overflows n ps (f ++ us) (Parsed a n us)
    → g a n us ≡ by_overflows n qs us o →
    bind p g n (f ++ us) ≡ by_overflows n (ps ++ qs) (f ++ us) o
bind_overflows p g a n o ps qs f us e run k = ap (λ r. and_then r g) run
    ∙ then_overflows g a n o ps qs f us e k

-- another value
pub map_overflows : {A B : Type 0} (make : A → B) (a : A) (n : ℕ) (ps : List (Option What))
    (ts us : List Lexeme) → and_then (by_overflows n ps ts (Parsed a n us)) (λ x. pure (make x))
    ≡ by_overflows n ps ts (Parsed (make a) n us)
map_overflows make a n [] ts us = refl
map_overflows make a n (p ∷ ps) [] us = refl
map_overflows make a n (p ∷ ps) (x ∷ ts) us =
    then_else (λ x. pure (make x)) p n (x ∷ ts) (by_overflows n ps ts (Parsed a n us))
    ∙ ap (or_else p n (x ∷ ts)) (map_overflows make a n ps ts us)

-- nothing is counted
pub nothing_overflows : {A : Type 0} (n : ℕ) (f us : List Lexeme) (o : Out A)
    → by_overflows n (no_overflows f) (f ++ us) o ≡ o
nothing_overflows n [] [] o = refl
nothing_overflows n [] (x ∷ us) o = refl
nothing_overflows n (x ∷ f) us o = nothing_overflows n f us o

none_left : {A : Type 0} (n : ℕ) (us : List Lexeme) (o : Out A) → o ≡ by_overflows n [] us o
none_left n us o = refl

pub no_overflows_length : (f : List Lexeme) → length (no_overflows f) ≡ length f
no_overflows_length [] = refl
no_overflows_length (x ∷ f) = ap suc (no_overflows_length f)

pub overflows_length : (n : ℕ) (ms : List TokenCounts) → length (overflows_after n ms) ≡ length ms
overflows_length n [] = refl
overflows_length n (m ∷ ms) = ap suc (overflows_length (n + m.nodes) ms)

-- reading this prefix before that rest goes along these
pub record Along {A : Type 0} (p : Parser A) (a : A) (n : ℕ) (ps : List (Option What))
    (f us : List Lexeme) : Type 0 where
  pub reads : p n (f ++ us) ≡ by_overflows n ps (f ++ us) (Parsed a n us)
  pub sized : length ps ≡ length f

pub along_prefix : {A : Type 0} (p : Parser A) (a : A) (n : ℕ) (ps : List (Option What))
    (f g us : List Lexeme) → f ≡ g → Along p a n ps g us → Along p a n ps f us
along_prefix p a n ps f g us e h = let P : List Lexeme
    → Type 0 = λ l. Along p a n ps l us in subst P (sym e) h

pub along_value : {A : Type 0} (p : Parser A) (a b : A) (n : ℕ) (ps : List (Option What))
    (f us : List Lexeme) → b ≡ a → Along p a n ps f us → Along p b n ps f us
along_value {A} p a b n ps f us e h = let P : A
    → Type 0 = λ v. Along p v n ps f us in subst P (sym e) h

pub along_map : {A B : Type 0} (make : A → B) (p : Parser A) (a : A) (n : ℕ)
    (ps : List (Option What)) (f us : List Lexeme) → Along p a n ps f us
    → Along (map_to make p) (make a) n ps f us
along_map make p a n ps f us h = record {
  reads = ap (λ o. and_then o (λ x. pure (make x))) h.reads
      ∙ map_overflows make a n ps (f ++ us) us;
  sized = h.sized;
}

pub along_bind : {A B : Type 0} (p : Parser A) (k : A → Parser B) (a : A) (b : B) (n : ℕ)
    (ps qs : List (Option What)) (f g us : List Lexeme) → Along p a n ps f (g ++ us)
    → Along (k a) b n qs g us → Along (bind p k) b n (ps ++ qs) (f ++ g) us
along_bind p k a b n ps qs f g us h i = record {
  reads = ap (bind p k n) (append_assoc f g us)
      ∙ bind_overflows p k a n (Parsed b n us) ps qs f (g ++ us) h.sized h.reads i.reads
      ∙ ap (λ l. by_overflows n (ps ++ qs) l (Parsed b n us)) (sym (append_assoc f g us));
  sized = omega (arith, length-append ps qs, length-append f g, h.sized, i.sized);
}

pub along_lead : {A : Type 0} (is : Lexeme → Bool) (x : Lexeme) (p : Parser A) (a : A) (n : ℕ)
    (ps : List (Option What)) (f us : List Lexeme) → is x ≡ true → Along p a n ps f us
    → Along (lead is p) a n (None ∷ ps) (x ∷ f) us
along_lead is x p a n ps f us e h = record {
  reads =
      ap (λ b. arm_run (cond b (Takes p) No) x n (f ++ us)) e ∙ h.reads;
  sized = ap suc h.sized;
}

pub along_single : {A : Type 0} (says : Lexeme → Option A) (x : Lexeme) (a : A) (n : ℕ)
    (us : List Lexeme) → says x ≡ Some a → Along (single says) a n (None ∷ []) (x ∷ []) us
along_single says x a n us e = record {
  reads = ap (λ o. arm_run (single_arm o) x n us) e
      ∙ none_left n us (Parsed a n us);
  sized = refl;
}

-- ---- what follows a prefix changes nothing of how it is read

pub fine_after : {A : Type 0} (a : A) (s : Size) (n : ℕ) (ps : List (Option What))
    (f us : List Lexeme) → length ps ≡ length f
    → Fine 32 a s 0 [] (by_overflows n ps f (Parsed a n []))
    → Fine 32 a s 0 us (by_overflows n ps (f ++ us) (Parsed a n us))
fine_after a s n [] [] us e h = (h.0, refl, h.2, h.3)
fine_after a s n [] (x ∷ f) us e h = absurd (omega (arith, e))
fine_after a s n (p ∷ ps) [] us e h = absurd (omega (arith, e))
fine_after a s n (None ∷ ps) (x ∷ f) us e h = fine_after a s n ps f us (omega (arith, e)) h
fine_after a s n (Some w ∷ ps) (x ∷ f) us e h = let i : Exceeds w 0 32 s = h in i

-- where nothing stands after it
pub whole_along : {A : Type 0} (p : Parser A) (a : A) (n : ℕ) (ps : List (Option What))
    (f : List Lexeme) → Along p a n ps f [] → p n f ≡ by_overflows n ps f (Parsed a n [])
whole_along p a n ps f h = let P : List Lexeme
    → Type 0 = λ l. p n l ≡ by_overflows n ps l (Parsed a n []) in subst P (append-nil f) h.reads

-- so what stands after it may be anything before which it is read along the same
pub read_before : {A : Type 0} (p : Parser A) (G : Grammar A) (follow : Lexeme → Bool)
    → IsCorrectParser 0 32 p G follow → (a : A) (s : Size) (ps : List (Option What))
    (prefix suffix ts : List Lexeme) → ts ≡ prefix ++ suffix → G a s prefix →
    Along p a 0 ps prefix [] → Along p a 0 ps prefix suffix → Fine 32 a s 0 suffix (p 0 ts)
read_before p G follow correct a s ps prefix suffix ts w g alone h =
    let Q : List Lexeme → Type 0 = λ l. Fine 32 a s 0 [] (p 0 l) in
    let here : Fine 32 a s 0 [] (p 0 prefix) =
    subst Q (append-nil prefix) (correct.complete 0 (omega arith) a s prefix [] g tt) in
    subst (Fine 32 a s 0 suffix) (sym (ap (p 0) w ∙ h.reads))
    (fine_after a s 0 ps prefix suffix h.sized
    (subst (Fine 32 a s 0 []) (whole_along p a 0 ps prefix alone) here))

-- ---- the first token that passes a limit

module _ {A : Type 0} (a : A) (n : ℕ) where
  overflows_over : (ps : List (Option What)) (ts us : List Lexeme) (k : ℕ) (w : What)
      → length ps ≤ length ts → IsFirstOverflow w ps k
      → by_overflows n ps ts (Parsed a n us) ≡ LimitExceeded w n (drop k ts)
  overflows_over [] ts us k w h f = let z : None ≡ Some w = f.0 in cc
  overflows_over (p ∷ ps) [] us k w h f = absurd (omega (arith, h))
  overflows_over (p ∷ ps) (x ∷ ts) us zero w h f =
      ap (λ o. or_else o n (x ∷ ts) (by_overflows n ps ts (Parsed a n us))) f.0
  overflows_over (p ∷ ps) (x ∷ ts) us (suc k) w h f =
      ap (λ o. or_else o n (x ∷ ts) (by_overflows n ps ts (Parsed a n us))) (f.1 0 (omega arith))
      ∙ overflows_over ps ts us k w (omega (arith, h))
      (f.0, λ j l. f.1 (suc j) (omega (arith, l)))

  abbrev FirstOverflow : List (Option What) → List Lexeme → What → List Lexeme → Type 0
  FirstOverflow ps ts w left = (k : ℕ) × (k < length ts) × IsFirstOverflow w ps k
      × (left ≡ drop k ts)

  over_first : (ps : List (Option What)) (ts us : List Lexeme) (w : What) (c : ℕ)
      (left : List Lexeme) → length ps ≤ length ts
      → by_overflows n ps ts (Parsed a n us) ≡ LimitExceeded w c left → FirstOverflow ps ts w left
  over_first [] ts us w c left h e = let z : Parsed a n us ≡ LimitExceeded w c left = e in cc
  over_first (p ∷ ps) [] us w c left h e = absurd (omega (arith, h))
  over_first (p ∷ ps) (x ∷ ts) us w c left h e =
      by_crossed p here (λ q. later q (over_first ps ts us w c left (omega (arith, h))
      (sym (ap (λ o. or_else o n (x ∷ ts) (by_overflows n ps ts (Parsed a n us))) q) ∙ e)))
    where
      here : (v : What) → p ≡ Some v → FirstOverflow (p ∷ ps) (x ∷ ts) w left
      here v q =
          let z : ◌≡◌ {A = Out A} (LimitExceeded v n (x ∷ ts)) (LimitExceeded w c left) =
          sym (ap (λ o. or_else o n (x ∷ ts) (by_overflows n ps ts (Parsed a n us))) q) ∙ e in
          let y : v ≡ w = cc in (
            0,
            omega arith,
            (q ∙ ap Some y, λ j l. absurd (omega (arith, l))),
            (let t : left ≡ x ∷ ts = cc in t),
          )

      before : p ≡ None → (k : ℕ) → ((j : ℕ) → j < k → get_or ps j None ≡ None) → (j : ℕ)
          → j < suc k → get_or (p ∷ ps) j None ≡ None
      before q k f zero l = q
      before q k f (suc j) l = f j (omega (arith, l))

      later : p ≡ None → FirstOverflow ps ts w left → FirstOverflow (p ∷ ps) (x ∷ ts) w left
      later q f = (suc f.0, omega (arith, f.1), (f.2.0, before q f.0 f.2.1), f.3)

none_overflows : {A : Type 0} (n : ℕ) (ps : List (Option What)) (ts : List Lexeme) (o : Out A)
    → ((k : ℕ) → get_or ps k None ≡ None) → by_overflows n ps ts o ≡ o
none_overflows n [] ts o h = refl
none_overflows n (p ∷ ps) [] o h = refl
none_overflows n (p ∷ ps) (x ∷ ts) o h = ap (λ r. or_else r n (x ∷ ts) (by_overflows n ps ts o))
    (h 0) ∙ none_overflows n ps ts o (λ k. h (suc k))

-- ---- prefixes

-- two prefixes of as many lexemes are one
pub same_prefix : {A : Type 0} (f g r u : List A) → length r ≡ length u → f ++ r ≡ g ++ u → f ≡ g
same_prefix [] [] r u h e = refl
same_prefix [] (y ∷ g) r u h e = absurd (omega (arith, h, ap length e, length-append g u))
same_prefix (x ∷ f) [] r u h e = absurd (omega (arith, h, ap length e, length-append f r))
same_prefix (x ∷ f) (y ∷ g) r u h e = let z : x ≡ y = cc in let t : f ++ r ≡ g ++ u = cc in
    ap (λ v. v ∷ f) z ∙ ap (λ l. y ∷ l) (same_prefix f g r u h t)

-- ---- what a reader says that goes along them, apart from how many nodes it counts

-- each of its texts is read along these
abbrev pub ReadsAlong : {A : Type 0} (p : Parser A) (G : Grammar A) → Overflow G → Type 0
ReadsAlong {A} p G overflow = (a : A) (s : Size) (f : List Lexeme) (h : G a s f)
    → set_back 0 (p 0 f) ≡ by_overflows 0 (overflow a s f h) f (Parsed a 0 [])

-- they are as many as its lexemes
abbrev pub AsMany : {A : Type 0} (G : Grammar A) → Overflow G → Type 0
AsMany {A} G overflow = (a : A) (s : Size) (f : List Lexeme) (h : G a s f)
    → length (overflow a s f h) ≡ length f

back_overflows : {A : Type 0} (a : A) (ps : List (Option What)) (ts : List Lexeme)
    → set_back 0 (by_overflows 0 ps ts (Parsed a 0 [])) ≡ by_overflows 0 ps ts (Parsed a 0 [])
back_overflows a [] ts = refl
back_overflows a (p ∷ ps) [] = refl
back_overflows a (p ∷ ps) (x ∷ ts) = back_else 0 0 p (x ∷ ts) (by_overflows 0 ps ts (Parsed a 0 []))
    ∙ ap (or_else p 0 (x ∷ ts)) (back_overflows a ps ts)

-- what counts nothing
pub back_reads : {A : Type 0} (p : Parser A) (G : Grammar A) (overflow : Overflow G)
    → ((a : A) (s : Size) (f : List Lexeme) (h : G a s f)
    → p 0 f ≡ by_overflows 0 (overflow a s f h) f (Parsed a 0 [])) → ReadsAlong p G overflow
back_reads p G overflow read a s f h = ap (set_back 0) (read a s f h)
    ∙ back_overflows a (overflow a s f h) f

-- what goes along its token counts
module _ {A : Type 0} (p : Parser A) (G : A → Size → List Lexeme → Type 0) (counts : CountsOf G)
    (sized : (a : A) (s : Size) (f : List Lexeme) (h : G a s f)
    → length (counts a s f h) ≡ length f) where
  pub counts_read : ((a : A) (s : Size) (f : List Lexeme) (h : G a s f)
      → p 0 f ≡ along 32 a 0 (counts a s f h) f) → ReadsAlong p G (count_overflow G counts)
  counts_read counted a s f h =
      let ms = counts a s f h in
      let P : List Lexeme → Type 0 = λ l. set_back 0 (along 32 a 0 ms l)
      ≡ by_overflows 0 (overflows ms) l (Parsed a 0 []) in
      ap (set_back 0) (counted a s f h) ∙ subst P (append-nil f)
      (fresh_along a 0 0 ms f [] (sized a s f h))

  pub counts_sized : AsMany G (count_overflow G counts)
  counts_sized a s f h = overflows_length 0 (counts a s f h) ∙ sized a s f h

-- what is one too many is so whatever is counted before it
back_over : {A : Type 0} (o : Out A) (w : What) (us : List Lexeme)
    → set_back 0 o ≡ LimitExceeded w 0 us → (c : ℕ) × (o ≡ LimitExceeded w c us)
back_over {A} (Parsed a m r) w us e = let z : Parsed a 0 r ≡ LimitExceeded w 0 us = e in cc
back_over {A} (Unexpected m r) w us e = let z : ◌≡◌ {A = Out A} (Unexpected 0 r)
    (LimitExceeded w 0 us) = e in cc
back_over {A} (LimitExceeded v m r) w us e =
    let z : ◌≡◌ {A = Out A} (LimitExceeded v 0 r) (LimitExceeded w 0 us) = e in
    let y : v ≡ w = cc in
    let t : r ≡ us = cc in
    (m, ap (λ u. LimitExceeded u m r) y ∙ ap (LimitExceeded w m) t)

module _ {A : Type 0} (p : Parser A) (G : A → Size → List Lexeme → Type 0) (follow : Lexeme → Bool)
    (correct : IsCorrectParser 0 32 p G follow) (overflow : Overflow G)
    (read : ReadsAlong p G overflow) (sized : AsMany G overflow) where
  explained : (ts : List Lexeme) (o : Out A) → p 0 ts ≡ o → Explains 32 (p 0) G 0 ts o
  explained ts o e = let P : Out A → Type 0 = λ o. Explains 32 (p 0) G 0 ts o in
      subst P e (correct.explains 0 (omega arith) ts)

  -- what is too much here is too much however it goes on
  over_ever : (w : What) (c : ℕ) (prefix : List Lexeme) (x : Lexeme) (more other : List Lexeme)
      → p 0 (prefix ++ x ∷ more) ≡ LimitExceeded w c (x ∷ more)
      → p 0 (prefix ++ x ∷ other) ≡ LimitExceeded w c (x ∷ other)
  over_ever w c prefix x more other e =
      let h = explained (prefix ++ x ∷ more) (LimitExceeded w c (x ∷ more)) e in
      let f : prefix ≡ h.0 = same_prefix prefix h.0 (x ∷ more) (x ∷ more) refl h.1 in
      ap (λ l. p 0 (l ++ x ∷ other)) f ∙ h.3 other

  module _ (w : What) (prefix : List Lexeme) (x : Lexeme) (more : List Lexeme) (a : A) (s : Size)
      (h : G a s (prefix ++ x ∷ more)) where
    abbrev ps : List (Option What)
    ps = overflow a s (prefix ++ x ∷ more) h

    first_is_over : IsFirstOverflow w ps (length prefix) → (c : ℕ)
        × (p 0 (prefix ++ x ∷ more) ≡ LimitExceeded w c (x ∷ more))
    first_is_over f = back_over (p 0 (prefix ++ x ∷ more)) w (x ∷ more)
        (read a s (prefix ++ x ∷ more) h ∙ overflows_over a 0 ps (prefix ++ x ∷ more) []
        (length prefix) w (omega (arith, sized a s (prefix ++ x ∷ more) h)) f
        ∙ ap (LimitExceeded w 0) (drop_prefix prefix (x ∷ more)))

    over_is_first : (c : ℕ) → p 0 (prefix ++ x ∷ more) ≡ LimitExceeded w c (x ∷ more)
        → IsFirstOverflow w ps (length prefix)
    over_is_first c e =
        let f = over_first a 0 ps (prefix ++ x ∷ more) [] w 0 (x ∷ more)
        (omega (arith, sized a s (prefix ++ x ∷ more) h))
        (sym (read a s (prefix ++ x ∷ more) h) ∙ ap (set_back 0) e) in
        let k : f.0 ≡ length prefix = omega (
          arith,
          f.1,
          ap length f.3,
          length-drop f.0 (prefix ++ x ∷ more),
          length-append prefix (x ∷ more),
        ) in
        let P : ℕ → Type 0 = λ j. IsFirstOverflow w ps j in
        subst P k f.2

  module _ (ts : List Lexeme) where
    -- a prefix that passes a limit however it goes on is refused there
    pub overflow_is_over : (w : What) (prefix : List Lexeme) (x : Lexeme) (suffix : List Lexeme)
        → ts ≡ prefix ++ x ∷ suffix → (more : List Lexeme) (a : A) (s : Size)
        (h : G a s (prefix ++ x ∷ more)) → IsFirstOverflow w (overflow a s (prefix ++ x ∷ more) h)
        (length prefix) →
        (c : ℕ) × (p 0 ts ≡ LimitExceeded w c (x ∷ suffix))
    overflow_is_over w prefix x suffix e more a s h f = let o =
        first_is_over w prefix x more a s h f in
        (o.0, ap (p 0) e ∙ over_ever w o.0 prefix x more suffix o.1)

    pub over_at : (w : What) (c : ℕ) (us : List Lexeme) → p 0 ts ≡ LimitExceeded w c us
        → (prefix : List Lexeme) × (x : Lexeme) × (suffix : List Lexeme)
        × (ts ≡ prefix ++ x ∷ suffix) × OverflowsFirst G overflow w prefix x
    over_at w c [] o = let h = explained ts (LimitExceeded w c []) o in absurd h.2
    over_at w c (x ∷ suffix) o =
        let h = explained ts (LimitExceeded w c (x ∷ suffix)) o in
        let here : p 0 (h.0 ++ x ∷ suffix) ≡ LimitExceeded w c (x ∷ suffix) = sym (ap (p 0) h.1)
        ∙ o in (
          h.0,
          x,
          suffix,
          h.1,
          (
            h.2,
            λ more a s g.
                over_is_first w h.0 x more a s g c (over_ever w c h.0 x suffix more here),
          ),
        )

  module _ (list : List Token) (from : ℕ) where
    abbrev tokens : List Lexeme
    tokens = lexemes_from list from

    pub got_overflow : (b : A) (m : ℕ) (left : List Lexeme) → p 0 tokens ≡ Parsed b m left →
        (w : What) (prefix suffix more : List Lexeme) (x : Lexeme) (a : A) (s : Size)
        (h : G a s (prefix ++ x ∷ more)) → tokens ≡ prefix ++ x ∷ suffix
        → IsFirstOverflow w (overflow a s (prefix ++ x ∷ more) h) (length prefix) → ⊥
    got_overflow b m left o w prefix suffix more x a s h e f = let k =
        overflow_is_over tokens w prefix x suffix e more a s h f in
        let z : Parsed b m left ≡ LimitExceeded w k.0 (x ∷ suffix) = sym o ∙ k.1 in cc

    module _ (cur : Cursor) (X : Type 0) where
      over_is : (why : Stop) (f : ParseFault) (w : What) (c : ℕ) (us : List Lexeme)
          → Fails (p 0 tokens) why cur → FaultAt why list (length cur.rest.now) f
          → p 0 tokens ≡ LimitExceeded w c us → IsTooMany {X = X} w (Err f)
      over_is stop.NoMemory f w c us h k o = let P : ParseFault
          → Type 0 = λ v. IsTooMany {X = X} w (Err v) in subst P (sym k) tt
      over_is stop.Unexpected f w c us h k o =
          let z : ◌≡◌ {A = Out A} (Unexpected cur.nodes (ahead cur)) (LimitExceeded w c us) = sym h
          ∙ o in cc
      over_is (stop.TooMany v) f w c us h k o =
          let z : ◌≡◌ {A = Out A} (LimitExceeded v cur.nodes (ahead cur)) (LimitExceeded w c us) =
          sym h ∙ o in
          let P : ParseFault → Type 0 = λ v. IsTooMany {X = X} w (Err v) in
          subst P (sym k) (let y : v ≡ w = cc in y)

      pub err_overflow : (why : Stop) (f : ParseFault) → Fails (p 0 tokens) why cur
          → FaultAt why list (length cur.rest.now) f →
          (w : What) (prefix suffix more : List Lexeme) (x : Lexeme) (a : A) (s : Size)
          (h : G a s (prefix ++ x ∷ more)) → tokens ≡ prefix ++ x ∷ suffix
          → IsFirstOverflow w (overflow a s (prefix ++ x ∷ more) h) (length prefix)
          → IsTooMany {X = X} w (Err f)
      err_overflow why f fails at w prefix suffix more x a s h e first = let o =
          overflow_is_over tokens w prefix x suffix e more a s h first in
          over_is why f w o.0 (x ∷ suffix) fails at o.1

      module _ (fits : from ≤ length list) where
        pub err_fault : (why : Stop) (f : ParseFault) → Fails (p 0 tokens) why cur
            → FaultAt why list (length cur.rest.now) f
            → IsFaultOf {X = X} G overflow list from (Err f)
        err_fault stop.NoMemory f h k = let P : ParseFault
            → Type 0 = λ v. IsFaultOf {X = X} G overflow list from (Err v) in subst P (sym k) tt
        err_fault stop.Unexpected (fault.Syntax at) h k =
            err_syntax p G follow correct list from fits cur stop.Unexpected (fault.Syntax at) h k
            at refl refl
        err_fault stop.Unexpected fault.RanOut h k =
            err_ran_out p G follow correct list from fits cur stop.Unexpected fault.RanOut h k refl
            refl
        err_fault stop.Unexpected fault.NoMemory h k = tt
        err_fault stop.Unexpected (fault.TooMany v m) h k = absurd k
        err_fault (stop.TooMany v) f h k = let P : ParseFault
            → Type 0 = λ u. IsFaultOf {X = X} G overflow list from (Err u) in let o =
            over_at tokens v cur.nodes (ahead cur) h in
            subst P (sym k) (refl, o.0, o.1, o.2, o.3, o.4)

-- ---- what passes a limit is more than it, and where nothing passes one nothing is more

module _ {A : Type 0} (p : Parser A) (G : Grammar A) (follow : Lexeme → Bool)
    (correct : IsCorrectParser 0 32 p G follow) (overflow : Overflow G)
    (read : (a : A) (s : Size) (f : List Lexeme) (h : G a s f)
    → p 0 f ≡ by_overflows 0 (overflow a s f h) f (Parsed a 0 [])) (sized : AsMany G overflow)
    (a : A) (s : Size) (f : List Lexeme) (h : G a s f) where
  fine_whole : Fine 32 a s 0 [] (by_overflows 0 (overflow a s f h) f (Parsed a 0 []))
  fine_whole =
      let P : List Lexeme → Type 0 = λ l. Fine 32 a s 0 [] (p 0 l) in
      let here : Fine 32 a s 0 [] (p 0 f) = subst P (append-nil f)
      (correct.complete 0 (omega arith) a s f [] h tt) in
      subst (Fine 32 a s 0 []) (read a s f h) here

  pub overflow_exceeds : (w : What) (k : ℕ) → IsFirstOverflow w (overflow a s f h) k
      → Exceeds w 0 32 s
  overflow_exceeds w k first = subst (Fine 32 a s 0 [])
      (overflows_over a 0 (overflow a s f h) f [] k w (omega (arith, sized a s f h)) first)
      fine_whole

  pub no_overflow_no_excess : ((k : ℕ) → get_or (overflow a s f h) k None ≡ None) → Valid 32 s
  no_overflow_no_excess none = (subst (Fine 32 a s 0 [])
      (none_overflows 0 (overflow a s f h) f (Parsed a 0 []) none) fine_whole).3
