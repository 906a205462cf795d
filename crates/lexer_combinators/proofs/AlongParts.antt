-- Readers that go along the tokens at which counts pass their limits, by how their grammars are
-- made of others.
use Rattle.std.proofs.Common.{◌≡◌, ℕ, zero, suc, ◌+◌, ◌≤◌, ◌<◌, nat_lt, Bool, true, false, cond}
use Rattle.std.proofs.Common.{◌||◌, Option, Some, None, List, [], ◌∷◌, ◌++◌, ◌⊎◌, length, inl, inr}
use Rattle.std.proofs.Common.{refl, sym, ap, ◌∙◌, subst, append_assoc, append-nil, arith}
use Rattle.std.proofs.Common.{length-append}
use Rattle.std.proofs.lemmas.Bool.Decides.{nat_tests}
use Rattle.prima_base.specs.declared.refusal.What.{What}
use Rattle.prima_base.specs.declared.refusal.What.TheVariants as what
use Rattle.lexer_spec.specs.Lexemes.{Lexeme}
use Rattle.lexer_combinators.specs.Grammar.{Grammar}
use Rattle.lexer_combinators.specs.Parsing.{Out, Parsed, Unexpected, LimitExceeded, Parser}
use Rattle.lexer_combinators.specs.Parsing.{IsCorrectParser, Explains, Fine, Exceeds, Valid, Stops}
use Rattle.lexer_combinators.specs.Parsing.{Takes, Refuses, limit, bind, lead, map_to, option}
use Rattle.lexer_combinators.specs.Parsing.{many, more, fresh, set_back}
use Rattle.lexer_combinators.specs.Grammar.{Size, nothing_counted, both, AreMore, no_end, so_wide}
use Rattle.lexer_combinators.specs.Grammar as grammar
use Rattle.lexer_combinators.specs.TokenCounts.{TokenCounts}
use Rattle.lexer_combinators.specs.Overflows.{no_overflows}
use Rattle.lexer_combinators.specs.ListOverflows.{Overflow, none_overflow, fresh_overflow}
use Rattle.lexer_combinators.specs.ListOverflows.{lead_overflow, map_overflow, bind_overflow}
use Rattle.lexer_combinators.specs.ListOverflows.{option_overflow, more_overflow, list_overflow}
use Rattle.lexer_combinators.specs.ListOverflows.{full_at, counted_overflow}
use Rattle.lexer_combinators.specs.Reads.{sees}
use Rattle.lexer_combinators.proofs.Parsing.{valid_none, valid_both, got_fewer, many_some, side}
use Rattle.lexer_combinators.proofs.Alternatives.{or_left}
use Rattle.lexer_combinators.proofs.Fresh.{fresh_correct}
use Rattle.lexer_combinators.proofs.Counted.{along, or_else, by_crossed}
use Rattle.lexer_combinators.proofs.ManySteps.{many_first, many_done}
use Rattle.lexer_combinators.proofs.ReadSteps.{option_not, option_takes, option_refuses}
use Rattle.lexer_combinators.proofs.OverflowSteps.{same_prefix, by_overflows, fresh_along}
use Rattle.lexer_combinators.proofs.OverflowSteps.{nothing_overflows, no_overflows_length}
use Rattle.lexer_combinators.proofs.OverflowSteps.{overflows_length, Along, along_prefix}
use Rattle.lexer_combinators.proofs.OverflowSteps.{along_value}
use Rattle.lexer_combinators.proofs.OverflowSteps.{along_map, along_bind, along_lead}

-- each of its texts is read along its tokens, up to what it does not go on with
abbrev pub GoesAlong : {A : Type 0} (p : Parser A) (G : Grammar A) (follow : Lexeme → Bool)
    → Overflow G → Type 0
GoesAlong {A} p G follow ps = (a : A) (s : Size) (f : List Lexeme) (h : G a s f) (us : List Lexeme)
    → Stops follow us → Along p a 0 (ps a s f h) f us

pub stops_along : {A : Type 0} (p : Parser A) (G : Grammar A) (follow goes2 : Lexeme → Bool)
    (ps : Overflow G) → ((x : Lexeme) → goes2 x ≡ false → follow x ≡ false)
    → GoesAlong p G follow ps → GoesAlong p G goes2 ps
stops_along p G follow goes2 ps fewer k a s f h us stops = k a s f h us (by_rest us stops)
  where
    by_rest : (us : List Lexeme) → Stops goes2 us → Stops follow us
    by_rest [] e = tt
    by_rest (x ∷ us) e = fewer x e

pub lead_follow : {A : Type 0} (is : Lexeme → Bool) (x : Lexeme) → is x ≡ true
    → (p : Parser A) (G : Grammar A) (follow : Lexeme → Bool) (ps : Overflow G)
    → GoesAlong p G follow ps → GoesAlong (lead is p) (grammar.lead x G) follow
    (lead_overflow x G ps)
lead_follow is x e p G follow ps k a s f h us stops =
    along_prefix (lead is p) a 0 (None ∷ ps a s h.0 h.2) f (x ∷ h.0) us h.1
    (along_lead is x p a 0 (ps a s h.0 h.2) h.0 us e (k a s h.0 h.2 us stops))

-- after its first lexeme it is read by another reader
pub after_follow : {A : Type 0} (p q : Parser A) (x : Lexeme)
    → ((ts : List Lexeme) → p 0 (x ∷ ts) ≡ q 0 ts)
    → (G : Grammar A) (follow : Lexeme → Bool) (ps : Overflow G) → GoesAlong q G follow ps
    → GoesAlong p (grammar.lead x G) follow (lead_overflow x G ps)
after_follow p q x e G follow ps k a s f h us stops =
    let r = k a s h.0 h.2 us stops in
    along_prefix p a 0 (None ∷ ps a s h.0 h.2) f (x ∷ h.0) us h.1
    (record { reads = e (h.0 ++ us) ∙ r.reads; sized = ap suc r.sized })

pub map_follow : {A B : Type 0} (m : A → B) (p : Parser A) (G : Grammar A) (follow : Lexeme → Bool)
    (ps : Overflow G) → GoesAlong p G follow ps
    → GoesAlong (map_to m p) (grammar.map m G) follow (map_overflow m G ps)
map_follow m p G follow ps k b s f h us stops =
    along_value (map_to m p) (m h.0) b 0 (ps h.0 s f h.2) f us h.1
    (along_map m p h.0 0 (ps h.0 s f h.2) f us (k h.0 s f h.2 us stops))

pub bind_follow : {A B : Type 0} (p : Parser A) (k : A → Parser B) (G : Grammar A) (H : A
    → Grammar B) (follow goes2 : Lexeme → Bool) (ps : Overflow G) (qs : (a : A) → Overflow (H a)) →
    GoesAlong p G follow ps → ((a : A) → GoesAlong (k a) (H a) goes2 (qs a))
    → ((a : A) (b : B) (s : Size) (ts rest : List Lexeme) → H a b s ts → Stops goes2 rest
    → Stops follow (ts ++ rest)) → GoesAlong (bind p k) (grammar.seq G H) goes2
    (bind_overflow G H ps qs)
bind_follow p k G H follow goes2 ps qs gp gk stopping b s f h us stops =
    along_prefix (bind p k) b 0 (bind_overflow G H ps qs b s f h) f (h.3 ++ h.4) us h.6
    (along_bind p k h.0 b 0 (ps h.0 h.1 h.3 h.7) (qs h.0 b h.2 h.4 h.8) h.3 h.4 us
    (gp h.0 h.1 h.3 h.7 (h.4 ++ us) (stopping h.0 b h.2 h.4 us h.8 stops))
    (gk h.0 b h.2 h.4 h.8 us stops))

sees_no : (is follow : Lexeme → Bool) → ((x : Lexeme) → follow x ≡ false → is x ≡ false)
    → (us : List Lexeme) → Stops follow us → sees is us ≡ false
sees_no is follow covers [] h = refl
sees_no is follow covers (x ∷ us) h = covers x h

pub option_follow : {A : Type 0} (is : Lexeme → Bool) (x : Lexeme) → is x ≡ true
    → (p : Parser A) (v : A) (G : Grammar A) (follow : Lexeme → Bool)
    → ((y : Lexeme) → follow y ≡ false → is y ≡ false) → (ps : Overflow G) →
    GoesAlong p G follow ps → GoesAlong (option is (Takes p) v) (grammar.option v x G) follow
    (option_overflow v x G ps)
option_follow is x e p v G follow covers ps k b s f (inl h) us stops =
    along_prefix (option is (Takes p) v) b 0 [] f [] us h.2
    (along_value (option is (Takes p) v) v b 0 [] [] us h.0
    (record {
      reads = option_not is (Takes p) v 0 us (sees_no is follow covers us stops);
      sized = refl;
    }))
option_follow is x e p v G follow covers ps k b s f (inr h) us stops =
    let r = k b s h.0 h.2 us stops in
    along_prefix (option is (Takes p) v) b 0 (None ∷ ps b s h.0 h.2) f (x ∷ h.0) us h.1
    (record {
      reads = option_takes is p v 0 (x ∷ (h.0 ++ us)) e ∙ r.reads;
      sized =
          ap suc r.sized;
    })

-- ---- where nothing is counted

-- what it spells has no node, and is not too much
abbrev pub Light : {A : Type 0} → Grammar A → Type 0
Light {A} G = (a : A) (s : Size) (f : List Lexeme) → G a s f → (s.nodes ≡ 0) × Valid 32 s

pub none_light : (s : Size) → s ≡ nothing_counted → (s.nodes ≡ 0) × Valid 32 s
none_light s e = let P : Size → Type 0 = λ z. (z.nodes ≡ 0)
    × Valid 32 z in subst P (sym e) (refl, valid_none 32)

pub pure_light : {A : Type 0} (v : A) → Light (grammar.pure v)
pure_light v a s f h = none_light s h.1

pub single_light : {A : Type 0} (says : Lexeme → Option A) → Light (grammar.single says)
single_light says a s f h = none_light s h.2

pub lead_light : {A : Type 0} (x : Lexeme) (G : Grammar A) → Light G → Light (grammar.lead x G)
lead_light x G g a s f h = g a s h.0 h.2

pub map_light : {A B : Type 0} (m : A → B) (G : Grammar A) → Light G → Light (grammar.map m G)
map_light m G g b s f h = g h.0 s f h.2

two_light : (s t u : Size) → s ≡ both t u → (t.nodes ≡ 0) × Valid 32 t → (u.nodes ≡ 0) × Valid 32 u
    → (s.nodes ≡ 0) × Valid 32 s
two_light s t u e h k = let P : Size → Type 0 = λ z. Valid 32 z in
    (omega (arith, ap (λ z. z.nodes) e, h.0, k.0), subst P (sym e) (valid_both 32 t u h.1 k.1))

pub bind_light : {A B : Type 0} (G : Grammar A) (H : A → Grammar B) → Light G
    → ((a : A) → Light (H a)) → Light (grammar.seq G H)
bind_light G H g k b s f h = two_light s h.1 h.2 h.5 (g h.0 h.1 h.3 h.7) (k h.0 b h.2 h.4 h.8)

pub more_light : {A : Type 0} (x : Lexeme) (G : Grammar A) → Light G → (j : ℕ)
    → Light (AreMore x no_end G j)
more_light x G g j [] s f h = none_light s h.0
more_light x G g j (a ∷ l) s f h = two_light s h.0 h.1 h.4 (g a h.0 h.2 h.6)
    (more_light x G g (j + 1) l h.1 h.3 h.7)

pub list_light : {A : Type 0} (x : Lexeme) (G : Grammar A) → Light G → Light (grammar.list x G)
list_light x G g = bind_light G (λ a. grammar.map (λ l. a ∷ l) (AreMore x no_end G 0)) g
    (λ a. map_light (λ l. a ∷ l) (AreMore x no_end G 0) (more_light x G g 0))

-- what is within the limits exceeds none
pub within_none : (w : What) (s : Size) → s.nodes ≤ 256 → Valid 32 s → Exceeds w 0 32 s → ⊥
within_none what.Nodes s h l k = omega (arith, h, l.1 what.Nodes, k)
within_none what.Depth s h l k = omega (arith, l.0, k)
within_none what.Parts s h l k = omega (arith, l.1 what.Parts, k)
within_none what.Tables s h l k = omega (arith, l.1 what.Tables, k)
within_none what.Branches s h l k = omega (arith, l.1 what.Branches, k)
within_none what.Outputs s h l k = omega (arith, l.1 what.Outputs, k)
within_none what.Keeps s h l k = omega (arith, l.1 what.Keeps, k)
within_none what.Changes s h l k = omega (arith, l.1 what.Changes, k)
within_none what.Columns s h l k = omega (arith, l.1 what.Columns, k)
within_none what.Inverse s h l k = omega (arith, l.1 what.Inverse, k)
within_none what.Versions s h l k = omega (arith, l.1 what.Versions, k)

-- what is not too much is read
fine_got : {A : Type 0} (a : A) (s : Size) (us : List Lexeme) (o : Out A) → s.nodes ≤ 256
    → Valid 32 s → Fine 32 a s 0 us o → o ≡ Parsed a s.nodes us
fine_got a s us (Parsed b m r) few l h = let e : m ≡ s.nodes = omega (arith, h.2) in
    ap (λ x. Parsed x m r) h.0 ∙ ap (λ k. Parsed a k r) e ∙ ap (Parsed a s.nodes) h.1
fine_got a s us (Unexpected c r) few l h = absurd h
fine_got a s us (LimitExceeded w c r) few l h = absurd (within_none w s few l h)

-- a text of a grammar, of which nothing is counted
pub light_along : {A : Type 0} (p : Parser A) (G : Grammar A) (follow : Lexeme → Bool)
    → IsCorrectParser 0 32 p G follow → (a : A) (s : Size) (f : List Lexeme) → G a s f
    → (s.nodes ≡ 0) × Valid 32 s → (us : List Lexeme) → Stops follow us
    → Along p a 0 (no_overflows f) f us
light_along p G follow correct a s f h l us stops = record {
  reads = fine_got a s us (p 0 (f ++ us)) (omega (arith, l.0)) l.1
      (correct.complete 0 (omega arith) a s f us h stops) ∙ ap (λ n. Parsed a n us) l.0
      ∙ sym (nothing_overflows 0 f us (Parsed a 0 us));
  sized = no_overflows_length f;
}

pub light_follow : {A : Type 0} (p : Parser A) (G : Grammar A) (follow : Lexeme → Bool)
    → IsCorrectParser 0 32 p G follow → Light G → GoesAlong p G follow (none_overflow G)
light_follow p G follow correct light a s f h us stops =
    light_along p G follow correct a s f h (light a s f h) us stops

-- ---- what follows changes nothing

-- along these either all is read, or a token is refused, whatever follows
abbrev Ended : {A : Type 0} → A → List (Option What) → List Lexeme → Type 0
Ended {A} a ps f =
    ((us : List Lexeme) → by_overflows 0 ps (f ++ us) (Parsed a 0 us) ≡ Parsed a 0 us) ⊎
    ((w : What) × (prefix : List Lexeme) × (x : Lexeme) × (rest : List Lexeme)
    × (f ≡ prefix ++ x ∷ rest) × ((us : List Lexeme)
    → by_overflows 0 ps (f ++ us) (Parsed a 0 us) ≡ LimitExceeded w 0 (x ∷ (rest ++ us))))

ended : {A : Type 0} (a : A) (ps : List (Option What)) (f : List Lexeme) → length ps ≡ length f
    → Ended a ps f
ended a [] [] e = inl (λ us. refl)
ended a [] (x ∷ f) e = absurd (omega (arith, e))
ended a (p ∷ ps) [] e = absurd (omega (arith, e))
ended {A} a (p ∷ ps) (x ∷ f) e = by_crossed p
    (λ w q. inr (
      w,
      [],
      x,
      f,
      refl,
      λ us. ap (λ o.
          or_else o 0 (x ∷ (f ++ us)) (by_overflows 0 ps (f ++ us) (Parsed a 0 us))) q,
    ))
    (λ q. later q (ended a ps f (omega (arith, e))))
  where
    later : p ≡ None → Ended a ps f → Ended a (p ∷ ps) (x ∷ f)
    later q (inl h) = inl (λ us. ap (λ o. or_else o 0 (x ∷ (f ++ us))
        (by_overflows 0 ps (f ++ us) (Parsed a 0 us))) q ∙ h us)
    later q (inr h) = inr (
      h.0,
      x ∷ h.1,
      h.2,
      h.3,
      ap (λ l. x ∷ l) h.4,
      λ us.
          ap (λ o. or_else o 0 (x ∷ (f ++ us)) (by_overflows 0 ps (f ++ us) (Parsed a 0 us))) q
          ∙ h.5 us,
    )

module _ {A : Type 0} (p : Parser A) (G : A → Size → List Lexeme → Type 0) (follow : Lexeme → Bool)
    (correct : IsCorrectParser 0 32 p G follow) where
  -- what is read whole along these is read so before what it does not go on with
  before : (a : A) (s : Size) (f : List Lexeme) (ps : List (Option What)) → G a s f
      → Along p a 0 ps f [] → (us : List Lexeme) → Stops follow us
      → p 0 (f ++ us) ≡ by_overflows 0 ps (f ++ us) (Parsed a 0 us)
  before a s f ps g whole us stops = by_end (ended a ps f whole.sized)
    where
      alone : (o : Out A) → by_overflows 0 ps (f ++ []) (Parsed a 0 []) ≡ o → p 0 f ≡ o
      alone o e = ap (p 0) (sym (append-nil f)) ∙ whole.reads ∙ e

      by_end : Ended a ps f → p 0 (f ++ us) ≡ by_overflows 0 ps (f ++ us) (Parsed a 0 us)
      by_end (inl h) =
          let e : p 0 f ≡ Parsed a 0 [] = alone (Parsed a 0 []) (h []) in
          let Q : Out A → Type 0 = λ o. Fine 32 a s 0 [] o in
          let y = subst Q (ap (p 0) (append-nil f) ∙ e)
          (correct.complete 0 (omega arith) a s f [] g tt) in
          let z : s.nodes ≡ 0 = omega (arith, y.2) in
          fine_got a s us (p 0 (f ++ us)) (omega (arith, z)) y.3
          (correct.complete 0 (omega arith) a s f us g stops) ∙ ap (λ n. Parsed a n us) z
          ∙ sym (h us)
      by_end (inr h) =
          let w = h.0 in
          let x = h.2 in
          let rest = h.3 in
          let e : p 0 f ≡ LimitExceeded w 0 (x ∷ rest) =
          alone (LimitExceeded w 0 (x ∷ rest))
          (h.5 [] ∙ ap (λ l. LimitExceeded w 0 (x ∷ l)) (append-nil rest)) in
          let P : Out A → Type 0 = λ o. Explains 32 (p 0) G 0 f o in
          let k = subst P e (correct.explains 0 (omega arith) f) in
          let same : h.1 ≡ k.0 = same_prefix h.1 k.0 (x ∷ rest) (x ∷ rest) refl (sym h.4 ∙ k.1) in
          let whole_prefix : f ++ us ≡ k.0 ++ x ∷ (rest ++ us) = ap (λ l. l ++ us) h.4
          ∙ append_assoc h.1 (x ∷ rest) us ∙ ap (λ l. l ++ x ∷ (rest ++ us)) same in
          ap (p 0) whole_prefix ∙ k.3 (rest ++ us) ∙ sym (h.5 us)

  pub whole_follow : (ps : Overflow G) → ((a : A) (s : Size) (f : List Lexeme) (h : G a s f)
      → Along p a 0 (ps a s f h) f []) → GoesAlong p G follow ps
  whole_follow ps whole a s f h us stops = record {
    reads =
        before a s f (ps a s f h) h (whole a s f h) us stops;
    sized = (whole a s f h).sized;
  }

-- ---- with counts of its own

module _ {A : Type 0} (p : Parser A) (G : A → Size → List Lexeme → Type 0) (follow : Lexeme → Bool)
    (correct : IsCorrectParser 0 32 p G follow) where
  pub fresh_follow : (counts : (a : A) (s : Size) (f : List Lexeme) → G a s f → List TokenCounts)
      → ((a : A) (s : Size) (f : List Lexeme) (h : G a s f) → length (counts a s f h) ≡ length f) →
      ((a : A) (s : Size) (f : List Lexeme) (h : G a s f) → p 0 f ≡ along 32 a 0 (counts a s f h) f)
      → GoesAlong (fresh p) (grammar.fresh G) follow (fresh_overflow G counts)
  fresh_follow counts len whole = whole_follow (fresh p) (grammar.fresh G) follow
      (fresh_correct 32 p G 0 follow correct) (fresh_overflow G counts)
      (λ a s f h. record {
        reads = ap (λ l. set_back 0 (p 0 l)) (append-nil f) ∙ ap (set_back 0) (whole a h.0 f h.2)
            ∙ ap (λ l. set_back 0 (along 32 a 0 (counts a h.0 f h.2) l)) (sym (append-nil f))
            ∙ fresh_along a 0 0 (counts a h.0 f h.2) f [] (len a h.0 f h.2);
        sized = overflows_length 0 (counts a h.0 f h.2) ∙ len a h.0 f h.2;
      })

-- ---- lists

module _ {A : Type 0} (is : Lexeme → Bool) (sep : Lexeme) (is_sep : is sep ≡ true)
    (exact : (x : Lexeme) → is x ≡ true → x ≡ sep) (item : Parser A) (G : A → Size → List Lexeme
    → Type 0) (follow : Lexeme → Bool) (correct : IsCorrectParser 0 32 item G follow)
    (apart : follow sep ≡ false) (ps : Overflow G) (k : GoesAlong item G follow ps) where
  abbrev more_go : Lexeme → Bool
  more_go x = is x || follow x

  no_sep : (x : Lexeme) → more_go x ≡ false → is x ≡ false
  no_sep x h = or_left (is x) (follow x) h

  abbrev one_and : Parser (List A) → Parser (List A)
  one_and q = bind item (λ a. map_to (λ l. a ∷ l) q)

  one_more : (n : ℕ) (ts : List Lexeme) → many is item n (sep ∷ ts) ≡ one_and (many is item) n ts
  one_more n ts =
      many_some is item (λ n ts a m rest e. got_fewer 0 32 item G follow correct n (omega arith) ts
      a m rest e) n sep ts ∙ ap (λ b. cond b (one_and (many is item) n ts)
      (Parsed [] n (sep ∷ ts))) is_sep

  no_more : (us : List Lexeme) → Stops more_go us → many is item 0 us ≡ Parsed [] 0 us
  no_more us h = many_done is 32 item G follow correct (many is item 0 us) [] 0 us
      (many_first is 32 item G follow correct 0 us) (sees_no is more_go no_sep us h)

  pub more_follow : (j : ℕ) → GoesAlong (many is item) (AreMore sep no_end G j) more_go
      (more_overflow sep G ps j)
  more_follow j [] s f h us stops = along_prefix (many is item) [] 0 [] f [] us h.1
      (record { reads = no_more us stops; sized = refl })
  more_follow j (a ∷ l) s f h us stops =
      let r = along_bind item (λ a. map_to (λ l. a ∷ l) (many is item)) a (a ∷ l) 0
      (ps a h.0 h.2 h.6) (more_overflow sep G ps (j + 1) l h.1 h.3 h.7) h.2 h.3 us
      (k a h.0 h.2 h.6 (h.3 ++ us) (side is sep is_sep exact 32 item G follow correct apart no_end
      (j + 1) l h.1 h.3 us h.7 stops))
      (along_map (λ l. a ∷ l) (many is item) l 0 (more_overflow sep G ps (j + 1) l h.1 h.3 h.7) h.3
      us (more_follow (j + 1) l h.1 h.3 h.7 us stops)) in
      along_prefix (many is item) (a ∷ l) 0 (more_overflow sep G ps j (a ∷ l) s f h) f
      (sep ∷ (h.2 ++ h.3)) us h.5 (record
      { reads = one_more 0 ((h.2 ++ h.3) ++ us) ∙ r.reads; sized = ap suc r.sized })

  pub list_follow : GoesAlong (one_and (many is item)) (grammar.list sep G) more_go
      (list_overflow sep G ps)
  list_follow = bind_follow item (λ a. map_to (λ l. a ∷ l) (many is item)) G
      (λ a. grammar.map (λ l. a ∷ l) (AreMore sep no_end G 0)) follow more_go ps
      (λ a. map_overflow (λ l. a ∷ l) (AreMore sep no_end G 0) (more_overflow sep G ps 0)) k
      (λ a. map_follow (λ l. a ∷ l) (many is item) (AreMore sep no_end G 0) more_go
      (more_overflow sep G ps 0) (more_follow 0))
      (λ a b s ts rest h stops. side is sep is_sep exact 32 item G follow correct apart no_end 0 h.0
      s ts rest h.2 stops)

  -- ---- counted

  module _ (w : What) where
    abbrev counted : (j : ℕ) → Overflow (AreMore sep (so_wide w) G j)
    counted j = counted_overflow w sep G ps j

    counted_length : (j : ℕ) (l : List A) (s : Size) (f : List Lexeme)
        (h : AreMore sep (so_wide w) G j l s f) → length (counted j l s f h) ≡ length f
    counted_length j [] s f h = sym (ap length h.1)
    counted_length j (a ∷ l) s f h = omega (
      arith,
      ap length h.5,
      length-append (ps a h.0 h.2 h.6) (counted (j + 1) l h.1 h.3 h.7),
      length-append h.2 h.3,
      (k a h.0 h.2 h.6 [] tt).sized,
      counted_length (j + 1) l h.1 h.3 h.7,
    )

    room : (j : ℕ) → j < limit w → full_at w j ≡ None
    room j h = let e : nat_lt j (limit w) ≡ true = grind (arith, nat_tests) in
        ap (λ b. cond b None (Some w)) e

    full : (j : ℕ) → limit w ≡ j → full_at w j ≡ Some w
    full j h = let e : nat_lt j (limit w) ≡ false = grind (arith, nat_tests) in
        ap (λ b. cond b None (Some w)) e

    pub counted_follow : (m j : ℕ) → limit w ≡ j + m
        → GoesAlong (more is w item m) (AreMore sep (so_wide w) G j) more_go (counted j)
    unfolding more
    counted_follow zero j e [] s f h us stops =
        along_prefix (more is w item zero) [] 0 [] f [] us h.1
        (record {
          reads = option_not is (Refuses w) [] 0 us (sees_no is more_go no_sep us stops);
          sized = refl;
        })
    counted_follow (suc m) j e [] s f h us stops =
        along_prefix (more is w item (suc m)) [] 0 [] f [] us h.1
        (record {
          reads = option_not is (Takes (one_and (more is w item m))) [] 0 us
              (sees_no is more_go no_sep us stops);
          sized = refl;
        })
    counted_follow zero j e (a ∷ l) s f h us stops =
        let later : List (Option What) = ps a h.0 h.2 h.6 ++ counted (j + 1) l h.1 h.3 h.7 in
        let ts : List Lexeme = (h.2 ++ h.3) ++ us in
        along_prefix (more is w item zero) (a ∷ l) 0 (counted j (a ∷ l) s f h) f
        (sep ∷ (h.2 ++ h.3)) us h.5 (record {
          reads = option_refuses is w [] 0 (sep ∷ ts) is_sep
              ∙ sym (ap (λ o. or_else o 0 (sep ∷ ts)
              (by_overflows 0 later ts (Parsed (a ∷ l) 0 us))) (full j (omega (arith, e))));
          sized = counted_length j (a ∷ l) s f h ∙ ap length h.5;
        })
    counted_follow (suc m) j e (a ∷ l) s f h us stops =
        let later : List (Option What) = ps a h.0 h.2 h.6 ++ counted (j + 1) l h.1 h.3 h.7 in
        let ts : List Lexeme = (h.2 ++ h.3) ++ us in
        let r = along_bind item (λ a. map_to (λ l. a ∷ l) (more is w item m)) a (a ∷ l) 0
        (ps a h.0 h.2 h.6) (counted (j + 1) l h.1 h.3 h.7) h.2 h.3 us
        (k a h.0 h.2 h.6 (h.3 ++ us) (side is sep is_sep exact 32 item G follow correct apart
        (so_wide w) (j + 1) l h.1 h.3 us h.7 stops))
        (along_map (λ l. a ∷ l) (more is w item m) l 0 (counted (j + 1) l h.1 h.3 h.7) h.3 us
        (counted_follow m (j + 1) (omega (arith, e)) l h.1 h.3 h.7 us stops)) in
        along_prefix (more is w item (suc m)) (a ∷ l) 0 (counted j (a ∷ l) s f h) f
        (sep ∷ (h.2 ++ h.3)) us h.5 (record {
          reads = option_takes is (one_and (more is w item m)) [] 0 (sep ∷ ts) is_sep ∙ r.reads
              ∙ sym (ap (λ o. or_else o 0 (sep ∷ ts)
              (by_overflows 0 later ts (Parsed (a ∷ l) 0 us))) (room j (omega (arith, e))));
          sized = counted_length j (a ∷ l) s f h ∙ ap length h.5;
        })
