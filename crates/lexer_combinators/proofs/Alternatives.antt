-- Readers that go by the next lexeme, and lists.
use Rattle.std.proofs.Common.{◌≡◌, ℕ, Bool, true, false, cond, ◌||◌, List, [], ◌∷◌, ◌++◌, inl, inr}
use Rattle.std.proofs.Common.{refl, sym, subst}
use Rattle.lexer_spec.specs.Lexemes.{Lexeme}
use Rattle.lexer_combinators.specs.Grammar.{Grammar}
use Rattle.lexer_combinators.specs.Parsing.{Out, Parsed, Unexpected, LimitExceeded, Parser, Arm}
use Rattle.lexer_combinators.specs.Parsing.{No, Takes, Counts, Whole, Refuses, Fills, GoesOnWith}
use Rattle.lexer_combinators.specs.Parsing.{Explains, Stops, IsCorrectParser, bind, map_to, many}
use Rattle.lexer_combinators.specs.Grammar.{Size, one_node, no_end}
use Rattle.lexer_combinators.specs.Grammar as grammar
use Rattle.lexer_spec.proofs.Cases.{true_false}
use Rattle.lexer_combinators.proofs.Parsing.{ArmCorrect, correct_iff, arm_if, bind_more}
use Rattle.lexer_combinators.proofs.Parsing.{many_correct, after_down, after_correct}
use Rattle.lexer_spec.proofs.LexemeTests.{clash}

-- ---- what stops

-- what goes on with nothing stops at everything
pub stops_never : (l : List Lexeme) → Stops (λ x. false) l
stops_never [] = tt
stops_never (x ∷ l) = refl

pub or_left : (a b : Bool) → (a || b) ≡ false → a ≡ false
or_left true b e = true_false e
or_left false b e = refl

pub or_right : (a b : Bool) → (a || b) ≡ false → b ≡ false
or_right true b e = true_false e
or_right false b e = e

pub stops_fewer : (follow goes2 : Lexeme → Bool)
    → ((x : Lexeme) → goes2 x ≡ false → follow x ≡ false) → (l : List Lexeme) → Stops goes2 l
    → Stops follow l
stops_fewer follow goes2 h [] k = tt
stops_fewer follow goes2 h (x ∷ l) k = h x k

-- ---- what a grammar does not begin with

abbrev pub NotFirst : {A : Type 0} → Grammar A → Lexeme → Type 0
NotFirst {A} G x = (a : A) (s : Size) (l : List Lexeme) → G a s (x ∷ l) → ⊥

abbrev pub NotNone : {A : Type 0} → Grammar A → Type 0
NotNone {A} G = (a : A) (s : Size) → G a s [] → ⊥

pub lead_not_none : {A : Type 0} (y : Lexeme) (G : Grammar A) → NotNone (grammar.lead y G)
lead_not_none y G a s h = let e = h.1 in cc

pub lead_not_first : {A : Type 0} (is : Lexeme → Bool) (x y : Lexeme) (G : Grammar A) → is x ≡ false
    → is y ≡ true → NotFirst (grammar.lead y G) x
lead_not_first is x y G e f a s l h = clash is x y l h.0 e f h.1

pub either_not_none : {A : Type 0} (G H : Grammar A) → NotNone G → NotNone H
    → NotNone (grammar.alt G H)
either_not_none G H g h a s (inl k) = g a s k
either_not_none G H g h a s (inr k) = h a s k

pub either_not_first : {A : Type 0} (x : Lexeme) (G H : Grammar A) → NotFirst G x → NotFirst H x
    → NotFirst (grammar.alt G H) x
either_not_first x G H g h a s l (inl k) = g a s l k
either_not_first x G H g h a s l (inr k) = h a s l k

pub list_not_none : {A : Type 0} (sep : Lexeme) (G : Grammar A) → NotNone G
    → NotNone (grammar.list sep G)
list_not_none {A} sep G none a s h = by_prefix h.3 h.4 h.6 h.7
  where
    by_prefix : (f g : List Lexeme) → [] ≡ f ++ g → G h.0 h.1 f → ⊥
    by_prefix [] g e k = none h.0 h.1 k
    by_prefix (y ∷ f) g e k = cc

pub list_not_first : {A : Type 0} (x sep : Lexeme) (G : Grammar A) → NotNone G → NotFirst G x
    → NotFirst (grammar.list sep G) x
list_not_first {A} x sep G none first a s l h = by_prefix h.3 h.4 h.6 h.7
  where
    by_prefix : (f g : List Lexeme) → x ∷ l ≡ f ++ g → G h.0 h.1 f → ⊥
    by_prefix [] g e k = none h.0 h.1 k
    by_prefix (y ∷ f) g e k = let z : y ≡ x = cc in let P : Lexeme
        → Type 0 = λ u. G h.0 h.1 (u ∷ f) in first h.0 h.1 f (subst P z k)

-- ---- lists

-- an item, and more of them after separators
pub list_correct : {A : Type 0} (is : Lexeme → Bool) (sep : Lexeme) (is_sep : is sep ≡ true)
    (exact : (x : Lexeme) → is x ≡ true → x ≡ sep) (d : ℕ) (item : Parser A) (G : Grammar A)
    (follow : Lexeme → Bool) →
    IsCorrectParser 0 d item G follow → follow sep ≡ false
    → IsCorrectParser 0 d (bind item (λ a. map_to (λ l. a ∷ l) (many is item)))
    (grammar.list sep G) (λ x. is x || follow x)
list_correct is sep is_sep exact d item G follow correct stops =
    bind_more is sep is_sep exact d item G follow correct stops no_end 0 0 (many is item)
    (λ a l. a ∷ l) (many_correct is sep is_sep exact d item G follow correct stops 0)

-- ---- one grammar or another, by the first lexeme

module _ {A : Type 0} (d : ℕ) (G H : A → Size → List Lexeme → Type 0) (follow : Lexeme → Bool)
    (up : (a : A) (s : Size) (l : List Lexeme) → G a s l → H a s l) where
  goes_up : (prefix suffix : List Lexeme) → GoesOnWith G prefix suffix → GoesOnWith H prefix suffix
  goes_up prefix [] h = h
  goes_up prefix (y ∷ suffix) h = (h.0, h.1, h.2, up _ _ _ h.3)

  explains_up : (run : List Lexeme → Out A) (n : ℕ) (ts : List Lexeme) (o : Out A)
      → Explains d run G n ts o → Explains d run H n ts o
  explains_up run n ts (Parsed a m suffix) h = (h.0, h.1, h.2, up _ _ _ h.3, h.4, h.5, h.6, h.7)
  explains_up run n ts (Unexpected c suffix) h =
      (h.0, h.1, (h.2.0, h.2.1, h.2.2, up _ _ _ h.2.3), h.3)
  explains_up run n ts (LimitExceeded w c suffix) h = (h.0, h.1, goes_up h.0 suffix h.2, h.3)

  module _ (x : Lexeme) (down : (a : A) (s : Size) (l : List Lexeme) → H a s (x ∷ l)
      → G a s (x ∷ l)) where
    arm_up : (r : Arm A) → ArmCorrect 0 d r x G follow → ArmCorrect 0 d r x H follow
    arm_up No h = λ a s l k. h a s l (down a s l k)
    arm_up (Takes p) h = correct_iff 0 d p (λ a s l. G a s (x ∷ l)) (λ a s l. H a s (x ∷ l)) follow
        (λ a s l. up a s (x ∷ l)) down h
    arm_up (Counts p) h = (
      correct_iff 0 d p (λ a s l. G a (one_node s) (x ∷ l)) (λ a s l. H a (one_node s) (x ∷ l))
          follow (λ a s l. up a (one_node s) (x ∷ l)) (λ a s l. down a (one_node s) l) h.0,
      λ a s l k. h.1 a s l (down a s l k),
    )
    arm_up (Whole p) h = (
      λ n z ts. explains_up (p n) n (x ∷ ts) (p n (x ∷ ts)) (h.0 n z ts),
      λ n z a s prefix suffix k stops. h.1 n z a s prefix suffix (down a s prefix k) stops,
    )
    arm_up (Refuses w) h = (
      (h.0.0, h.0.1, h.0.2, up _ _ _ h.0.3),
      λ n z a s l k.
          h.1 n z a s l (down a s l k),
    )
    arm_up (Fills w) h = (
      (h.0.0, h.0.1, h.0.2, up _ _ _ h.0.3),
      (λ n z a s l k. h.1 n z a s l (down a s l k)),
      (λ a s l k. h.2 a s l (down a s l k)),
    )

module _ {A : Type 0} (is : Lexeme → Bool) (sep : Lexeme) (is_sep : is sep ≡ true)
    (exact : (x : Lexeme) → is x ≡ true → x ≡ sep) (d : ℕ) (p : Parser A) (G : A → Size
    → List Lexeme → Type 0) (follow : Lexeme → Bool)
    (correct : IsCorrectParser 0 d p G follow) where
  -- the last of several
  pub last_arm : (x : Lexeme) → ArmCorrect 0 d (cond (is x) (Takes p) No) x (grammar.lead sep G)
      follow
  last_arm x = arm_if 0 d (is x) (Takes p) No x (grammar.lead sep G) follow
      (λ e. let P : Lexeme → Type 0 = λ y. ArmCorrect 0 d (Takes p) y (grammar.lead sep G) follow in
      subst P (sym (exact x e)) (after_correct is sep is_sep exact 0 d p G follow correct))
      (λ e a s l h. clash is x sep l h.0 e is_sep h.1)

  -- one before others
  pub first_arm : (arm : Lexeme → Arm A) (H : Grammar A) → NotFirst H sep → (x : Lexeme)
      → ArmCorrect 0 d (arm x) x H follow → ArmCorrect 0 d (cond (is x) (Takes p) (arm x)) x
      (grammar.alt (grammar.lead sep G) H) follow
  first_arm arm H apart x others = arm_if 0 d (is x) (Takes p) (arm x) x
      (grammar.alt (grammar.lead sep G) H) follow yes no
    where
      at_sep : (a : A) (s : Size) (l : List Lexeme)
          → grammar.alt (grammar.lead sep G) H a s (sep ∷ l) → G a s l
      at_sep a s l (inl h) = after_down is sep is_sep exact 0 d G a s l h
      at_sep a s l (inr h) = absurd (apart a s l h)

      yes : is x ≡ true → ArmCorrect 0 d (Takes p) x (grammar.alt (grammar.lead sep G) H) follow
      yes e =
          let P : Lexeme → Type 0 = λ y. ArmCorrect 0 d (Takes p) y
          (grammar.alt (grammar.lead sep G) H) follow in
          subst P (sym (exact x e)) (correct_iff 0 d p G
          (λ a s l. grammar.alt (grammar.lead sep G) H a s (sep ∷ l)) follow
          (λ a s l h. inl (l, refl, h)) at_sep correct)

      elsewhere : is x ≡ false → (a : A) (s : Size) (l : List Lexeme)
          → grammar.alt (grammar.lead sep G) H a s (x ∷ l) → H a s (x ∷ l)
      elsewhere e a s l (inl h) = clash is x sep l h.0 e is_sep h.1
      elsewhere e a s l (inr h) = h

      no : is x ≡ false → ArmCorrect 0 d (arm x) x (grammar.alt (grammar.lead sep G) H) follow
      no e = arm_up d H (grammar.alt (grammar.lead sep G) H) follow (λ a s l h. inr h) x
          (elsewhere e) (arm x) others
