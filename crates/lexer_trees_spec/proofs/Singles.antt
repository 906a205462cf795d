-- The readers of names and constants are good for their grammars.
use Rattle.std.proofs.Common.{◌≡◌, ℕ, pos, Bool, true, false, cond, ◌||◌, Option, Some, None, List}
use Rattle.std.proofs.Common.{[], ◌∷◌, ◌++◌, codes, nat_le, inl, inr, refl, sym, ap, ◌∙◌, subst}
use Rattle.std.proofs.Common.{arith}
use Rattle.std.proofs.lemmas.Bool.Decides.{nat_tests}
use Rattle.prima_base.specs.declared.value.Value.TheVariants.{Int}
use Rattle.lexer_spec.specs.Lexemes.{Lexeme, word, number, text, sign, is_sign, is_name}
use Rattle.lexer_combinators.specs.Parsing.{Out, Parsed, Same, Explains, Stops, Fine}
use Rattle.lexer_combinators.specs.Parsing.{IsCorrectParser, pure, single, single_arm, said_or}
use Rattle.lexer_combinators.specs.Parsing.{maybe}
use Rattle.lexer_combinators.specs.Grammar.{Size, nothing_counted, no_end}
use Rattle.lexer_combinators.specs.Grammar as grammar
use Rattle.lexer_trees_spec.specs.Constants.{as_name, as_natural, as_moment, as_small, as_int}
use Rattle.lexer_trees_spec.specs.Constants.{as_text}
use Rattle.lexer_trees_spec.specs.Constants.{as_constant, name, name_grammar, natural}
use Rattle.lexer_trees_spec.specs.Constants.{natural_grammar}
use Rattle.lexer_trees_spec.specs.Constants.{moment, moment_grammar, small, small_grammar, int}
use Rattle.lexer_trees_spec.specs.Constants.{int_grammar, literal, literal_grammar, constant}
use Rattle.lexer_trees_spec.specs.Constants.{constant_grammar, names, names_grammar, more_names}
use Rattle.lexer_combinators.proofs.Parsing.{ArmCorrect, correct_iff, choose_correct, pure_correct}
use Rattle.lexer_combinators.proofs.Parsing.{valid_none, bind_more, many_correct}
use Rattle.lexer_spec.proofs.LexemeTests.{sign_exact, sign_is}
use Rattle.lexer_trees_spec.proofs.Grammar.{COMMA, some_name}

-- ---- one lexeme

module _ {A : Type 0} (low d : ℕ) (says : Lexeme → Option A) (follow : Lexeme → Bool) where
  arm_of : (x : Lexeme) (o : Option A) → says x ≡ o
      → ArmCorrect low d (single_arm o) x (grammar.single says) follow
  arm_of x None e = λ a s l h. let same : x ∷ l ≡ h.0 ∷ [] = h.3 in let z : x ≡ h.0 = cc in
      let k : None ≡ Some a = sym e ∙ ap says z ∙ h.1 in cc
  arm_of x (Some a) e = correct_iff low d (pure a) (grammar.pure a)
      (λ b s l. grammar.single says b s (x ∷ l)) follow up down (pure_correct low d a follow)
    where
      up : (b : A) (s : Size) (l : List Lexeme) → grammar.pure a b s l
          → grammar.single says b s (x ∷ l)
      up b s l h = (x, e ∙ ap Some (sym h.0), h.1, ap (λ t. x ∷ t) h.2)

      down : (b : A) (s : Size) (l : List Lexeme) → grammar.single says b s (x ∷ l)
          → grammar.pure a b s l
      down b s l h =
          let same : x ∷ l ≡ h.0 ∷ [] = h.3 in
          let z : x ≡ h.0 = cc in
          let k : Some a ≡ Some b = sym e ∙ ap says z ∙ h.1 in
          ((let m : b ≡ a = cc in m), h.2, (let m : l ≡ [] = cc in m))

  pub single_correct : (x : Lexeme) (a : A) → says x ≡ Some a
      → IsCorrectParser low d (single says) (grammar.single says) follow
  single_correct x a e = choose_correct low d (λ y. single_arm (says y)) (grammar.single says)
      follow (a, nothing_counted, x ∷ [], (x, e, refl, refl))
      (λ b s h. let same : [] ≡ h.0 ∷ [] = h.3 in cc) (λ y. arm_of y (says y) refl)

-- ---- one lexeme, or a value that takes none

module _ {A : Type 0} (low d : ℕ) (says : Lexeme → Option A) (v : A) (follow : Lexeme → Bool)
    (silent : (x : Lexeme) → follow x ≡ false → says x ≡ None) where
  none_said : (n : ℕ) (x : Lexeme) (ts : List Lexeme) → says x ≡ None
      → maybe says v n (x ∷ ts) ≡ Parsed v n (x ∷ ts)
  none_said n x ts e = ap (λ o. said_or o v x n ts) e

  some_said : (n : ℕ) (x : Lexeme) (a : A) (ts : List Lexeme) → says x ≡ Some a
      → maybe says v n (x ∷ ts) ≡ Parsed a n ts
  some_said n x a ts e = ap (λ o. said_or o v x n ts) e

  maybe_explains : (n : ℕ) (ts : List Lexeme)
      → Explains d (maybe says v n) (grammar.maybe says v) n ts (maybe says v n ts)
  maybe_explains n [] = (
    [],
    nothing_counted,
    refl,
    inl (refl, refl, refl),
    omega arith,
    (λ k. k),
    valid_none d,
    tt,
  )
  maybe_explains n (x ∷ ts) = by_said (says x) refl
    where
      same : (a : A) → says x ≡ Some a → (suffix : List Lexeme)
          → Same (maybe says v n) (x ∷ []) suffix (Parsed a n)
      same a e [] = tt
      same a e (y ∷ suffix) = λ other. some_said n x a (y ∷ other) e

      by_said : (o : Option A) → says x ≡ o → Explains d (maybe says v n) (grammar.maybe says v) n
          (x ∷ ts) (said_or o v x n ts)
      by_said None e = (
        [],
        nothing_counted,
        refl,
        inl (refl, refl, refl),
        omega arith,
        (λ k. k),
        valid_none d,
        λ other. none_said n x other e,
      )
      by_said (Some a) e = (
        x ∷ [],
        nothing_counted,
        refl,
        inr (x, e, refl, refl),
        omega arith,
        (λ k. k),
        valid_none d,
        same a e ts,
      )

  at_none : (n : ℕ) (suffix : List Lexeme) → Stops follow suffix
      → Fine d v nothing_counted n suffix (maybe says v n suffix)
  at_none n [] stops = (refl, refl, omega arith, valid_none d)
  at_none n (x ∷ suffix) stops = let P : Out A
      → Type 0 = λ o. Fine d v nothing_counted n (x ∷ suffix) o in
      subst P (sym (none_said n x suffix (silent x stops))) (refl, refl, omega arith, valid_none d)

  at_some : (n : ℕ) (x : Lexeme) (a : A) (suffix : List Lexeme) → says x ≡ Some a
      → Fine d a nothing_counted n suffix (maybe says v n (x ∷ suffix))
  at_some n x a suffix e = let P : Out A → Type 0 = λ o. Fine d a nothing_counted n suffix o in
      subst P (sym (some_said n x a suffix e)) (refl, refl, omega arith, valid_none d)

  maybe_complete : (n : ℕ) (a : A) (s : Size) (prefix suffix : List Lexeme)
      → grammar.maybe says v a s prefix → Stops follow suffix
      → Fine d a s n suffix (maybe says v n (prefix ++ suffix))
  maybe_complete n a s prefix suffix (inl h) stops =
      let P : A → Type 0 = λ b. Fine d b s n suffix (maybe says v n (prefix ++ suffix)) in
      let Q : Size → Type 0 = λ z. Fine d v z n suffix (maybe says v n (prefix ++ suffix)) in
      let R : List Lexeme → Type 0 = λ l. Fine d v nothing_counted n suffix
      (maybe says v n (l ++ suffix)) in
      subst P (sym h.0) (subst Q (sym h.1) (subst R (sym h.2) (at_none n suffix stops)))
  maybe_complete n a s prefix suffix (inr h) stops =
      let Q : Size → Type 0 = λ z. Fine d a z n suffix (maybe says v n (prefix ++ suffix)) in
      let R : List Lexeme → Type 0 = λ l. Fine d a nothing_counted n suffix
      (maybe says v n (l ++ suffix)) in
      subst Q (sym h.2) (subst R (sym h.3) (at_some n h.0 a suffix h.1))

  pub maybe_correct : IsCorrectParser low d (maybe says v) (grammar.maybe says v) follow
  maybe_correct = record {
    live = (v, nothing_counted, [], inl (refl, refl, refl));
    explains = λ n h ts. maybe_explains n ts;
    complete = λ n h a s prefix suffix g stops. maybe_complete n a s prefix suffix g stops;
  }

-- ---- each of them

a_name : as_name (word (codes "a")) ≡ Some (codes "a")
a_name = ap (λ b. cond b (Some (codes "a")) None) some_name

pub name_correct : (low d : ℕ) (follow : Lexeme → Bool)
    → IsCorrectParser low d name name_grammar follow
unfolding name
name_correct low d follow = single_correct low d as_name follow (word (codes "a")) (codes "a")
    a_name

pub natural_correct : (most low d : ℕ) (follow : Lexeme → Bool)
    → IsCorrectParser low d (natural most) (natural_grammar most) follow
unfolding natural
natural_correct most low d follow = let e : nat_le 0 most ≡ true = grind (arith, nat_tests) in
    single_correct low d (as_natural most) follow (number (pos 0)) 0
    (ap (λ b. cond b (Some 0) None) e)

pub moment_correct : (low d : ℕ) (follow : Lexeme → Bool)
    → IsCorrectParser low d moment moment_grammar follow
unfolding moment
moment_correct low d follow = single_correct low d as_moment follow (number (pos 0)) 0 refl

pub small_correct : (low d : ℕ) (follow : Lexeme → Bool)
    → IsCorrectParser low d small small_grammar follow
unfolding small
small_correct low d follow = single_correct low d as_small follow (number (pos 0)) 0 refl

pub int_correct : (low d : ℕ) (follow : Lexeme → Bool)
    → IsCorrectParser low d int int_grammar follow
unfolding int
int_correct low d follow = single_correct low d as_int follow (number (pos 0)) (pos 0) refl

pub literal_correct : (low d : ℕ) (follow : Lexeme → Bool)
    → IsCorrectParser low d literal literal_grammar follow
unfolding literal
literal_correct low d follow = single_correct low d as_text follow (text []) [] refl

pub constant_correct : (low d : ℕ) (follow : Lexeme → Bool)
    → IsCorrectParser low d constant constant_grammar follow
unfolding constant
constant_correct low d follow = single_correct low d as_constant follow (number (pos 0))
    (Int (pos 0)) refl

-- a lexeme that is this name
pub name_is : (x : Lexeme) (n : List ℕ) → as_name x ≡ Some n → (x ≡ word n) × (is_name n ≡ true)
name_is (word m) n e = by_name (is_name m) refl e
  where
    by_name : (b : Bool) → is_name m ≡ b → cond b (Some m) None ≡ Some n → (word m ≡ word n)
        × (is_name n ≡ true)
    by_name true f h = let z : m ≡ n = cc in (ap word z, sym (ap is_name z) ∙ f)
    by_name false f h = let z : None ≡ Some n = h in cc
name_is (number z) n e = let z : None ≡ Some n = e in cc
name_is (text t) n e = let z : None ≡ Some n = e in cc
name_is (sign t) n e = let z : None ≡ Some n = e in cc

-- ---- names

abbrev pub comma : Lexeme → Bool
comma x = is_sign (codes ",") x || false

pub names_correct : (d : ℕ) → IsCorrectParser 0 d names names_grammar comma
unfolding names
names_correct d = bind_more (is_sign COMMA) (sign COMMA) (sign_is COMMA) (sign_exact COMMA) d name
    name_grammar (λ x. false) (name_correct 0 d (λ x. false)) refl no_end 0 0 more_names
    (λ n l. n ∷ l)
    (many_correct (is_sign COMMA) (sign COMMA) (sign_is COMMA) (sign_exact COMMA) d name
    name_grammar (λ x. false) (name_correct 0 d (λ x. false)) refl 0)
