-- Derivations: a value that a grammar spells, with its size and its lexemes, and the derivations of
-- the parts that a combined grammar is made of.
use Rattle.std.specs.Prelude.{ℕ, ◌+◌, List, ◌∷◌, Option}
use Rattle.lexer_spec.specs.Lexemes.{Lexeme}
use Rattle.lexer_combinators.specs.Grammar.{Grammar, Size, AreMore}
use Rattle.lexer_combinators.specs.Grammar as grammar

pub record Derivation {A : Type 0} (G : Grammar A) : Type 0 where
  pub value : A
  pub size : Size
  pub lexemes : List Lexeme
  pub derives : G value size lexemes

abbrev pub derivation : {A : Type 0} {G : Grammar A} (a : A) (s : Size) (f : List Lexeme) → G a s f
    → Derivation G
derivation a s f h = record { value = a; size = s; lexemes = f; derives = h }

-- ---- after a lexeme

abbrev pub after_lexeme : {A : Type 0} {x : Lexeme} {G : Grammar A} → Derivation (grammar.lead x G)
    → Derivation G
after_lexeme d = derivation d.value d.size d.derives.0 d.derives.2

-- ---- of one after the other

abbrev pub first_of : {A B : Type 0} {G : Grammar A} {H : A → Grammar B}
    → Derivation (grammar.seq G H) → Derivation G
first_of d = let h = d.derives in derivation h.0 h.1 h.3 h.7

abbrev pub rest_of : {A B : Type 0} {G : Grammar A} {H : A → Grammar B}
    → (d : Derivation (grammar.seq G H)) → Derivation (H (first_of d).value)
rest_of d = let h = d.derives in derivation d.value h.2 h.4 h.8

-- ---- of what a value is made from

abbrev pub source_of : {A B : Type 0} {m : A → B} {G : Grammar A} → Derivation (grammar.map m G)
    → Derivation G
source_of d = derivation d.derives.0 d.size d.lexemes d.derives.2

-- ---- of a node, and of an open construct

abbrev pub in_node : {A : Type 0} {G : Grammar A} → Derivation (grammar.node G) → Derivation G
in_node d = derivation d.value d.derives.0 d.lexemes d.derives.2

abbrev pub in_opened : {A : Type 0} {G : Grammar A} → Derivation (grammar.opened G)
    → Derivation G
in_opened d = derivation d.value d.derives.0 d.lexemes d.derives.2

-- ---- of what has counts of its own

abbrev pub counted_anew : {A : Type 0} {G : Grammar A} → Derivation (grammar.fresh G)
    → Derivation G
counted_anew d = derivation d.value d.derives.0 d.lexemes d.derives.2

-- ---- of a single lexeme

abbrev pub lexeme_of : {A : Type 0} {says : Lexeme → Option A}
    → Derivation (grammar.single says) → Lexeme
lexeme_of d = d.derives.0

-- ---- of a list that is not empty: of its first element, after the separator, and of the others

abbrev pub element_of : {A : Type 0} {x : Lexeme} {G : Grammar A} (end : ℕ → Size) (j : ℕ) (a : A)
    (l : List A) {s : Size} {f : List Lexeme} → AreMore x end G j (a ∷ l) s f → Derivation G
element_of end j a l h = derivation a h.0 h.2 h.6

abbrev pub others_of : {A : Type 0} {x : Lexeme} {G : Grammar A} (end : ℕ → Size) (j : ℕ) (a : A)
    (l : List A) {s : Size} {f : List Lexeme} → AreMore x end G j (a ∷ l) s f
    → Derivation (AreMore x end G (j + 1))
others_of end j a l h = derivation l h.1 h.3 h.7
