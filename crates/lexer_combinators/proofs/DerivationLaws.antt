-- What a derivation tells of its value, its size and its lexemes.
use Rattle.std.proofs.Common.{◌≡◌, [], ◌∷◌, ◌++◌, Some, ap, ◌∙◌}
use Rattle.std.specs.Prelude.{Option}
use Rattle.lexer_spec.specs.Lexemes.{Lexeme}
use Rattle.lexer_combinators.specs.Grammar.{Grammar, nothing_counted, both}
use Rattle.lexer_combinators.specs.Grammar as grammar
use Rattle.lexer_combinators.specs.Derivations.{Derivation, after_lexeme, first_of, rest_of}
use Rattle.lexer_combinators.specs.Derivations.{source_of, lexeme_of}
use Rattle.lexer_combinators.proofs.Parsing.{both_none, none_both}

-- a value that takes no lexemes is the one that is given
pub given_value : {A : Type 0} {a : A} (d : Derivation (grammar.pure a)) → d.value ≡ a
given_value d = d.derives.0

-- a value that is made from another
pub made_value : {A B : Type 0} {m : A → B} {G : Grammar A} (d : Derivation (grammar.map m G))
    → d.value ≡ m (source_of d).value
made_value d = d.derives.1

-- the lexeme, and those after it
pub lexeme_first : {A : Type 0} {x : Lexeme} {G : Grammar A} (d : Derivation (grammar.lead x G))
    → d.lexemes ≡ x ∷ (after_lexeme d).lexemes
lexeme_first d = d.derives.1

-- a single lexeme says the value, and counts nothing
module _ {A : Type 0} {says : Lexeme → Option A} (d : Derivation (grammar.single says)) where
  pub lexeme_says : says (lexeme_of d) ≡ Some d.value
  lexeme_says = d.derives.1

  pub lexeme_size : d.size ≡ nothing_counted
  lexeme_size = d.derives.2

  pub lexeme_alone : d.lexemes ≡ lexeme_of d ∷ []
  lexeme_alone = d.derives.3

module _ {A B : Type 0} {G : Grammar A} {H : A → Grammar B} (d : Derivation (grammar.seq G H)) where
  pub lexemes_joined : d.lexemes ≡ (first_of d).lexemes ++ (rest_of d).lexemes
  lexemes_joined = d.derives.6

  pub sizes_joined : d.size ≡ both (first_of d).size (rest_of d).size
  sizes_joined = d.derives.5

  -- where one of the two counts nothing
  pub size_of_rest : (first_of d).size ≡ nothing_counted → d.size ≡ (rest_of d).size
  size_of_rest e = sizes_joined ∙ ap (λ s. both s (rest_of d).size) e ∙ none_both (rest_of d).size

  pub size_of_first : (rest_of d).size ≡ nothing_counted → d.size ≡ (first_of d).size
  size_of_first e = sizes_joined ∙ ap (both (first_of d).size) e ∙ both_none (first_of d).size
