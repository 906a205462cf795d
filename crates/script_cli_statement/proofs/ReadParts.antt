-- What is read from lexemes whose constants are valid, and the parts of it.
use Rattle.std.proofs.Common.{List, subst}
use Rattle.lexer_spec.specs.Lexemes.{Lexeme}
use Rattle.lexer_combinators.specs.Grammar.{Grammar, Size}
use Rattle.lexer_combinators.specs.Grammar as grammar
use Rattle.lexer_combinators.specs.Derivations.{Derivation, derivation, after_lexeme, first_of}
use Rattle.lexer_combinators.specs.Derivations.{rest_of, source_of, counted_anew}
use Rattle.lexer_combinators.proofs.DerivationLaws.{lexeme_first, lexemes_joined}
use Rattle.script_cli_statement.proofs.ReadConstants.{AllValid, after, prefix, back}

-- a derivation, and that its lexemes are valid
pub record Read {A : Type 0} (G : Grammar A) : Type 0 where
  pub derived : Derivation G
  pub valid : AllValid derived.lexemes

abbrev pub value_read : {A : Type 0} {G : Grammar A} → Read G → A
value_read r = r.derived.value

abbrev pub read : {A : Type 0} {G : Grammar A} (a : A) (s : Size) (ts : List Lexeme) → AllValid ts
    → G a s ts → Read G
read a s ts l h = record { derived = derivation a s ts h; valid = l }

-- what stands after a lexeme
abbrev pub led : {A : Type 0} {x : Lexeme} {G : Grammar A} → Read (grammar.lead x G) → Read G
led {A} {x} {G} r = record {
  derived = after_lexeme r.derived;
  valid = after x (after_lexeme r.derived).lexemes
      (subst AllValid (lexeme_first r.derived) r.valid);
}

-- the first of two, and what stands after it
abbrev pub first : {A B : Type 0} {G : Grammar A} {H : A → Grammar B} → Read (grammar.seq G H)
    → Read G
first r = record {
  derived = first_of r.derived;
  valid = prefix (first_of r.derived).lexemes (rest_of r.derived).lexemes
      (subst AllValid (lexemes_joined r.derived) r.valid);
}

abbrev pub rest : {A B : Type 0} {G : Grammar A} {H : A → Grammar B}
    (r : Read (grammar.seq G H)) → Read (H (value_read (first r)))
rest r = record {
  derived = rest_of r.derived;
  valid = back (first_of r.derived).lexemes (rest_of r.derived).lexemes
      (subst AllValid (lexemes_joined r.derived) r.valid);
}

-- what a value is made from
abbrev pub source : {A B : Type 0} {m : A → B} {G : Grammar A} → Read (grammar.map m G) → Read G
source r = record { derived = source_of r.derived; valid = r.valid }

-- with counts of its own
abbrev pub anew : {A : Type 0} {G : Grammar A} → Read (grammar.fresh G) → Read G
anew r = record { derived = counted_anew r.derived; valid = r.valid }
