-- Names and constants, where a statement has them: each is one lexeme.
use Rattle.std.specs.Prelude.{ℕ, ℤ, pos, nat_le, if◌then◌else◌, List, ◌∷◌, codes, Option, Some}
use Rattle.std.specs.Prelude.{None}
use Rattle.prima_base.specs.declared.value.Value.{Value}
use Rattle.prima_base.specs.declared.value.Value.TheVariants.{Int, Text}
use Rattle.lexer_spec.specs.Lexemes.{Lexeme, word, number, text, sign, is_sign, is_name}
use Rattle.lexer_spec.specs.Lexemes.{is_int}
use Rattle.lexer_combinators.specs.Grammar.{Grammar}
use Rattle.lexer_combinators.specs.Parsing.{Parser, bind, map_to, many, single}
use Rattle.lexer_combinators.specs.Grammar.{Size, no_end, AreMore}
use Rattle.lexer_combinators.specs.Grammar as grammar

-- a word of at most 63 bytes that is not reserved
abbrev pub as_name : Lexeme → Option (List ℕ)
as_name (word n) = if is_name n then Some n else None
as_name _ = None

-- a number from 0 to the greatest that may stand there
abbrev pub as_natural : ℕ → Lexeme → Option ℕ
as_natural most (number (pos n)) = if nat_le n most then Some n else None
as_natural most _ = None

-- 0 to 2^64 - 2
abbrev pub as_moment : Lexeme → Option ℕ
as_moment = as_natural 18446744073709551614

-- 0 to 2^32 - 1
abbrev pub as_small : Lexeme → Option ℕ
as_small = as_natural 4294967295

-- -2^63 to 2^63 - 1
abbrev pub as_int : Lexeme → Option ℤ
as_int (number z) = if is_int z then Some z else None
as_int _ = None

-- what a text literal stands for
abbrev pub as_text : Lexeme → Option (List ℕ)
as_text (text t) = Some t
as_text _ = None

-- an integer or a text
abbrev pub as_constant : Lexeme → Option Value
as_constant (number z) = if is_int z then Some (Int z) else None
as_constant (text t) = Some (Text t)
as_constant _ = None

-- ---- reading them, and their grammars

unfoldable pub name : Parser (List ℕ)
name = single as_name

abbrev pub name_grammar : Grammar (List ℕ)
name_grammar = grammar.single as_name

unfoldable pub natural : ℕ → Parser ℕ
natural most = single (as_natural most)

abbrev pub natural_grammar : ℕ → Grammar ℕ
natural_grammar most = grammar.single (as_natural most)

unfoldable pub moment : Parser ℕ
moment = single as_moment

abbrev pub moment_grammar : Grammar ℕ
moment_grammar = grammar.single as_moment

unfoldable pub small : Parser ℕ
small = single as_small

abbrev pub small_grammar : Grammar ℕ
small_grammar = grammar.single as_small

unfoldable pub int : Parser ℤ
int = single as_int

abbrev pub int_grammar : Grammar ℤ
int_grammar = grammar.single as_int

unfoldable pub literal : Parser (List ℕ)
literal = single as_text

abbrev pub literal_grammar : Grammar (List ℕ)
literal_grammar = grammar.single as_text

unfoldable pub constant : Parser Value
constant = single as_constant

abbrev pub constant_grammar : Grammar Value
constant_grammar = grammar.single as_constant

-- ---- name { , name }

abbrev pub more_names : Parser (List (List ℕ))
more_names = many (is_sign (codes ",")) name

unfoldable pub names : Parser (List (List ℕ))
names = bind name (λ n. map_to (λ l. n ∷ l) more_names)

abbrev pub names_grammar : Grammar (List (List ℕ))
names_grammar = grammar.seq name_grammar (λ n.
    grammar.map (λ l. n ∷ l) (AreMore (sign (codes ",")) no_end name_grammar 0))
