-- What is given as the reading of a text has what its reading has.
use Rattle.std.proofs.Common.{◌≡◌, ℕ, List, ◌∷◌, ◌++◌, length, Option, Some, None, Result, Ok, Err}
use Rattle.std.proofs.Common.{sym, subst}
use Rattle.prima_base.specs.declared.refusal.What.{What}
use Rattle.lexer_spec.specs.Lexemes.{Lexeme}
use Rattle.lexer_combinators.specs.Grammar.{Size}
use Rattle.lexer_combinators.specs.Overflows.{IsFirstOverflow}
use Rattle.script_parse.specs.declared.statement.ReadFault.{ReadFault}
use Rattle.script_parse.specs.declared.statement.ReadFault.TheVariants.{NoMemory, Syntax, TooMany}
use Rattle.script_parse.specs.declared.statement.Statement.{Statement}
use Rattle.script_parse.specs.Statements.{PlainStatement}
use Rattle.script_parse.specs.Lexing.{Placed, Tokens, lexed, saying}
use Rattle.script_parse.specs.Productions.{IsStatement}
use Rattle.script_parse.specs.StatementOverflows.{statement_overflows}
use Rattle.script_parse.specs.Reading.{Reading, reading, Answers, Gives, IsOver, IsReadAs}
use Rattle.script_parse.specs.Reading.{IsReading}
use Rattle.script_parse.proofs.ReadingLaws.{of_the_grammar, are_read, are_kept}
use Rattle.script_parse.proofs.OneReading.{are_one}

given : (P : Reading → Type 0) (wanted : Reading) (found : Result (Option Statement) ReadFault)
    → Gives wanted found → P wanted → Answers P found
given P wanted (Ok None) g h = subst P (sym g) h
given P wanted (Ok (Some s)) g h = subst P (sym g) h
given P wanted (Err NoMemory) g h = tt
given P wanted (Err (Syntax at)) g h = subst P (sym g) h
given P wanted (Err (TooMany w most)) g h = subst P (sym g) h

module _ (text : List ℕ) (found : Result (Option Statement) ReadFault)
    (g : Gives (reading text) found) where
  pub given_reading : Answers (IsReading text) found
  given_reading = given (IsReading text) (reading text) found g (of_the_grammar text)

  pub given_one : (r : Reading) → IsReading text r → Gives r found
  given_one r h = let P : Reading → Type 0 = λ w. Gives w found in subst P (are_one text r h) g

  pub given_read : (tokens : List Placed) (s : PlainStatement) (size : Size)
      → lexed text ≡ Tokens tokens → IsStatement s size (saying tokens)
      → Answers (IsReadAs s size) found
  given_read tokens s size e h = given (IsReadAs s size) (reading text) found g
      (are_read text tokens s size e h)

  pub given_over : (w : What) (tokens : List Placed) (prefix suffix more : List Lexeme) (x : Lexeme)
      (s : PlainStatement) (size : Size) (h : IsStatement s size (prefix ++ x ∷ more))
      → lexed text ≡ Tokens tokens → saying tokens ≡ prefix ++ x ∷ suffix →
      IsFirstOverflow w (statement_overflows s size (prefix ++ x ∷ more) h) (length prefix)
      → Answers (IsOver w) found
  given_over w tokens prefix suffix more x s size h l e f =
      given (IsOver w) (reading text) found g
      (are_kept text w tokens prefix suffix more x s size h l e f)
