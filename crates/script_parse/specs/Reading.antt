-- What a text is read as: as a function, and in the words of the grammar.
use Rattle.std.specs.Prelude.{◌≡◌, ℕ, ◌-◌, ◌≤◌, List, [], ◌∷◌, ◌++◌, length, map, get_or, Option}
use Rattle.std.specs.Prelude.{Some, None, Result, Ok, Err, ◌⊎◌}
use Rattle.prima_base.specs.declared.refusal.Refusal.{Refusal}
use Rattle.prima_base.specs.declared.refusal.Refusal.TheVariants.{Syntax, TooMany}
use Rattle.prima_base.specs.declared.refusal.What.{What}
use Rattle.prima_base.specs.Limits.{max_nodes, max_depth}
use Rattle.lexer_spec.specs.Lexemes.{Lexeme}
use Rattle.lexer_combinators.specs.Parsing.{Out, Parsed, Unexpected, LimitExceeded, CanGoOn, Valid}
use Rattle.lexer_combinators.specs.Parsing.{Exceeds, limit}
use Rattle.lexer_combinators.specs.Grammar.{Size}
use Rattle.lexer_combinators.specs.Found.{IsFirst}
use Rattle.lexer_combinators.specs.Overflows.{IsFirstOverflow, OverflowsFirst}
use Rattle.script_parse.specs.declared.statement.ReadFault.{ReadFault}
use Rattle.script_parse.specs.declared.statement.ReadFault.TheVariants as fault
use Rattle.script_parse.specs.declared.statement.Statement.{Statement}
use Rattle.script_parse.specs.Statements.{PlainStatement, statement_of}
use Rattle.script_parse.specs.Pads.{ArePads}
use Rattle.script_parse.specs.Lexing.{Placed, Lexed, Tokens, Faulty, lexed, saying}
use Rattle.script_parse.specs.Productions.{IsStatement}
use Rattle.script_parse.specs.StatementReader.{statement}
use Rattle.script_parse.specs.StatementOverflows.{statement_overflows}

pub data Reading : Type 0 where
  -- blanks and comments alone
  Blank : Reading
  -- no statement, and why
  Refused : Refusal → Reading
  Whole : PlainStatement → Reading

-- ---- the function

-- the place of the token with this number, from 0; after the last, the end
abbrev pub place : List Placed → ℕ → ℕ → ℕ
place tokens k end = get_or (map (λ (t : Placed). t.at) tokens) k end

-- the place where so many tokens are left
abbrev pub place_before : List Placed → ℕ → ℕ → ℕ
place_before tokens left end = place tokens (length tokens - left) end

-- a statement that takes all tokens, or the first token that is refused
abbrev pub answered : List Placed → ℕ → Out PlainStatement → Reading
answered tokens end (Parsed s n []) = Whole s
answered tokens end (Parsed s n (x ∷ suffix)) =
    Refused (Syntax (place_before tokens (length (x ∷ suffix)) end))
answered tokens end (Unexpected n suffix) = Refused
    (Syntax (place_before tokens (length suffix) end))
answered tokens end (LimitExceeded w n suffix) = Refused (TooMany w (limit w))

-- a lexical fault comes before all else
abbrev pub read_as : ℕ → Lexed → Reading
read_as end (Faulty at) = Refused (Syntax at)
read_as end (Tokens []) = Blank
read_as end (Tokens (t ∷ tokens)) = answered (t ∷ tokens) end (statement 0 (saying (t ∷ tokens)))

unfoldable pub reading : List ℕ → Reading
reading text = read_as (length text) (lexed text)

-- ---- answers of the code

-- what is answered is so, unless memory ran out
abbrev pub Answers : (Reading → Type 0) → Result (Option Statement) ReadFault → Type 0
Answers P (Ok None) = P Blank
Answers P (Ok (Some s)) = P (Whole (statement_of s))
Answers P (Err fault.NoMemory) = Unit {0}
Answers P (Err (fault.Syntax at)) = P (Refused (Syntax at))
Answers P (Err (fault.TooMany w most)) = P (Refused (TooMany w most))

-- this is answered, unless memory ran out
abbrev pub Gives : Reading → Result (Option Statement) ReadFault → Type 0
Gives wanted found = Answers (λ r. r ≡ wanted) found

-- the fault of a lexical one at this place; none is running out of memory
abbrev pub IsOfPlace : Option ℕ → ReadFault → Type 0
IsOfPlace None f = f ≡ fault.NoMemory
IsOfPlace (Some at) f = f ≡ fault.Syntax at

-- ---- the relation

-- nothing is more than its limit
abbrev pub IsWithin : Size → Type 0
IsWithin s = (s.nodes ≤ max_nodes) × Valid max_depth s

-- however a statement goes on after the prefix and this token, it is the first at which a count
-- passes its limit, and this count
abbrev pub IsTooMuch : What → List Placed → Type 0
IsTooMuch w tokens = (prefix : List Lexeme) × (x : Lexeme) × (suffix : List Lexeme)
    × (saying tokens ≡ prefix ++ x ∷ suffix) × OverflowsFirst IsStatement statement_overflows w
    prefix x

-- the token at this place is the first with which no statement goes on
abbrev pub IsWrongAt : List Placed → ℕ → Type 0
IsWrongAt tokens at = (k : ℕ) × (at ≡ place tokens k 0) × IsFirst IsStatement (saying tokens) k

-- there are tokens, and a statement goes on with them all, but they are none
abbrev pub IsUnfinished : List Placed → Type 0
IsUnfinished [] = ⊥
IsUnfinished (t ∷ tokens) = CanGoOn IsStatement (saying (t ∷ tokens))
    × ((s : PlainStatement) (size : Size) → IsStatement s size (saying (t ∷ tokens)) → ⊥)

-- the first token that is wrong, or their end
abbrev pub EndsWrong : List ℕ → List Placed → ℕ → Type 0
EndsWrong text tokens at = IsWrongAt tokens at ⊎ ((at ≡ length text) × IsUnfinished tokens)

-- the first lexical fault of the text; or without one the first token that is wrong, or its end,
-- and no count has passed its limit before
abbrev pub IsFaultAt : List ℕ → ℕ → Type 0
IsFaultAt text at =
    (lexed text ≡ Faulty at) ⊎
    ((tokens : List Placed) × (lexed text ≡ Tokens tokens) × EndsWrong text tokens at
    × ((w : What) → IsTooMuch w tokens → ⊥))

abbrev pub IsReading : List ℕ → Reading → Type 0
IsReading text Blank = ArePads text
IsReading text (Whole s) = (tokens : List Placed) × (lexed text ≡ Tokens tokens) × (size : Size)
    × IsStatement s size (saying tokens) × IsWithin size
IsReading text (Refused (Syntax at)) = IsFaultAt text at
IsReading text (Refused (TooMany w most)) = (most ≡ limit w) × (tokens : List Placed)
    × (lexed text ≡ Tokens tokens) × IsTooMuch w tokens
IsReading text (Refused _) = ⊥

-- ---- the laws between them

-- what a text is read as is so by the grammar
abbrev pub ReadingsAreOfTheGrammar : Type 0
ReadingsAreOfTheGrammar = (text : List ℕ) → IsReading text (reading text)

-- the grammar tells one reading of each text
abbrev pub ReadingsAreOne : Type 0
ReadingsAreOne = (text : List ℕ) (r : Reading) → IsReading text r → reading text ≡ r

-- refused since something is too much that is so in this size
abbrev pub IsExceeded : Size → Reading → Type 0
IsExceeded size r = (w : What) × Exceeds w 0 max_depth size × (r ≡ Refused (TooMany w (limit w)))

-- read as this statement if it is within the limits, and else refused for what is over its limit
abbrev pub IsReadAs : PlainStatement → Size → Reading → Type 0
IsReadAs s size r = (IsWithin size → r ≡ Whole s) × ((IsWithin size → ⊥) → IsExceeded size r)

abbrev pub StatementsAreRead : Type 0
StatementsAreRead = (text : List ℕ) (tokens : List Placed) (s : PlainStatement) (size : Size)
    → lexed text ≡ Tokens tokens → IsStatement s size (saying tokens)
    → IsReadAs s size (reading text)

-- refused for this count
abbrev pub IsOver : What → Reading → Type 0
IsOver w r = r ≡ Refused (TooMany w (limit w))

-- a prefix that passes a limit at its last token, in one statement that begins with it, is refused
-- there, whatever stands after it
abbrev pub LimitsAreKept : Type 0
LimitsAreKept = (text : List ℕ) (w : What) (tokens : List Placed) (prefix suffix more : List Lexeme)
    (x : Lexeme) (s : PlainStatement) (size : Size) (h : IsStatement s size (prefix ++ x ∷ more)) →
    lexed text ≡ Tokens tokens → saying tokens ≡ prefix ++ x ∷ suffix
    → IsFirstOverflow w (statement_overflows s size (prefix ++ x ∷ more) h) (length prefix)
    → IsOver w (reading text)
