-- What is read is of the grammar: a command's stamp is a moment, and constants are valid.
use Rattle.std.proofs.Common.{◌≡◌, ◌<◌, ◌≤◌, ℕ, Bool, true, false, cond, List, length, refl, sym}
use Rattle.std.proofs.Common.{subst, arith, inl, inr}
use Rattle.std.specs.Prelude.{Some, None, nat_le, pos, negsuc}
use Rattle.std.proofs.lemmas.Bool.Decides.{nat_tests}
use Rattle.relations_spec.specs.Spans.{forever}
use Rattle.lexer_spec.specs.Lexemes.{Lexeme}
use Rattle.lexer_spec.specs.Lexemes as lexeme
use Rattle.lexer_combinators.specs.Grammar.{Size}
use Rattle.lexer_combinators.specs.Derivations.{Derivation, derivation, after_lexeme}
use Rattle.lexer_combinators.proofs.DerivationLaws.{given_value, made_value}
use Rattle.lexer_trees_spec.specs.Constants.{as_natural, moment_grammar}
use Rattle.sessions.specs.Requests.{Request, IsTimely}
use Rattle.script_parse.specs.Statements.{PlainStatement, write, ask, explain, show_versions}
use Rattle.script_parse.specs.Statements.{show_schema, show_sizes, show_cursors, checkpoint, pairs}
use Rattle.script_parse.specs.Statements.{aggregate, session}
use Rattle.script_parse.specs.Productions.{IsWrite, IsQuery, IsExplain, IsShowVersions}
use Rattle.script_parse.specs.Productions.{IsShowSchema, IsShowSizes, IsPairs, IsAggregate}
use Rattle.script_parse.specs.Productions.{IsShowCursors, IsBegin, IsDo, IsCommit, IsAbort, IsOpen}
use Rattle.script_parse.specs.Productions.{IsFetch, IsClose, IsRequest, IsSession, IsCheckpoint}
use Rattle.script_parse.specs.Productions.{IsStatement}
use Rattle.script_parse.specs.Reading.{Reading, Blank, Refused, Whole, IsReading, reading}
use Rattle.script_parse.proofs.ReadingLaws.{of_the_grammar}
use Rattle.script_cli_statement.specs.Written.{OpensWritten, IsWritten, HasWritten}
use Rattle.script_cli_statement.specs.SessionResponses.{IsTimelyStatement}
use Rattle.script_cli_statement.proofs.ReadConstants.{AllValid, TokensValid, lexed_valid}
use Rattle.script_cli_statement.proofs.ReadParts.{Read, value_read, read, led, first, rest, source}
use Rattle.script_cli_statement.proofs.ReadStatements.{body_valid, query_valid}
use Rattle.script_cli_statement.proofs.ReadStatements.{bracketed_valid, bracketed_full_valid}

natural_most : (most : ℕ) (x : Lexeme) (n : ℕ) → as_natural most x ≡ Some n → n ≤ most
natural_most most (lexeme.number (pos k)) n e = step (nat_le k most) refl e
  where
    step : (b : Bool) → nat_le k most ≡ b → cond b (Some k) None ≡ Some n → n ≤ most
    step true q h = let i : k ≡ n = cc in grind (arith, nat_tests)
    step false q h = cc
natural_most most (lexeme.number (negsuc k)) n e = cc
natural_most most (lexeme.word w) n e = cc
natural_most most (lexeme.text t) n e = cc
natural_most most (lexeme.sign s) n e = cc

moment_before : (n : ℕ) (s : Size) (ts : List Lexeme) → moment_grammar n s ts → n < forever
moment_before n s ts h = let m = natural_most 18446744073709551614 h.0 n h.1 in omega (arith, m)

-- what a session asks for is written so
abbrev RequestWritten : Request → Type 0
RequestWritten request = IsTimely request × OpensWritten request

request_written : (r : Request) (size : Size) (ts : List Lexeme) → AllValid ts
    → IsRequest r size ts → RequestWritten r
request_written r size ts l (inl h) =
    let whole : Derivation IsBegin = derivation r size ts h in
    subst RequestWritten (sym (given_value (after_lexeme whole))) (tt, tt)
request_written r size ts l (inr (inl h)) =
    let whole : Derivation IsDo = derivation r size ts h in
    subst RequestWritten (sym (made_value (after_lexeme whole))) (tt, tt)
request_written r size ts l (inr (inr (inl h))) =
    let whole : Read IsCommit = read r size ts l h in
    let from_stamp = led (led whole) in
    let stamp = (source from_stamp).derived in
    subst RequestWritten (sym (made_value from_stamp.derived))
    (moment_before stamp.value stamp.size stamp.lexemes stamp.derives, tt)
request_written r size ts l (inr (inr (inr (inl h)))) =
    let whole : Derivation IsAbort = derivation r size ts h in
    subst RequestWritten (sym (given_value (after_lexeme whole))) (tt, tt)
request_written r size ts l (inr (inr (inr (inr (inl h))))) =
    let whole : Read IsOpen = read r size ts l h in
    let from_ask = rest (led whole) in
    subst RequestWritten (sym (made_value from_ask.derived)) (tt, query_valid (source from_ask))
request_written r size ts l (inr (inr (inr (inr (inr (inl h)))))) =
    let whole : Read IsFetch = read r size ts l h in
    let from_count = rest (led whole) in
    subst RequestWritten (sym (made_value from_count.derived)) (tt, tt)
request_written r size ts l (inr (inr (inr (inr (inr (inr h)))))) =
    let whole : Derivation IsClose = derivation r size ts h in
    subst RequestWritten (sym (made_value (after_lexeme whole))) (tt, tt)

statement_written : (s : PlainStatement) (size : Size) (ts : List Lexeme) → AllValid ts
    → IsStatement s size ts → IsWritten s
statement_written s size ts l (inl h) =
    let whole : Read IsWrite = read s size ts l h in
    let from_stamp = led whole in
    let stamp = (first from_stamp).derived in
    let after_stamp = rest from_stamp in
    let body = source after_stamp in
    subst IsWritten (sym (made_value after_stamp.derived)) (
      moment_before stamp.value stamp.size stamp.lexemes stamp.derives,
      body_valid (value_read body) body.derived.size body.derived.lexemes body.valid
          body.derived.derives,
    )
statement_written s size ts l (inr (inl h)) =
    let whole : Read IsQuery = read s size ts l h in
    let from_ask = led whole in
    subst IsWritten (sym (made_value from_ask.derived)) (query_valid (source from_ask))
statement_written s size ts l (inr (inr (inl h))) =
    let whole : Read IsExplain = read s size ts l h in
    let from_ask = led (led whole) in
    subst IsWritten (sym (made_value from_ask.derived)) (query_valid (source from_ask))
statement_written s size ts l (inr (inr (inr (inl (inl h))))) =
    let whole : Derivation IsShowVersions = derivation s size ts h in
    subst IsWritten (sym (given_value (after_lexeme (after_lexeme whole)))) tt
statement_written s size ts l (inr (inr (inr (inl (inr (inl h)))))) =
    let whole : Derivation IsShowSchema = derivation s size ts h in
    subst IsWritten (sym (made_value (after_lexeme (after_lexeme whole)))) tt
statement_written s size ts l (inr (inr (inr (inl (inr (inr (inl h))))))) =
    let whole : Derivation IsShowSizes = derivation s size ts h in
    subst IsWritten (sym (given_value (after_lexeme (after_lexeme whole)))) tt
statement_written s size ts l (inr (inr (inr (inl (inr (inr (inr h))))))) =
    let whole : Derivation IsShowCursors = derivation s size ts h in
    subst IsWritten (sym (given_value (after_lexeme (after_lexeme whole)))) tt
statement_written s size ts l (inr (inr (inr (inr (inl h))))) =
    let whole : Read IsPairs = read s size ts l h in
    let from_left = led whole in
    let after_relation = rest (rest from_left) in
    subst IsWritten (sym (made_value after_relation.derived)) (
      bracketed_valid (first from_left),
      bracketed_valid (source after_relation),
    )
statement_written s size ts l (inr (inr (inr (inr (inr (inl h)))))) =
    let whole : Read IsAggregate = read s size ts l h in
    let after_group = rest (led (rest (led whole))) in
    subst IsWritten (sym (made_value after_group.derived))
    (bracketed_full_valid (source after_group))
statement_written s size ts l (inr (inr (inr (inr (inr (inr (inl h))))))) =
    let whole : Read IsSession = read s size ts l h in
    let after_number = rest (led whole) in
    let asked = source after_number in
    subst IsWritten (sym (made_value after_number.derived))
    (request_written (value_read asked) asked.derived.size asked.derived.lexemes asked.valid
    asked.derived.derives)
statement_written s size ts l (inr (inr (inr (inr (inr (inr (inr h))))))) =
    let whole : Derivation IsCheckpoint = derivation s size ts h in
    subst IsWritten (sym (given_value (after_lexeme whole))) tt

reading_written : (text : List ℕ) (r : Reading) → IsReading text r → HasWritten r
reading_written text Blank h = tt
reading_written text (Refused r) h = tt
reading_written text (Whole s) h = statement_written s h.2 _
    (subst TokensValid h.1 (lexed_valid (length text) 0 text)) h.3

pub has_written : (text : List ℕ) → HasWritten (reading text)
has_written text = reading_written text (reading text) (of_the_grammar text)

-- the stamp of a COMMIT that is read is a moment
timely_of : (s : PlainStatement) → IsWritten s → IsTimelyStatement s
timely_of (session s request) h = h.0
timely_of (write command) h = tt
timely_of (ask query) h = tt
timely_of (explain query) h = tt
timely_of (pairs left relation right) h = tt
timely_of (aggregate items group query) h = tt
timely_of show_versions h = tt
timely_of (show_schema version) h = tt
timely_of show_sizes h = tt
timely_of show_cursors h = tt
timely_of checkpoint h = tt

pub read_timely : (text : List ℕ) (s : PlainStatement) → Whole s ≡ reading text
    → IsTimelyStatement s
read_timely text s e = timely_of s (subst HasWritten (sym e) (has_written text))
