-- The laws of the output: what a script, its statements and their replies are.
use Rattle.std.specs.Prelude.{◌≡◌, ◌<◌, ◌≤◌, ◌++◌, ℕ, List, [], Some, None}
use Rattle.relations_spec.specs.Spans.{forever}
use Rattle.relations_spec.specs.Listing.{IsListing}
use Rattle.prima_base.specs.Order.{row_cmp}
use Rattle.prima_base.specs.Keeping.{kept}
use Rattle.prima_base.specs.declared.value.Value.{Value}
use Rattle.prima_base.specs.declared.value.ColType.{ColType}
use Rattle.prima_base.specs.declared.refusal.OpKind.{OpKind}
use Rattle.prima_base.specs.declared.refusal.Refusal.TheVariants.{NoInverse}
use Rattle.cond_expr.specs.Kinds.{value_kind}
use Rattle.smo_ops_types.specs.Commands.{PlainCommand}
use Rattle.smo_ops_spec.specs.Accepts.{command_fault}
use Rattle.smo_ops_spec.specs.Past.{beginning, database_at, next_database, past_with}
use Rattle.temporal_lang_types.specs.Queries.{PlainQuery, slice_of}
use Rattle.temporal_lang_types.specs.declared.agg_item.AggItem.{AggItem}
use Rattle.temporal_lang_types.specs.declared.relation.Relation.{Relation}
use Rattle.temporal_lang_spec.specs.PairFaults.{fault_of_pairs}
use Rattle.temporal_lang_spec.specs.AggregateFaults.{fault_of_aggregate}
use Rattle.period_join.specs.RelatedEntries.{AreRelated, related_entries}
use Rattle.time_aggregate.specs.Aggregates.{IsAggregated}
use Rattle.time_aggregate.specs.Aggregated.{aggregated}
use Rattle.temporal_lang_spec.specs.Accepted.{fault_of_query, HasNoWayBack}
use Rattle.temporal_lang_spec.specs.Answers.{asked_at, listing, answer}
use Rattle.temporal_lang_losses_spec.specs.Filled.{asked_with}
use Rattle.temporal_lang_losses_spec.specs.LawOfLosses.{LawOfLosses}
use Rattle.piece_ir_spec.specs.Rules.{Book}
use Rattle.archive_core_file_spec.specs.LogRecords.{LogRecord, AreEncoded, AreAccepted, AreSound}
use Rattle.archive_core_file_spec.specs.LogRecords.{past_recorded}
use Rattle.sessions.specs.Runs.{CursorsKeepTheirAnswers, TransactionsAreWhole, OnlyCommitsChange}
use Rattle.sessions.specs.Runs.{SessionsAreApart}
use Rattle.script_parse.specs.Script.{StatementPart, statements_of, tail_of}
use Rattle.script_parse.specs.Joining.{Each}
use Rattle.script_parse.specs.Lexing.{TextsAreLexed}
use Rattle.script_parse.specs.Reading.{LimitsAreKept, ReadingsAreOne, ReadingsAreOfTheGrammar}
use Rattle.script_parse.specs.Reading.{StatementsAreRead, Whole, reading}
use Rattle.script_parse.specs.Statements.{explain}
use Rattle.script_parse_laws.specs.Parts.{IsOpenFault, IsScript}
use Rattle.script_cli_statement.specs.ArchiveOnDisk.{need_of}
use Rattle.script_cli_statement.specs.Due.{AreRecordsOf}
use Rattle.script_cli_statement.specs.Explaining.{TellsPieces}
use Rattle.script_cli_statement.specs.Given.{Given}
use Rattle.script_cli_statement.specs.Replies.{Recorded, recorded, StandsAfter, reply}
use Rattle.script_cli_sample.specs.Summary.{is_error_line}
use Rattle.script_cli.specs.Output.{all_puts, recorded_after}
use Rattle.script_cli.specs.Stepping.{StatementsAreSteps, FetchesAreOfTheAnswer}
use Rattle.script_cli.specs.Stepping.{CommitsAreCommands}
use Rattle.script_cli.specs.Runs.{given_by}

-- What the output of a script is made of, where the book's rules take queries from version to
-- version.
pub record OutputLaws (book : Book) : Type 0 where
  -- a script is its statements, each of whole texts, comments and other bytes and with a `;` after
  -- it, and the tail
  pub splits : (script : List ℕ) → IsScript script (statements_of script) (tail_of script)
  -- it is no others
  pub once : (script : List ℕ) (statements : List (List ℕ)) (tail : List ℕ)
      → IsScript script statements tail
      → (statements ≡ statements_of script) × (tail ≡ tail_of script)
  -- in no statement of a script does the lexer find a text that does not end
  pub closed : (script : List ℕ) (statements : List (List ℕ)) (tail : List ℕ)
      → IsScript script statements tail → Each (λ s. IsOpenFault s → ⊥) statements
  -- the tokens of a text, or its first lexical fault, are the one list, or the one fault, of the
  -- lexer's relation
  pub lexes : TextsAreLexed
  -- what a statement's bytes are read as is so in the words of the grammar: a statement of it, or
  -- refused at the first byte or token from which no statement goes on, or for what is too much
  pub reads : ReadingsAreOfTheGrammar
  -- each statement of the grammar is read if it is within the limits, and else refused for what is
  -- over its limit
  pub readable : StatementsAreRead
  -- no text has another reading
  pub only : ReadingsAreOne
  -- a count that passes its limit at a token is refused, whatever stands after that token
  pub limits : LimitsAreKept
  -- After statements stands the past of the opening records with those of what was put, and the
  -- gate stands after them: each command was accepted after what stands before it, and each image
  -- shows just the past before it. So a file that they make opens, and is sound where the opening
  -- records are.
  pub records : (limit : Given) (opening : List LogRecord) (statements : List StatementPart)
      (log : List LogRecord) → AreRecordsOf (all_puts limit (recorded opening) statements) log
      → StandsAfter (opening ++ log) (recorded_after limit (recorded opening) statements)
      × AreSound (past_recorded opening) log
      × (AreAccepted beginning opening → AreAccepted beginning (opening ++ log))
      × (AreSound beginning opening → AreSound beginning (opening ++ log))
  -- a command that is accepted after some statements is seen from its stamp on: before it each
  -- moment's database is as it was
  pub seen : (limit : Given) (opening : List LogRecord) (statements : List StatementPart)
      (command : PlainCommand) (m : ℕ) → AreEncoded opening → AreAccepted beginning opening
      → let past = (recorded_after limit (recorded opening) statements).past in
      command_fault past command ≡ None
      → (m < command.stamp → database_at (past_with past command) m ≡ database_at past m)
      × (command.stamp ≤ m → database_at (past_with past command) m
      ≡ next_database command.body past)
  -- The answer to a query that is not refused, after some statements: the one list of what is asked
  -- of each moment of its slice, each row with its longest periods, of which the entries stay that
  -- meet every condition of KEEP. What is asked of a moment is asked of that moment's database,
  -- carried to the version that the query names.
  pub answers : (limit : Given) (opening : List LogRecord) (statements : List StatementPart)
      (query : PlainQuery) → AreEncoded opening → AreAccepted beginning opening
      → let past = (recorded_after limit (recorded opening) statements).past in
      fault_of_query past query ≡ None → (slice_of query.when).end ≤ forever
      → IsListing row_cmp (asked_at past query) (slice_of query.when) (listing past query)
      × (answer past query ≡ kept query.keep (listing past query))
  -- The reply to a PAIRS that is not refused, after some statements: all pairs of an entry of the
  -- left query's answer and one of the right one's whose periods stand in the relation, and no
  -- others, each once.
  pub pairs : (limit : Given) (opening : List LogRecord) (statements : List StatementPart)
      (left : PlainQuery) (relation : Relation) (right : PlainQuery) → AreEncoded opening
      → AreAccepted beginning opening
      → let past = (recorded_after limit (recorded opening) statements).past in
      fault_of_pairs past left right ≡ None → (slice_of left.when).end ≤ forever
      → (slice_of right.when).end ≤ forever
      → AreRelated relation (answer past left) (answer past right)
      (related_entries relation (answer past left) (answer past right))
  -- The reply to an AGGREGATE that is not refused, after some statements: the one list of what the
  -- aggregates have of the groups of the rows that are asked of each moment of the query's slice,
  -- each group with the longest periods in which that stays the same.
  pub aggregates : (limit : Given) (opening : List LogRecord) (statements : List StatementPart)
      (items : List AggItem) (group : ℕ) (query : PlainQuery) → AreEncoded opening
      → AreAccepted beginning opening
      → let past = (recorded_after limit (recorded opening) statements).past in
      fault_of_aggregate past items group query ≡ None → query.keep ≡ []
      → (slice_of query.when).end ≤ forever
      → IsAggregated group items (asked_at past query) (slice_of query.when)
      (aggregated group items (answer past query))
  -- The reply to an EXPLAIN of a query that is not refused, after some statements: the lines of the
  -- query's pieces. Of those into which the query unfolds they are just those that are not dead,
  -- which is said over all values of the columns' types.
  pub explains : (limit : ℕ) (opening : List LogRecord) (statements : List StatementPart)
      (text : List ℕ) (query : PlainQuery) → AreEncoded opening → AreAccepted beginning opening
      → let now = recorded_after (given_by limit book) (recorded opening) statements in
      reading text ≡ Whole (explain query) → fault_of_query now.past query ≡ None
      → TellsPieces (given_by limit book) now text query
  -- A query is refused for want of an inverse only by an operator on the way without a named or
  -- derived inverse: at the least moment of the query's slice at which an item of it is lost, the
  -- version that is told is gone back over, names none, its operator has none that is derived, and
  -- it loses the item: its table, or the first lost column of it that the branch names.
  pub inverse : (limit : Given) (opening : List LogRecord) (statements : List StatementPart)
      (query : PlainQuery) (k : ℕ) (kind : OpKind)
      → let past = (recorded_after limit (recorded opening) statements).past in
      fault_of_query past query ≡ Some (NoInverse k kind) → HasNoWayBack past query k kind
  -- what is lost by names alone tells how far two databases stay alike on a way, and what is
  -- answered alike over both
  pub losses : LawOfLosses
  -- No answer shows a filling: what a query that is not refused asks of a moment of its slice is
  -- the same with any other constants in the dropped columns that are filled on the way.
  pub fillings : (limit : Given) (opening : List LogRecord) (statements : List StatementPart)
      (query : PlainQuery) (constants : ColType → Value) (m : ℕ) → AreEncoded opening
      → AreAccepted beginning opening → ((k : ColType) → value_kind (constants k) ≡ k)
      → let past = (recorded_after limit (recorded opening) statements).past in
      fault_of_query past query ≡ None → (slice_of query.when).start ≤ m
      → m < (slice_of query.when).end → asked_at past query m ≡ asked_with constants past query m
  -- The statements of a script are steps of its sessions. Of each list of steps: a FETCH gives the
  -- next entries of the answer at its cursor's opening, whatever is done between; and a transaction
  -- is committed whole, as the one command of all its changes, or changes nothing.
  pub steps : (limit : Given) → StatementsAreSteps limit
  pub cursors : CursorsKeepTheirAnswers need_of
  -- so has the reply to a FETCH the bytes of these entries
  pub fetches : (limit : Given) → FetchesAreOfTheAnswer limit
  pub transactions : TransactionsAreWhole need_of
  -- what one session asks for leaves what another has, and what it is not about of its own
  pub apart : SessionsAreApart need_of
  -- nothing that a session asks for but a COMMIT changes the past
  pub commits : OnlyCommitsChange need_of
  -- a COMMIT of changes is answered as an AT with all of them is, and puts the same command
  pub commands : (limit : Given) → CommitsAreCommands limit
  -- a reply counts as an error exactly where its line begins with `error `
  pub errors : (limit : Given) (now : Recorded) (text : List ℕ)
      → (reply limit now text).is_error ≡ is_error_line (reply limit now text).text
