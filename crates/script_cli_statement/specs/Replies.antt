-- The reply to a statement, what it puts, and what stands after it.
use Rattle.std.specs.Prelude.{◌≡◌, ℕ, ◌+◌, List, [], ◌∷◌, Bool, true, false, length, map, Some}
use Rattle.std.specs.Prelude.{None}
use Rattle.prima_base.specs.declared.refusal.Refusal.{Refusal}
use Rattle.smo_ops_types.specs.Changes.{PlainChange}
use Rattle.smo_ops_types.specs.Commands.{PlainBody, changing, evolving, PlainCommand}
use Rattle.smo_ops_spec.specs.Checks.{Fault}
use Rattle.smo_ops_spec.specs.Effects.{gained, lost}
use Rattle.smo_ops_spec.specs.Past.{Past, newest_database, next_database, past_with, tables_of}
use Rattle.piece_ir_spec.specs.Rules.{Book}
use Rattle.archive_core_file_spec.specs.LogRecords.{LogRecord, gate_after, past_recorded}
use Rattle.script_cli_vault.specs.ArchiveOnDisk.{commit_fault, checkpoint_fault}
use Rattle.temporal_lang_types.specs.Queries.{PlainQuery}
use Rattle.temporal_lang_types.specs.declared.relation.Relation.{Relation}
use Rattle.temporal_lang_types.specs.declared.agg_item.AggItem.{AggItem}
use Rattle.temporal_lang_spec.specs.Accepted.{version_fault, fault_of_query}
use Rattle.temporal_lang_spec.specs.PairFaults.{fault_of_pairs}
use Rattle.temporal_lang_spec.specs.AggregateFaults.{fault_of_aggregate}
use Rattle.temporal_lang_spec.specs.Answers.{answer}
use Rattle.sessions.specs.Shared.{Shared}
use Rattle.sessions.specs.SessionStates.{PlainSessions, no_sessions}
use Rattle.sessions.specs.Requests.{Request, beginning, buffering, committing, aborting, opening}
use Rattle.sessions.specs.Requests.{fetching, closing}
use Rattle.sessions.specs.Steps.{World, a_world, fault_of, answer_of, world_then, command_at}
use Rattle.sessions.specs.Steps.{changes_so_far}
use Rattle.sessions.specs.Lines.{line_of}
use Rattle.script_parse.specs.Statements.{PlainStatement, write, ask, explain, show_versions}
use Rattle.script_parse.specs.Statements.{show_schema, show_sizes, show_cursors, checkpoint, pairs}
use Rattle.script_parse.specs.Statements.{aggregate, session}
use Rattle.period_join.specs.RelatedEntries.{related_entries}
use Rattle.time_aggregate.specs.Aggregated.{aggregated}
use Rattle.script_parse.specs.Reading.{Reading, Blank, Refused, Whole, reading}
use Rattle.script_cli_vault.specs.ArchiveOnDisk.{Done, tells_periods, pieces_told}
use Rattle.answer_text.specs.RefusalTexts.{refusal_text}
use Rattle.answer_text.specs.Texts.{made_text, changed_text, evolved_text, checkpoint_text}
use Rattle.answer_text.specs.Texts.{listing_text, explain_text, versions_text, schema_text}
use Rattle.answer_text.specs.Texts.{sizes_text, pairs_text, aggregates_text}
use Rattle.answer_text.specs.SessionTexts.{cursors_text}
use Rattle.script_cli_vault.specs.Shown.{need_of}
use Rattle.script_cli_statement.specs.Due.{Due, command_due, image_due, due_length, past_after_due}
use Rattle.script_cli_statement.specs.Given.{Given}
use Rattle.script_cli_statement.specs.SessionLines.{said_text}

-- what stands after statements: the past, the place of the gate after the journal's records, and
-- what the sessions have
pub record Recorded : Type 0 where
  pub past : Past
  pub at : ℕ
  pub sessions : PlainSessions

-- after these records, where no transaction is begun and no cursor is open
abbrev pub recorded : List LogRecord → Recorded
recorded log = record {
  past = past_recorded log;
  at = gate_after log;
  sessions = no_sessions;
}

-- the past and the gate are those after these records, whatever the sessions have
pub record StandsAfter (log : List LogRecord) (now : Recorded) : Type 0 where
  pub past : now.past ≡ past_recorded log
  pub at : now.at ≡ gate_after log

-- no session has begun anything yet
abbrev pub IsFresh : Recorded → Type 0
IsFresh now = now.sessions ≡ no_sessions

-- with what is due, whose record stands after the gate
abbrev pub recorded_with : Recorded → Due → Recorded
recorded_with now due = record {
  past = past_after_due now.past due;
  at = now.at + 10 + due_length due;
  sessions = now.sessions;
}

-- a reply: its bytes; what is put, if anything is; what stands after the statement; and whether it
-- is an `error` line
pub record Reply : Type 0 where
  pub text : List ℕ
  pub puts : List Due
  pub after : Recorded
  pub is_error : Bool

abbrev pub refused : Refusal → Recorded → Reply
refused r now = record { text = refusal_text r; puts = []; after = now; is_error = true }

abbrev pub answered : List ℕ → Recorded → Reply
answered text now = record { text = text; puts = []; after = now; is_error = false }

-- the refusal, if there is one; else the reply
abbrev pub refused_or : Fault → Recorded → Reply → Reply
refused_or None now reply = reply
refused_or (Some r) now reply = refused r now

-- the line that tells what an accepted command did
abbrev pub done_text : Done → List ℕ
done_text done = made_text done.stamp done.gained done.lost done.version

-- the line of an accepted command: the rows gained and lost from the newest database to that after
-- the changes, or the number of the version
abbrev pub body_text : ℕ → PlainBody → Past → Past → List ℕ
body_text stamp (changing changes) past next =
    changed_text stamp (gained (newest_database past) (next_database (changing changes) past))
    (lost (newest_database past) (next_database (changing changes) past))
body_text stamp (evolving op inverse) past next = evolved_text stamp (length next.versions)

abbrev pub command_text : PlainCommand → Past → Past → List ℕ
command_text command past next = body_text command.stamp command.body past next

-- what is due is put, and then its `ok` line
abbrev pub put : List ℕ → Due → Recorded → Reply
put text due now = record {
  text = text;
  puts = due ∷ [];
  after = recorded_with now due;
  is_error =
      false;
}

abbrev pub put_command : PlainCommand → Recorded → Reply
put_command command now = put (command_text command now.past (past_with now.past command))
    (command_due command) now

-- a command is accepted where its past does not refuse it, and its record ends within the limit
abbrev pub command_reply : Given → PlainCommand → Recorded → Reply
command_reply limit command now = refused_or (commit_fault now.past now.at limit.limit command) now
    (put_command command now)

abbrev pub put_image : Recorded → Reply
put_image now = put checkpoint_text (image_due now.past) now

-- an image of the past is put where its record ends within the limit
abbrev pub checkpoint_reply : Given → Recorded → Reply
checkpoint_reply limit now = refused_or (checkpoint_fault now.past now.at limit.limit) now
    (put_image now)

abbrev pub query_reply : PlainQuery → Recorded → Reply
query_reply query now = refused_or (fault_of_query now.past query) now
    (answered (listing_text (tells_periods query.when) (answer now.past query)) now)

-- the pieces that the query reads are told, and nothing is read
abbrev pub explain_reply : Book → PlainQuery → Recorded → Reply
explain_reply book query now = refused_or (fault_of_query now.past query) now
    (answered (explain_text (pieces_told book now.past query)) now)

-- the related pairs of the entries of two answers, by the left entry, then the right one
abbrev pub pairs_reply : PlainQuery → Relation → PlainQuery → Recorded → Reply
pairs_reply left relation right now = refused_or (fault_of_pairs now.past left right) now
    (answered (pairs_text (related_entries relation (answer now.past left)
    (answer now.past right))) now)

-- what the aggregates have, over time, of the groups of the rows that the query lists
abbrev pub aggregate_reply : List AggItem → ℕ → PlainQuery → Recorded → Reply
aggregate_reply items group query now = refused_or (fault_of_aggregate now.past items group query)
    now (answered (aggregates_text (tells_periods query.when) (aggregated group items
    (answer now.past query))) now)

-- ---- sessions

-- what sessions share, and what they have
abbrev pub shared_by : Given → Recorded → Shared
shared_by given now = record { past = now.past; place = now.at; limit = given.limit }

abbrev pub world_of : Given → Recorded → World
world_of given now = a_world (shared_by given now) now.sessions

-- what stands in a world
abbrev pub recorded_in : World → Recorded
recorded_in w = record { past = w.shared.past; at = w.shared.place; sessions = w.sessions }

-- all changes as one command; none where nothing is changed
abbrev pub changes_due : ℕ → List PlainChange → List Due
changes_due stamp [] = []
changes_due stamp (c ∷ changes) = command_due (command_at stamp (c ∷ changes)) ∷ []

-- a COMMIT puts all changes that its session has buffered
abbrev pub request_due : PlainSessions → ℕ → Request → List Due
request_due it s beginning = []
request_due it s (buffering changes) = []
request_due it s (committing stamp) = changes_due stamp (changes_so_far (it.transaction s))
request_due it s aborting = []
request_due it s (opening name query) = []
request_due it s (fetching name count) = []
request_due it s (closing name) = []

-- a request that is not refused is answered by its step
abbrev pub request_reply : Given → ℕ → Request → Recorded → Reply
request_reply given s request now = record {
  text = said_text (answer_of need_of (world_of given now) s request);
  puts = request_due now.sessions s request;
  after = recorded_in (world_then need_of (world_of given now) s request);
  is_error = false;
}

abbrev pub session_reply : Given → ℕ → Request → Recorded → Reply
session_reply given s request now = refused_or (fault_of need_of (world_of given now) s request)
    now (request_reply given s request now)

-- the open cursors, in the order of their opening
abbrev pub cursors_reply : Recorded → Reply
cursors_reply now = answered (cursors_text (map line_of now.sessions.cursors)) now

-- ---- what is shown

abbrev pub versions_reply : Recorded → Reply
versions_reply now = answered (versions_text now.past.versions) now

abbrev pub schema_reply : ℕ → Recorded → Reply
schema_reply version now = refused_or (version_fault now.past version) now
    (answered (schema_text (tables_of now.past version)) now)

-- the lifelines, up to the newest version
abbrev pub sizes_reply : Recorded → Reply
sizes_reply now = answered (sizes_text (length now.past.versions) now.past.sizes) now

abbrev pub statement_reply : Given → PlainStatement → Recorded → Reply
statement_reply limit (write command) now = command_reply limit command now
statement_reply limit (ask query) now = query_reply query now
statement_reply limit (explain query) now = explain_reply limit.book query now
statement_reply limit (pairs left relation right) now = pairs_reply left relation right now
statement_reply limit (aggregate items group query) now = aggregate_reply items group query now
statement_reply limit (session s request) now = session_reply limit s request now
statement_reply limit show_versions now = versions_reply now
statement_reply limit (show_schema version) now = schema_reply version now
statement_reply limit show_sizes now = sizes_reply now
statement_reply limit show_cursors now = cursors_reply now
statement_reply limit checkpoint now = checkpoint_reply limit now

abbrev pub reading_reply : Given → Reading → Recorded → Reply
reading_reply limit Blank now = answered [] now
reading_reply limit (Refused r) now = refused r now
reading_reply limit (Whole statement) now = statement_reply limit statement now

-- the reply to a statement of these bytes, for what the run is given
unfoldable pub reply : Given → Recorded → List ℕ → Reply
reply limit now text = reading_reply limit (reading text) now
