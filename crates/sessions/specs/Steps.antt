-- A step: what a session asks for, what it is answered, and what stands after it.
use Rattle.std.specs.Prelude.{ℕ, ◌+◌, Bool, true, false, nat_le, nat_eq, List, [], ◌∷◌, ◌++◌}
use Rattle.std.specs.Prelude.{length}
use Rattle.std.specs.Prelude.{Option, Some, None}
use Rattle.relations_spec.specs.Timed.{Entry}
use Rattle.prima_base.specs.declared.refusal.Refusal.TheVariants.{JournalFull, TooMany}
use Rattle.prima_base.specs.declared.refusal.Refusal.TheVariants.{SchemaMoved, Begun, NotBegun}
use Rattle.prima_base.specs.declared.refusal.Refusal.TheVariants.{CursorOpen, NoCursor}
use Rattle.prima_base.specs.declared.refusal.What.TheVariants.{Changes}
use Rattle.prima_base.specs.Limits.{max_changes}
use Rattle.smo_ops_types.specs.Changes.{PlainChange}
use Rattle.smo_ops_types.specs.Commands.{PlainCommand, changing}
use Rattle.smo_ops_spec.specs.OneRow.{Row}
use Rattle.smo_ops_spec.specs.First.{unless, first_refusal}
use Rattle.smo_ops_spec.specs.Checks.{Fault}
use Rattle.smo_ops_spec.specs.Accepts.{command_fault}
use Rattle.smo_ops_spec.specs.Effects.{gained, lost}
use Rattle.smo_ops_spec.specs.Past.{Past, newest_database, next_database}
use Rattle.temporal_lang_types.specs.declared.when.When.{When}
use Rattle.temporal_lang_types.specs.declared.when.When.TheVariants.{Always, AsOf, During}
use Rattle.temporal_lang_types.specs.Queries.{PlainQuery}
use Rattle.temporal_lang_spec.specs.Accepted.{fault_of_query}
use Rattle.temporal_lang_spec.specs.Answers.{answer}
use Rattle.sessions.specs.Requests.{Request, beginning, buffering, committing, aborting, opening}
use Rattle.sessions.specs.Requests.{fetching, closing}
use Rattle.sessions.specs.Shared.{Shared, newest, shared_with}
use Rattle.sessions.specs.SessionStates.{PlainTransaction, a_transaction, PlainCursor, a_cursor}
use Rattle.sessions.specs.SessionStates.{PlainSessions, with_transaction, cursor_of, with_opened}
use Rattle.sessions.specs.SessionStates.{with_cursor, with_closed, next_entries, advanced}

-- what a request that is not refused is answered
pub data Answer : Type 0 where
  -- the newest version
  begun : ℕ → Answer
  -- all changes so far
  buffered : ℕ → Answer
  -- the stamp, and the rows gained and lost
  committed : ℕ → ℕ → ℕ → Answer
  -- no change was buffered, and there is no command
  committed_nothing : Answer
  aborted : Answer
  -- the entries of the answer
  opened : ℕ → Answer
  -- entries, and whether their periods are told
  fetched : Bool → List (Entry Row) → Answer
  closed : Answer

-- what is shared, and what the sessions have
pub record World : Type 0 where
  pub shared : Shared
  pub sessions : PlainSessions

abbrev pub a_world : Shared → PlainSessions → World
a_world shared sessions = record { shared = shared; sessions = sessions }

-- ---- commands

-- the command of changes, at a stamp
abbrev pub command_at : ℕ → List PlainChange → PlainCommand
command_at stamp changes = record { stamp = stamp; body = changing changes }

-- so many bytes, put at the place, end within the limit
abbrev pub room_fault : Shared → ℕ → Fault
room_fault shared need = unless (nat_le (shared.place + need) shared.limit)
    (JournalFull shared.place need shared.limit)

-- why a command is refused: by its past, and then where its record does not fit
abbrev pub fault_of_command : (PlainCommand → ℕ) → Shared → PlainCommand → Fault
fault_of_command needs shared command = first_refusal
    (command_fault shared.past command ∷ room_fault shared (needs command) ∷ [])

-- how many rows it gains, and loses, over all tables
abbrev pub gained_by : Past → PlainCommand → ℕ
gained_by past command = gained (newest_database past) (next_database command.body past)

abbrev pub lost_by : Past → PlainCommand → ℕ
lost_by past command = lost (newest_database past) (next_database command.body past)

-- what an accepted command is answered
abbrev pub command_answer : Shared → PlainCommand → Answer
command_answer shared command = committed command.stamp (gained_by shared.past command)
    (lost_by shared.past command)

-- ---- transactions

abbrev pub begin_fault : ℕ → Option PlainTransaction → Fault
begin_fault s None = None
begin_fault s (Some t) = Some (Begun s)

abbrev pub buffer_fault : ℕ → List PlainChange → Option PlainTransaction → Fault
buffer_fault s changes None = Some (NotBegun s)
buffer_fault s changes (Some t) = unless (nat_le (length t.changes + length changes) max_changes)
    (TooMany Changes max_changes)

-- no change, no command
abbrev pub changes_fault : (PlainCommand → ℕ) → Shared → ℕ → List PlainChange → Fault
changes_fault needs shared stamp [] = None
changes_fault needs shared stamp (c ∷ changes) = fault_of_command needs shared
    (command_at stamp (c ∷ changes))

-- there is a transaction, and the newest version is the one at its beginning
abbrev pub schema_fault : ℕ → ℕ → Option PlainTransaction → Fault
schema_fault s now None = Some (NotBegun s)
schema_fault s now (Some t) = unless (nat_eq t.began now) (SchemaMoved t.began now)

abbrev pub abort_fault : ℕ → Option PlainTransaction → Fault
abort_fault s None = Some (NotBegun s)
abort_fault s (Some t) = None

-- the changes so far; none where there is no transaction
abbrev pub changes_so_far : Option PlainTransaction → List PlainChange
changes_so_far None = []
changes_so_far (Some t) = t.changes

abbrev pub commit_fault : (PlainCommand → ℕ) → Shared → ℕ → ℕ → Option PlainTransaction → Fault
commit_fault needs shared s stamp t = first_refusal (schema_fault s (newest shared) t
    ∷ changes_fault needs shared stamp (changes_so_far t) ∷ [])

abbrev pub buffered_in : List PlainChange → Option PlainTransaction → Option PlainTransaction
buffered_in changes None = None
buffered_in changes (Some t) = Some (a_transaction t.began (t.changes ++ changes))

-- what is shared after all changes are committed as one command; where there is none, as it was
abbrev pub shared_after : (PlainCommand → ℕ) → ℕ → List PlainChange → Shared → Shared
shared_after needs stamp [] shared = shared
shared_after needs stamp (c ∷ changes) shared = shared_with (needs (command_at stamp (c ∷ changes)))
    (command_at stamp (c ∷ changes)) shared

abbrev pub commit_answer : ℕ → List PlainChange → Shared → Answer
commit_answer stamp [] shared = committed_nothing
commit_answer stamp (c ∷ changes) shared = command_answer shared (command_at stamp (c ∷ changes))

-- ---- cursors

-- the periods of the entries are told, but where one moment is asked of
abbrev pub tells_periods : When → Bool
tells_periods Always = true
tells_periods (AsOf m) = false
tells_periods (During a b) = true

abbrev pub open_fault : ℕ → List ℕ → Fault → Option PlainCursor → Fault
open_fault s name asked None = asked
open_fault s name asked (Some c) = Some (CursorOpen s name)

abbrev pub cursor_fault : ℕ → List ℕ → Option PlainCursor → Fault
cursor_fault s name None = Some (NoCursor s name)
cursor_fault s name (Some c) = None

-- the cursor that a query opens
abbrev pub cursor_on : Shared → PlainQuery → PlainCursor
cursor_on shared query = a_cursor (answer shared.past query) 0 (tells_periods query.when)

abbrev pub fetch_answer : ℕ → Option PlainCursor → Answer
fetch_answer count None = fetched true []
fetch_answer count (Some c) = fetched c.periods (next_entries count c)

abbrev pub with_fetched : ℕ → List ℕ → ℕ → Option PlainCursor → PlainSessions → PlainSessions
with_fetched s name count None it = it
with_fetched s name count (Some c) it = with_cursor s name (advanced count c) it

-- ---- one request

module _ (needs : PlainCommand → ℕ) where
  -- why a session's request is refused; none where it is not
  abbrev pub fault_of : World → ℕ → Request → Fault
  fault_of w s beginning = begin_fault s (w.sessions.transaction s)
  fault_of w s (buffering changes) = buffer_fault s changes (w.sessions.transaction s)
  fault_of w s (committing stamp) = commit_fault needs w.shared s stamp (w.sessions.transaction s)
  fault_of w s aborting = abort_fault s (w.sessions.transaction s)
  fault_of w s (opening name query) = open_fault s name (fault_of_query w.shared.past query)
      (cursor_of w.sessions s name)
  fault_of w s (fetching name count) = cursor_fault s name (cursor_of w.sessions s name)
  fault_of w s (closing name) = cursor_fault s name (cursor_of w.sessions s name)

  -- else what it is answered
  abbrev pub answer_of : World → ℕ → Request → Answer
  answer_of w s beginning = begun (newest w.shared)
  answer_of w s (buffering changes) = buffered
      (length (changes_so_far (w.sessions.transaction s)) + length changes)
  answer_of w s (committing stamp) = commit_answer stamp
      (changes_so_far (w.sessions.transaction s)) w.shared
  answer_of w s aborting = aborted
  answer_of w s (opening name query) = opened (length (answer w.shared.past query))
  answer_of w s (fetching name count) = fetch_answer count (cursor_of w.sessions s name)
  answer_of w s (closing name) = closed

  -- what the sessions then have
  abbrev pub sessions_after : World → ℕ → Request → PlainSessions
  sessions_after w s beginning = with_transaction s (Some (a_transaction (newest w.shared) []))
      w.sessions
  sessions_after w s (buffering changes) = with_transaction s
      (buffered_in changes (w.sessions.transaction s)) w.sessions
  sessions_after w s (committing stamp) = with_transaction s None w.sessions
  sessions_after w s aborting = with_transaction s None w.sessions
  sessions_after w s (opening name query) = with_opened s name (cursor_on w.shared query) w.sessions
  sessions_after w s (fetching name count) = with_fetched s name count
      (cursor_of w.sessions s name) w.sessions
  sessions_after w s (closing name) = with_closed s name w.sessions

  -- and what is then shared
  abbrev pub shared_then : World → ℕ → Request → Shared
  shared_then w s beginning = w.shared
  shared_then w s (buffering changes) = w.shared
  shared_then w s (committing stamp) = shared_after needs stamp
      (changes_so_far (w.sessions.transaction s)) w.shared
  shared_then w s aborting = w.shared
  shared_then w s (opening name query) = w.shared
  shared_then w s (fetching name count) = w.shared
  shared_then w s (closing name) = w.shared

  abbrev pub world_then : World → ℕ → Request → World
  world_then w s request = a_world (shared_then w s request) (sessions_after w s request)
