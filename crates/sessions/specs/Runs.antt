-- Lists of steps, interleaved as they may be.
use Rattle.std.specs.Prelude.{◌≡◌, ℕ, ◌&&◌, Bool, true, false, not, nat_eq, cond, List, [], ◌∷◌}
use Rattle.std.specs.Prelude.{◌++◌}
use Rattle.std.specs.Prelude.{length, take, drop, Option, Some, None}
use Rattle.relations_spec.specs.Timed.{Entry}
use Rattle.prima_base.specs.Order.{same}
use Rattle.smo_ops_types.specs.Changes.{PlainChange}
use Rattle.smo_ops_types.specs.Commands.{PlainCommand}
use Rattle.smo_ops_spec.specs.OneRow.{Row}
use Rattle.smo_ops_spec.specs.Checks.{Fault}
use Rattle.temporal_lang_types.specs.Queries.{PlainQuery}
use Rattle.temporal_lang_spec.specs.Answers.{answer}
use Rattle.prima_base.specs.declared.refusal.Refusal.TheVariants.{SchemaMoved}
use Rattle.sessions.specs.Shared.{Shared, newest}
use Rattle.sessions.specs.SessionStates.{PlainCursor, cursor_of, next_entries}
use Rattle.sessions.specs.Requests.{Request, beginning, buffering, committing, aborting, opening}
use Rattle.sessions.specs.Requests.{fetching, closing}
use Rattle.sessions.specs.Steps.{fetched, World, a_world, fault_of}
use Rattle.sessions.specs.Steps.{answer_of, world_then, tells_periods, changes_fault, commit_answer}
use Rattle.sessions.specs.Steps.{shared_after}

-- a session asks for something; or what is shared becomes this, by a statement of no session
pub data Step : Type 0 where
  asked : ℕ → Request → Step
  elsewhere : Shared → Step

-- where a request is refused all stays
abbrev pub unless_refused : Fault → World → World → World
unless_refused None then w = then
unless_refused (Some r) then w = w

abbrev pub shared_unless : Fault → Shared → Shared → Shared
shared_unless None then now = then
shared_unless (Some r) then now = now

-- the next entries of an open cursor
abbrev pub entries_given : Option PlainCursor → ℕ → List (Entry Row)
entries_given None count = []
entries_given (Some c) count = next_entries count c

-- a step does not close it
abbrev pub leaves_open : ℕ → List ℕ → Step → Bool
leaves_open s name (asked q (closing n)) = not (nat_eq s q && same name n)
leaves_open s name (asked q beginning) = true
leaves_open s name (asked q (buffering changes)) = true
leaves_open s name (asked q (committing stamp)) = true
leaves_open s name (asked q aborting) = true
leaves_open s name (asked q (opening n query)) = true
leaves_open s name (asked q (fetching n count)) = true
leaves_open s name (elsewhere shared) = true

abbrev pub leave_open : ℕ → List ℕ → List Step → Bool
leave_open s name [] = true
leave_open s name (step ∷ steps) = leaves_open s name step && leave_open s name steps

-- where it is refused none are added
abbrev pub added_unless : Fault → List PlainChange → List PlainChange
added_unless None changes = changes
added_unless (Some r) changes = []

abbrev pub is_refused : Fault → Bool
is_refused None = false
is_refused (Some r) = true

-- why a COMMIT is refused: the newest version is another than at the beginning; else as an AT with
-- all changes is
abbrev pub refused_where_moved : Bool → ℕ → ℕ → Fault → Fault
refused_where_moved true began now fault = fault
refused_where_moved false began now fault = Some (SchemaMoved began now)

-- it is about this session's transaction
abbrev pub is_of_transaction : ℕ → ℕ → Request → Bool
is_of_transaction s q beginning = nat_eq s q
is_of_transaction s q (buffering changes) = nat_eq s q
is_of_transaction s q (committing stamp) = nat_eq s q
is_of_transaction s q aborting = nat_eq s q
is_of_transaction s q (opening name query) = false
is_of_transaction s q (fetching name count) = false
is_of_transaction s q (closing name) = false

-- it is about this session's cursor of this name
abbrev pub is_of_cursor : ℕ → List ℕ → ℕ → Request → Bool
is_of_cursor s name q beginning = false
is_of_cursor s name q (buffering changes) = false
is_of_cursor s name q (committing stamp) = false
is_of_cursor s name q aborting = false
is_of_cursor s name q (opening n query) = nat_eq s q && same name n
is_of_cursor s name q (fetching n count) = nat_eq s q && same name n
is_of_cursor s name q (closing n) = nat_eq s q && same name n

-- only a COMMIT changes what is shared
abbrev pub is_commit : Request → Bool
is_commit (committing stamp) = true
is_commit beginning = false
is_commit (buffering changes) = false
is_commit aborting = false
is_commit (opening name query) = false
is_commit (fetching name count) = false
is_commit (closing name) = false

module _ (needs : PlainCommand → ℕ) where
  abbrev pub after : World → Step → World
  after w (asked s request) = unless_refused (fault_of needs w s request)
      (world_then needs w s request) w
  after w (elsewhere shared) = a_world shared w.sessions

  abbrev pub after_all : World → List Step → World
  after_all w [] = w
  after_all w (step ∷ steps) = after_all (after w step) steps

  -- ---- a cursor

  -- the entries that a step gives of the session's cursor of this name
  abbrev pub given_at : World → ℕ → List ℕ → Step → List (Entry Row)
  given_at w s name (asked q (fetching n count)) = cond (nat_eq s q && same name n)
      (entries_given (cursor_of w.sessions q n) count) []
  given_at w s name (asked q beginning) = []
  given_at w s name (asked q (buffering changes)) = []
  given_at w s name (asked q (committing stamp)) = []
  given_at w s name (asked q aborting) = []
  given_at w s name (asked q (opening n query)) = []
  given_at w s name (asked q (closing n)) = []
  given_at w s name (elsewhere shared) = []

  abbrev pub given : World → ℕ → List ℕ → List Step → List (Entry Row)
  given w s name [] = []
  given w s name (step ∷ steps) = given_at w s name step ++ given (after w step) s name steps

  -- Of a cursor that was opened and not closed since, whatever was done between: what was fetched
  -- is the beginning of the answer at its opening, and a fetch gives what follows there.
  pub record IsServed (w : World) (s : ℕ) (name : List ℕ) (query : PlainQuery) (steps : List Step) :
      Type 0 where
    pub prefix : given (after w (asked s (opening name query))) s name steps
        ≡ take (length (given (after w (asked s (opening name query))) s name steps))
        (answer w.shared.past query)
    pub open_still : (count : ℕ)
        → fault_of needs (after_all (after w (asked s (opening name query))) steps) s
        (fetching name count) ≡ None
    pub next : (count : ℕ)
        → answer_of needs (after_all (after w (asked s (opening name query))) steps) s
        (fetching name count)
        ≡ fetched (tells_periods query.when) (take count
        (drop (length (given (after w (asked s (opening name query))) s name steps))
        (answer w.shared.past query)))

  -- for every list of steps
  abbrev pub CursorsKeepTheirAnswers : Type 0
  CursorsKeepTheirAnswers = (w : World) → (s : ℕ) → (name : List ℕ) → (query : PlainQuery)
      → (steps : List Step) → fault_of needs w s (opening name query) ≡ None
      → leave_open s name steps ≡ true → IsServed w s name query steps

  -- ---- a transaction

  -- the changes that a step adds to the session's transaction
  abbrev pub added_at : World → ℕ → Step → List PlainChange
  added_at w s (asked q (buffering changes)) = cond (nat_eq s q)
      (added_unless (fault_of needs w q (buffering changes)) changes) []
  added_at w s (asked q beginning) = []
  added_at w s (asked q (committing stamp)) = []
  added_at w s (asked q aborting) = []
  added_at w s (asked q (opening n query)) = []
  added_at w s (asked q (fetching n count)) = []
  added_at w s (asked q (closing n)) = []
  added_at w s (elsewhere shared) = []

  abbrev pub added : World → ℕ → List Step → List PlainChange
  added w s [] = []
  added w s (step ∷ steps) = added_at w s step ++ added (after w step) s steps

  -- a step is no COMMIT of the session that is accepted, and no ABORT of it
  abbrev pub leaves_begun : World → ℕ → Step → Bool
  leaves_begun w s (asked q (committing stamp)) = cond (nat_eq s q)
      (is_refused (fault_of needs w q (committing stamp))) true
  leaves_begun w s (asked q aborting) = not (nat_eq s q)
  leaves_begun w s (asked q beginning) = true
  leaves_begun w s (asked q (buffering changes)) = true
  leaves_begun w s (asked q (opening n query)) = true
  leaves_begun w s (asked q (fetching n count)) = true
  leaves_begun w s (asked q (closing n)) = true
  leaves_begun w s (elsewhere shared) = true

  abbrev pub leave_begun : World → ℕ → List Step → Bool
  leave_begun w s [] = true
  leave_begun w s (step ∷ steps) = leaves_begun w s step && leave_begun (after w step) s steps

  -- Of a transaction that was begun and not ended since, whatever was done between.
  pub record IsWhole (w : World) (s : ℕ) (steps : List Step) (stamp : ℕ) : Type 0 where
    pub refused : fault_of needs (after_all (after w (asked s beginning)) steps) s
        (committing stamp)
        ≡ refused_where_moved (nat_eq (newest w.shared)
        (newest (after_all (after w (asked s beginning)) steps).shared))
        (newest w.shared) (newest (after_all (after w (asked s beginning)) steps).shared)
        (changes_fault needs (after_all (after w (asked s beginning)) steps).shared stamp
        (added (after w (asked s beginning)) s steps))
    pub answered : answer_of needs (after_all (after w (asked s beginning)) steps) s
        (committing stamp)
        ≡ commit_answer stamp (added (after w (asked s beginning)) s steps)
        (after_all (after w (asked s beginning)) steps).shared
    pub whole : (after (after_all (after w (asked s beginning)) steps) (asked s
        (committing stamp))).shared
        ≡ shared_unless (fault_of needs (after_all (after w (asked s beginning)) steps) s
        (committing stamp))
        (shared_after needs stamp (added (after w (asked s beginning)) s steps)
        (after_all (after w (asked s beginning)) steps).shared)
        (after_all (after w (asked s beginning)) steps).shared

  abbrev pub TransactionsAreWhole : Type 0
  TransactionsAreWhole = (w : World) → (s : ℕ) → (steps : List Step) → (stamp : ℕ)
      → fault_of needs w s beginning ≡ None
      → leave_begun (after w (asked s beginning)) s steps ≡ true → IsWhole w s steps stamp

  abbrev pub OnlyCommitsChange : Type 0
  OnlyCommitsChange = (w : World) → (s : ℕ) → (request : Request) → is_commit request ≡ false
      → (after w (asked s request)).shared ≡ w.shared

  -- ---- what a request is not about

  -- What a session asks for leaves each transaction and each cursor that it is not about: what
  -- another session has, and what else the session has itself.
  pub record IsApart (w : World) (q : ℕ) (request : Request) (s : ℕ) : Type 0 where
    pub transaction : is_of_transaction s q request ≡ false
        → (after w (asked q request)).sessions.transaction s ≡ w.sessions.transaction s
    pub cursors : (name : List ℕ) → is_of_cursor s name q request ≡ false
        → cursor_of (after w (asked q request)).sessions s name ≡ cursor_of w.sessions s name

  abbrev pub SessionsAreApart : Type 0
  SessionsAreApart = (w : World) → (q : ℕ) → (request : Request) → (s : ℕ)
      → IsApart w q request s
