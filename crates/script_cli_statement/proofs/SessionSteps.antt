-- A statement is a step of the sessions: after it stands what its step leaves.
use Rattle.std.proofs.Common.{◌≡◌, ℕ, List, [], ◌∷◌, refl, sym, ap}
use Rattle.std.specs.Prelude.{Some, None, ⊤}
use Rattle.smo_ops_types.specs.Changes.{PlainChange}
use Rattle.smo_ops_spec.specs.Checks.{Fault}
use Rattle.temporal_lang_spec.specs.Accepted.{version_fault, fault_of_query}
use Rattle.temporal_lang_spec.specs.PairFaults.{fault_of_pairs}
use Rattle.temporal_lang_spec.specs.AggregateFaults.{fault_of_aggregate}
use Rattle.script_cli_vault.specs.ArchiveOnDisk.{commit_fault, checkpoint_fault}
use Rattle.sessions.specs.Shared.{Shared}
use Rattle.sessions.specs.Requests.{Request, beginning, buffering, committing, aborting, opening}
use Rattle.sessions.specs.Requests.{fetching, closing}
use Rattle.sessions.specs.Steps.{World, a_world, fault_of, world_then, shared_then, shared_after}
use Rattle.sessions.specs.Steps.{changes_so_far}
use Rattle.sessions.specs.Runs.{after, unless_refused}
use Rattle.script_parse.specs.Statements.{PlainStatement, write, ask, explain, show_versions}
use Rattle.script_parse.specs.Statements.{show_schema, show_sizes, show_cursors, checkpoint, pairs}
use Rattle.script_parse.specs.Statements.{aggregate, session}
use Rattle.script_parse.specs.Reading.{Reading, Blank, Refused, Whole, reading}
use Rattle.script_cli_vault.specs.Shown.{need_of}
use Rattle.script_cli_statement.specs.Due.{Due}
use Rattle.script_cli_statement.specs.Given.{Given}
use Rattle.script_cli_statement.specs.Replies.{Recorded, answered, refused_or, put, shared_by}
use Rattle.script_cli_statement.specs.Replies.{world_of, recorded_in, request_reply}
use Rattle.script_cli_statement.specs.Replies.{statement_reply, reading_reply, reply}
use Rattle.script_cli_statement.specs.Stepping.{step_of}

-- ---- other statements leave the sessions as they were

pub told_same : (now : Recorded) (fault : Fault) (text : List ℕ)
    → (refused_or fault now (answered text now)).after.sessions ≡ now.sessions
told_same now None text = refl
told_same now (Some r) text = refl

pub put_same : (now : Recorded) (fault : Fault) (text : List ℕ) (due : Due)
    → (refused_or fault now (put text due now)).after.sessions ≡ now.sessions
put_same now None text due = refl
put_same now (Some r) text due = refl

-- no session is asked
abbrev pub IsOfNoSession : PlainStatement → Type 0
IsOfNoSession (session s request) = ⊥
IsOfNoSession (write command) = ⊤
IsOfNoSession (ask query) = ⊤
IsOfNoSession (explain query) = ⊤
IsOfNoSession (pairs left relation right) = ⊤
IsOfNoSession (aggregate items group query) = ⊤
IsOfNoSession show_versions = ⊤
IsOfNoSession (show_schema version) = ⊤
IsOfNoSession show_sizes = ⊤
IsOfNoSession show_cursors = ⊤
IsOfNoSession checkpoint = ⊤

pub others_same : (given : Given) (now : Recorded) (s : PlainStatement) → IsOfNoSession s
    → (statement_reply given s now).after.sessions ≡ now.sessions
others_same given now (session s request) other = absurd other
others_same given now (write command) other =
    put_same now (commit_fault now.past now.at given.limit command) _ _
others_same given now (ask query) other = told_same now (fault_of_query now.past query) _
others_same given now (explain query) other = told_same now (fault_of_query now.past query) _
others_same given now (pairs left relation right) other =
    told_same now (fault_of_pairs now.past left right) _
others_same given now (aggregate items group query) other =
    told_same now (fault_of_aggregate now.past items group query) _
others_same given now show_versions other = refl
others_same given now (show_schema version) other =
    told_same now (version_fault now.past version) _
others_same given now show_sizes other = refl
others_same given now show_cursors other = refl
others_same given now checkpoint other =
    put_same now (checkpoint_fault now.past now.at given.limit) _ _

-- ---- what a session asks for

pub after_limit : (stamp : ℕ) (changes : List PlainChange) (shared : Shared)
    → (shared_after need_of stamp changes shared).limit ≡ shared.limit
after_limit stamp [] shared = refl
after_limit stamp (c ∷ changes) shared = refl

-- no request changes the limit
limit_kept : (w : World) (s : ℕ) (request : Request)
    → (shared_then need_of w s request).limit ≡ w.shared.limit
limit_kept w s beginning = refl
limit_kept w s (buffering changes) = refl
limit_kept w s (committing stamp) =
    after_limit stamp (changes_so_far (w.sessions.transaction s)) w.shared
limit_kept w s aborting = refl
limit_kept w s (opening name query) = refl
limit_kept w s (fetching name count) = refl
limit_kept w s (closing name) = refl

module _ (given : Given) (now : Recorded) where
  left_is : (s : ℕ) (request : Request)
      → world_of given (recorded_in (world_then need_of (world_of given now) s request))
      ≡ world_then need_of (world_of given now) s request
  left_is s request =
      let w = world_then need_of (world_of given now) s request in
      λ i. a_world (record {
        past = w.shared.past;
        place = w.shared.place;
        limit = (sym (limit_kept (world_of given now) s request)) i;
      }) w.sessions

  asked_is : (s : ℕ) (request : Request) (fault : Fault)
      → world_of given (refused_or fault now (request_reply given s request now)).after
      ≡ unless_refused fault (world_then need_of (world_of given now) s request)
      (world_of given now)
  asked_is s request None = left_is s request
  asked_is s request (Some r) = refl

  -- ---- a statement

  elsewhere_is : (next : Recorded) → next.sessions ≡ now.sessions
      → world_of given next ≡ a_world (shared_by given next) now.sessions
  elsewhere_is next same = ap (a_world (shared_by given next)) same

  statement_is : (s : PlainStatement) → world_of given (statement_reply given s now).after
      ≡ after need_of (world_of given now) (step_of (Whole s)
      (shared_by given (statement_reply given s now).after))
  statement_is (session s request) =
      asked_is s request (fault_of need_of (world_of given now) s request)
  statement_is (write command) = elsewhere_is
      (statement_reply given (write command) now).after (others_same given now (write command) tt)
  statement_is (ask query) = elsewhere_is
      (statement_reply given (ask query) now).after (others_same given now (ask query) tt)
  statement_is (explain query) = elsewhere_is
      (statement_reply given (explain query) now).after (others_same given now (explain query) tt)
  statement_is (pairs left relation right) = elsewhere_is
      (statement_reply given (pairs left relation right) now).after
      (others_same given now (pairs left relation right) tt)
  statement_is (aggregate items group query) = elsewhere_is
      (statement_reply given (aggregate items group query) now).after
      (others_same given now (aggregate items group query) tt)
  statement_is show_versions = refl
  statement_is (show_schema version) = elsewhere_is
      (statement_reply given (show_schema version) now).after
      (others_same given now (show_schema version) tt)
  statement_is show_sizes = refl
  statement_is show_cursors = refl
  statement_is checkpoint = elsewhere_is (statement_reply given checkpoint now).after
      (others_same given now checkpoint tt)

  reading_is : (r : Reading) → world_of given (reading_reply given r now).after
      ≡ after need_of (world_of given now) (step_of r
      (shared_by given (reading_reply given r now).after))
  reading_is Blank = refl
  reading_is (Refused r) = refl
  reading_is (Whole s) = statement_is s

  pub reply_is_step : (text : List ℕ) → world_of given (reply given now text).after
      ≡ after need_of (world_of given now) (step_of (reading text)
      (shared_by given (reply given now text).after))
  unfolding reply
  reply_is_step text = reading_is (reading text)
