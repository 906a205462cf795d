-- What a session asks for, and what a request of the code stands for.
use Rattle.std.specs.Prelude.{◌<◌, ℕ, List, ⊤}
use Rattle.relations_spec.specs.Spans.{forever}
use Rattle.smo_ops_types.specs.Changes.{PlainChange, changes_of}
use Rattle.temporal_lang_types.specs.Queries.{PlainQuery, query_of}
use Rattle.sessions.specs.declared.request.SessionRequest.{SessionRequest}
use Rattle.sessions.specs.declared.request.SessionRequest.TheVariants.{Begin, Do, Commit, Abort}
use Rattle.sessions.specs.declared.request.SessionRequest.TheVariants.{Open, Fetch, Close}

pub data Request : Type 0 where
  beginning : Request
  buffering : List PlainChange → Request
  -- at this stamp
  committing : ℕ → Request
  aborting : Request
  -- the cursor's name, and what is asked
  opening : List ℕ → PlainQuery → Request
  -- the cursor's name, and how many entries
  fetching : List ℕ → ℕ → Request
  closing : List ℕ → Request

abbrev pub request_of : SessionRequest → Request
request_of Begin = beginning
request_of (Do changes) = buffering (changes_of changes.items)
request_of (Commit stamp) = committing stamp
request_of Abort = aborting
request_of (Open name query) = opening name (query_of query)
request_of (Fetch name count) = fetching name count
request_of (Close name) = closing name

-- the stamp of a COMMIT is a moment before the end of time
abbrev pub IsTimely : Request → Type 0
IsTimely (committing stamp) = stamp < forever
IsTimely beginning = ⊤
IsTimely (buffering changes) = ⊤
IsTimely aborting = ⊤
IsTimely (opening name query) = ⊤
IsTimely (fetching name count) = ⊤
IsTimely (closing name) = ⊤
