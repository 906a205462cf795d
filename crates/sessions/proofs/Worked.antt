-- Worked rows: what sessions are answered, one step after the other.
use Rattle.std.specs.Prelude.{◌≡◌, ℕ, true, List, [], ◌∷◌, Some, None, pos, codes, refl}
use Rattle.relations_spec.specs.Timed.{Entry}
use Rattle.prima_base.specs.declared.value.Value.TheVariants.{Int}
use Rattle.prima_base.specs.declared.refusal.Refusal.TheVariants.{SchemaMoved, Begun, NotBegun}
use Rattle.prima_base.specs.declared.refusal.Refusal.TheVariants.{NoCursor}
use Rattle.smo_ops_types.specs.Operators.{nop}
use Rattle.smo_ops_types.specs.Changes.{PlainChange, insertion}
use Rattle.smo_ops_types.specs.Commands.{PlainCommand, evolving}
use Rattle.smo_ops_spec.specs.OneRow.{Row}
use Rattle.smo_ops_spec.specs.Past as past
use Rattle.sessions.specs.Shared.{Shared}
use Rattle.sessions.specs.SessionStates.{no_sessions, some_sessions, a_cursor}
use Rattle.sessions.specs.Requests.{beginning, buffering, committing, aborting, fetching, closing}
use Rattle.sessions.specs.Steps.{World, a_world, fault_of, answer_of, begun, buffered}
use Rattle.sessions.specs.Steps.{committed_nothing, fetched}
use Rattle.sessions.specs.Runs.{Step, asked, elsewhere, after_all}

abbrev needs : PlainCommand → ℕ
needs command = 42

abbrev shown : past.Past → Shared
shown p = record { past = p; place = 8; limit = 1000 }

-- nothing stands yet
abbrev fresh : World
fresh = a_world (shown past.beginning) no_sessions

-- another statement makes a version
abbrev evolved : Step
evolved = elsewhere (shown (past.past_with past.beginning
    (record { stamp = 7; body = evolving (nop ∷ []) [] })))

abbrev change : PlainChange
change = insertion (codes "t") ((codes "a", Int (pos 1)) ∷ [])

abbrev after_these : List Step → World
after_these steps = after_all needs fresh steps

-- BEGIN, once in each session
begins :
    (answer_of needs fresh 1 beginning ≡ begun 0)
    × (fault_of needs (after_these (asked 1 beginning ∷ [])) 1 beginning ≡ Some (Begun 1))
    × (fault_of needs (after_these (asked 1 beginning ∷ [])) 2 beginning ≡ None)
begins = (refl, refl, refl)

-- without one
unbegun :
    (fault_of needs fresh 1 (buffering (change ∷ [])) ≡ Some (NotBegun 1))
    × (fault_of needs fresh 1 (committing 5) ≡ Some (NotBegun 1))
    × (fault_of needs fresh 1 aborting ≡ Some (NotBegun 1))
unbegun = (refl, refl, refl)

-- all changes so far are counted
counts :
    answer_of needs (after_these (asked 1 beginning ∷ asked 1 (buffering (change ∷ change ∷ []))
    ∷ [])) 1 (buffering (change ∷ [])) ≡ buffered 3
counts = refl

-- no change is no command, unless the schema moved; and then the transaction stands
moves :
    (answer_of needs (after_these (asked 1 beginning ∷ [])) 1 (committing 5) ≡ committed_nothing)
    × (fault_of needs (after_these (asked 1 beginning ∷ evolved ∷ [])) 1 (committing 5)
    ≡ Some (SchemaMoved 0 1))
    × (fault_of needs (after_these (asked 1 beginning ∷ evolved ∷ asked 1 (committing 5) ∷ [])) 1
    aborting ≡ None)
moves = (refl, refl, refl)

-- ---- cursors

abbrev entry : ℕ → Entry Row
entry n = record { item = Int (pos n) ∷ []; period = record { start = n; end = 9 } }

-- a cursor of session 1 on three entries
abbrev opened : World
opened = a_world (shown past.beginning) (some_sessions (λ s. None)
    (((1, codes "c"), a_cursor (entry 1 ∷ entry 2 ∷ entry 3 ∷ []) 0 true) ∷ []))

abbrev fetch : ℕ → Step
fetch n = asked 1 (fetching (codes "c") n)

-- parts of an answer, and nothing after its end
parts :
    (answer_of needs opened 1 (fetching (codes "c") 2) ≡ fetched true (entry 1 ∷ entry 2 ∷ []))
    × (answer_of needs (after_all needs opened (fetch 2 ∷ evolved ∷ [])) 1 (fetching (codes "c") 9)
    ≡ fetched true (entry 3 ∷ []))
    × (answer_of needs (after_all needs opened (fetch 9 ∷ [])) 1 (fetching (codes "c") 1)
    ≡ fetched true [])
    × (answer_of needs (after_all needs opened (fetch 0 ∷ [])) 1 (fetching (codes "c") 1)
    ≡ fetched true (entry 1 ∷ []))
parts = (refl, refl, refl, refl)

-- a name is that of one session
named :
    (fault_of needs opened 2 (fetching (codes "c") 1) ≡ Some (NoCursor 2 (codes "c")))
    × (fault_of needs opened 1 (closing (codes "d")) ≡ Some (NoCursor 1 (codes "d")))
    × (fault_of needs (after_all needs opened (asked 1 (closing (codes "c")) ∷ [])) 1
    (closing (codes "c")) ≡ Some (NoCursor 1 (codes "c")))
named = (refl, refl, refl)
