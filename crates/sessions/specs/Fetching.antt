-- How a cursor goes on over its rows.
use Rattle.std.specs.Prelude.{◌≡◌, ℕ, ◌≤◌, Bool, true, List, length, Option, Some, None, slice_get}
use Rattle.std.specs.Prelude.{take, drop}
use Rattle.std.specs.Borrow.{Bor}
use Rattle.smo_ops_types.specs.Commands.{PlainCommand}
use Rattle.sessions.specs.Shared.{Shared}
use Rattle.indexmap.specs.Layout.{set_value_at}
use Rattle.sessions.specs.declared.cursor.Cursor.{Cursor}
use Rattle.sessions.specs.declared.vault.KeptRow.{KeptRow}
use Rattle.sessions.specs.Kept.{kept_entries}
use Rattle.sessions.specs.SessionStates.{CursorKey, PlainCursor, advanced, PlainSessions, cursor_of}
use Rattle.sessions.specs.Meaning.{plain_cursor}
use Rattle.sessions.specs.Requests.{fetching}
use Rattle.sessions.specs.Steps.{Answer, fetched, a_world, fault_of, answer_of}
use Rattle.sessions.specs.Steps.{sessions_after}

-- the cursor at a place goes on from where it was, and the others stay
pub record Advances (count : ℕ) (old new : List (CursorKey × Cursor)) (place from : ℕ) :
    Type 0 where
  pub key : CursorKey
  pub before : Cursor
  pub next : Cursor
  pub stood : slice_get old place ≡ Some (key, before)
  pub begins : from ≡ before.fetched
  pub within : from ≤ length before.rows.items
  pub rows : next.rows.items ≡ before.rows.items
  pub is : plain_cursor next ≡ advanced count (plain_cursor before)
  pub entries : new ≡ set_value_at old place next

abbrev pub periods_of : Option PlainCursor → Bool
periods_of None = true
periods_of (Some c) = c.periods

abbrev pub fetched_rows : Option PlainCursor → List KeptRow → Answer
fetched_rows c rows = fetched (periods_of c) (kept_entries rows)

-- where the cursor is open, what a fetch answers, and what the sessions have after it; else they
-- have what they had
abbrev pub ServesFetch : PlainSessions → ℕ → List ℕ → ℕ → Option (Bor (List KeptRow))
    → PlainSessions → Type 0
ServesFetch old s name count (Some rows) new = (needs : PlainCommand → ℕ) → (shared : Shared)
    → (fault_of needs (a_world shared old) s (fetching name count) ≡ None)
    × (fetched_rows (cursor_of old s name) rows.now
    ≡ answer_of needs (a_world shared old) s (fetching name count))
    × (new ≡ sessions_after needs (a_world shared old) s (fetching name count))
ServesFetch old s name count None new = (cursor_of old s name ≡ None) × (new ≡ old)

-- a cursor goes on, and these are the rows
abbrev pub HandsOut : ℕ → List (CursorKey × Cursor) → List (CursorKey × Cursor) → ℕ → List KeptRow
    → Type 0
HandsOut count old new place rows = (from : ℕ) × (adv : Advances count old new place from)
    × (kept_entries rows ≡ take count (drop from (kept_entries adv.next.rows.items)))
