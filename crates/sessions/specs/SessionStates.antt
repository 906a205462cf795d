-- What sessions have: begun transactions and open cursors.
use Rattle.std.specs.Prelude.{ℕ, ◌+◌, ◌&&◌, Bool, nat_eq, cond, List, [], ◌∷◌, ◌++◌, length, take}
use Rattle.std.specs.Prelude.{drop, Option, None}
use Rattle.std.specs.Map.{lookup, set_value, remove_entry}
use Rattle.relations_spec.specs.Timed.{Entry}
use Rattle.prima_base.specs.Order.{same}
use Rattle.smo_ops_types.specs.Changes.{PlainChange}
use Rattle.smo_ops_spec.specs.OneRow.{Row}

-- the newest version at its beginning, and its changes so far
pub record PlainTransaction : Type 0 where
  pub began : ℕ
  pub changes : List PlainChange

abbrev pub a_transaction : ℕ → List PlainChange → PlainTransaction
a_transaction began changes = record { began = began; changes = changes }

-- the answer at its opening, how many of its entries were fetched, and whether periods are told
pub record PlainCursor : Type 0 where
  pub answer : List (Entry Row)
  pub fetched : ℕ
  pub periods : Bool

abbrev pub a_cursor : List (Entry Row) → ℕ → Bool → PlainCursor
a_cursor answer fetched periods = record {
  answer = answer;
  fetched = fetched;
  periods = periods;
}

-- a session, and the name that it gave to a cursor
abbrev pub CursorKey : Type 0
CursorKey = ℕ × List ℕ

-- open cursors, in the order of their opening
abbrev pub Cursors : Type 0
Cursors = List (CursorKey × PlainCursor)

-- the transaction of each session, which has one or none; and the open cursors
pub record PlainSessions : Type 0 where
  pub transaction : ℕ → Option PlainTransaction
  pub cursors : Cursors

abbrev pub some_sessions : (ℕ → Option PlainTransaction) → Cursors → PlainSessions
some_sessions transaction cursors = record { transaction = transaction; cursors = cursors }

-- no transaction is begun and no cursor is open
abbrev pub no_sessions : PlainSessions
no_sessions = some_sessions (λ _. None) []

-- this session has this transaction, and each other what it had
abbrev pub with_transaction : ℕ → Option PlainTransaction → PlainSessions → PlainSessions
with_transaction s t it = some_sessions (λ q. cond (nat_eq s q) t (it.transaction q)) it.cursors

-- the session's cursor of this name
abbrev pub is_cursor : ℕ → List ℕ → CursorKey → Bool
is_cursor s name key = nat_eq s key.0 && same name key.1

abbrev pub cursor_of : PlainSessions → ℕ → List ℕ → Option PlainCursor
cursor_of it s name = lookup (is_cursor s name) it.cursors

abbrev pub with_cursors : Cursors → PlainSessions → PlainSessions
with_cursors cursors it = some_sessions it.transaction cursors

-- a cursor more, after the others
abbrev pub with_opened : ℕ → List ℕ → PlainCursor → PlainSessions → PlainSessions
with_opened s name cursor it = with_cursors (it.cursors ++ ((s, name), cursor) ∷ []) it

-- the cursor is this one, in its place
abbrev pub with_cursor : ℕ → List ℕ → PlainCursor → PlainSessions → PlainSessions
with_cursor s name cursor it = with_cursors (set_value (is_cursor s name) it.cursors cursor) it

-- without the cursor; the others keep their order
abbrev pub with_closed : ℕ → List ℕ → PlainSessions → PlainSessions
with_closed s name it = with_cursors (remove_entry (is_cursor s name) it.cursors) it

-- the next entries of a cursor: so many, or all that are left
abbrev pub next_entries : ℕ → PlainCursor → List (Entry Row)
next_entries count cursor = take count (drop cursor.fetched cursor.answer)

abbrev pub advanced : ℕ → PlainCursor → PlainCursor
advanced count cursor = a_cursor cursor.answer
    (cursor.fetched + length (next_entries count cursor)) cursor.periods
