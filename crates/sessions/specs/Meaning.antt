-- What the sessions that a program keeps are.
use Rattle.std.specs.Prelude.{ℕ, nat_eq, List, map, Option}
use Rattle.std.specs.Option.{option_map}
use Rattle.std.specs.Map.{lookup}
use Rattle.smo_ops_types.specs.Changes.{changes_of}
use Rattle.sessions.specs.declared.cursor.Cursor.{Cursor}
use Rattle.sessions.specs.declared.transaction.Transaction.{Transaction}
use Rattle.sessions.specs.declared.session.Sessions.{Sessions}
use Rattle.sessions.specs.Kept.{kept_entries}
use Rattle.sessions.specs.SessionStates.{PlainTransaction, a_transaction, PlainCursor, a_cursor}
use Rattle.sessions.specs.SessionStates.{CursorKey, Cursors, PlainSessions, some_sessions}

abbrev pub transaction_of : Transaction → PlainTransaction
transaction_of t = a_transaction t.began (changes_of t.changes.items)

abbrev pub plain_cursor : Cursor → PlainCursor
plain_cursor c = a_cursor (kept_entries c.rows.items) c.fetched c.periods

abbrev pub plain_entry : CursorKey × Cursor → CursorKey × PlainCursor
plain_entry e = (e.0, plain_cursor e.1)

abbrev pub transactions_of : List (ℕ × Transaction) → ℕ → Option PlainTransaction
transactions_of entries s = option_map transaction_of (lookup (nat_eq s) entries)

abbrev pub cursors_of : List (CursorKey × Cursor) → Cursors
cursors_of entries = map plain_entry entries

abbrev pub sessions_of : Sessions → PlainSessions
sessions_of it = some_sessions (transactions_of it.transactions.entries)
    (cursors_of it.cursors.entries)
