use Rattle.std.proofs.Common.{◌∙◌, ap, sym, refl}
use Rattle.sessions.specs.SessionStates.{is_cursor, some_sessions}
use Rattle.sessions.specs.Meaning.{plain_cursor, sessions_of, cursors_of, transactions_of}
use Rattle.sessions.specs.Steps.{closed}
use Rattle.sessions.proofs.Places.{none_at, some_at, removed_at}
use Rattle.sessions.proofs.Served.{missing_closing, there_fault}
use Rattle.sessions.proofs.NoDisks.{no_cursor_no_disk}
use Rattle.sessions.proofs.session.Sessions.close.Goals as goal

pub returns-in-None-clause-serves : goal.returns-in-None-clause-serves
returns-in-None-clause-serves c = λ needs shared.
    missing_closing needs shared (sessions_of c.args.self.now) c.args.session c.args.cursor.now
    (none_at plain_cursor (is_cursor c.args.session c.args.cursor.now)
    c.args.self.now.cursors.entries (sym c.place_of.ensures ∙ c.in-None.is)) {A = Unit {0}}
    (λ _. closed)
    c.no_cursor.result
    c.no_cursor.ensures

pub returns-in-None-clause-no_memory : goal.returns-in-None-clause-no_memory
returns-in-None-clause-no_memory c = λ _.
    none_at plain_cursor (is_cursor c.args.session c.args.cursor.now)
    c.args.self.now.cursors.entries (sym c.place_of.ensures ∙ c.in-None.is)

pub returns-in-Some-clause-serves : goal.returns-in-Some-clause-serves
returns-in-Some-clause-serves c = λ needs shared.
    let p = sym c.place_of.ensures ∙ c.in-Some.is in
    let test = is_cursor c.args.session c.args.cursor.now in (
      there_fault c.args.session c.args.cursor.now _
          (some_at plain_cursor test c.args.self.now.cursors.entries _ p),
      refl,
      λ i. some_sessions (transactions_of c.args.self.now.transactions.entries)
          ((ap cursors_of c.shift_remove_index.ensures.entries
          ∙ removed_at plain_cursor test c.args.self.now.cursors.entries c.in-Some.place p) i),
    )

pub returns-in-None-clause-no_disk : goal.returns-in-None-clause-no_disk
returns-in-None-clause-no_disk c = no_cursor_no_disk c.args.session c.args.cursor.now
    c.no_cursor.result c.no_cursor.ensures
