use Rattle.std.proofs.Common.{◌∙◌, sym, refl}
use Rattle.sessions.specs.SessionStates.{is_cursor, some_sessions}
use Rattle.sessions.specs.Meaning.{plain_cursor, transactions_of, cursors_of}
use Rattle.sessions.proofs.Fetched.{fetched_serves}
use Rattle.sessions.proofs.Places.{none_at}
use Rattle.sessions.proofs.session.Sessions.fetch.Goals as goal

pub returns-in-Some : goal.returns-in-Some
returns-in-Some c =
    let h = c.hand_out.follows.holds-at-none in
    let new = c.hand_out.follows.lender-at-none in (
      (
        refl,
        (λ _. tt),
        (λ needs shared.
            let f = fetched_serves (transactions_of c.args.self.now.transactions.entries)
            c.args.self.now.cursors.entries new.cursors.entries c.args.session c.args.cursor.now
            c.args.count c.in-Some.place h.1.0 h.1.1 (sym c.place_of.ensures ∙ c.in-Some.is)
            c.hand_out.result h.1.2 needs shared in (
              f.0,
              f.1,
              (λ i. some_sessions (transactions_of (h.0 i).entries)
                  (cursors_of new.cursors.entries))
                  ∙ f.2,
            )),
      ),
      record { after = tt },
    )

pub returns-in-None : goal.returns-in-None
returns-in-None c = (
  (
    refl,
    (λ _. tt),
    (
      none_at plain_cursor
          (is_cursor c.args.session c.args.cursor.now) c.args.self.now.cursors.entries
          (sym c.place_of.ensures ∙ c.in-None.is),
      refl,
    ),
  ),
  record { after = tt },
)
