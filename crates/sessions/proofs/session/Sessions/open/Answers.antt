use Rattle.std.proofs.Common.{◌∙◌, ap, sym, refl, is_some, length}
use Rattle.temporal_lang_types.specs.Queries.{query_of}
use Rattle.indexmap.proofs.CallerLemmas.{insert_entry-new}
use Rattle.sessions.specs.SessionStates.{is_cursor, some_sessions}
use Rattle.sessions.specs.Meaning.{plain_cursor, sessions_of, cursors_of, transactions_of}
use Rattle.sessions.proofs.Keyed.{push-seen}
use Rattle.sessions.proofs.Places.{some_at, absent_at}
use Rattle.sessions.proofs.Served.{open_already, none_open, listing_refused, listing_opened}
use Rattle.sessions.proofs.NoDisks.{listing_no_disk}
use Rattle.sessions.proofs.session.Sessions.open.Goals as goal

pub returns-then-is_some : goal.returns-then-is_some
returns-then-is_some g c = record {
  serves = λ shared sh. (
    open_already c.args.session c.args.cursor _ _
        (some_at plain_cursor (is_cursor c.args.session c.args.cursor)
        c.args.self.now.cursors.entries _
        refl ∙ ap is_some (sym c.place_of.ensures) ∙ (sym c.is_some.ensures ∙ c.if-is_some.true)),
    refl,
  );
  no_disk = tt;
}

pub returns-in-Err : goal.returns-in-Err
returns-in-Err g c = record {
  serves = λ shared sh.
      listing_refused g.V.Vault.needs shared (sessions_of c.args.self.now) c.args.session
      c.args.cursor
      (none_open _ (some_at plain_cursor (is_cursor c.args.session c.args.cursor)
      c.args.self.now.cursors.entries _ refl
      ∙ ap is_some (sym c.place_of.ensures) ∙ (sym c.is_some.ensures ∙ c.if-is_some.false)))
      (query_of c.args.query.now) c.in-Err.fault (c.in-Err.ensures.listed shared sh);
  no_disk = let known = c.in-Err.ensures.known in
      listing_no_disk known.0.past (query_of c.args.query.now) c.in-Err.fault
      (c.in-Err.ensures.listed known.0 known.1);
}

pub returns : goal.returns
returns g c = record {
  serves = λ shared sh.
      let test = is_cursor c.args.session c.args.cursor in
      let es = c.args.self.now.cursors.entries in
      let missing = ap is_some (sym c.place_of.ensures)
      ∙ (sym c.is_some.ensures ∙ c.if-is_some.false) in
      listing_opened g.V.Vault.needs shared (sessions_of c.args.self.now) c.args.session
      c.args.cursor
      (none_open _ (some_at plain_cursor test es _ refl ∙ missing))
      (query_of c.args.query.now) c.in-Ok.rows _ (plain_cursor c.on-opened.result) _
      (c.in-Ok.ensures.listed shared sh) (c.total-total.ensures
      ∙ ap length c.on-opened.ensures.rows)
      c.on-opened.ensures.cursor
      (λ i. some_sessions (transactions_of c.args.self.now.transactions.entries)
      ((ap cursors_of (c.in_ok-insert.ensures.entries
      ∙ insert_entry-new _ c.args.self.now.cursors (c.args.session, c.args.cursor)
      c.on-opened.result
      (absent_at test es missing))
      ∙ push-seen plain_cursor es (c.args.session, c.args.cursor) c.on-opened.result) i));
  no_disk = tt;
}
