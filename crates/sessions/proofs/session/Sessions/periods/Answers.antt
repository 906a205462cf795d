use Rattle.std.proofs.Common.{◌≡◌, ◌∙◌, ap, sym, None, rules}
use Rattle.std.specs.Option.{option_map}
use Rattle.sessions.specs.SessionStates.{is_cursor, cursor_of, PlainCursor}
use Rattle.sessions.specs.Meaning.{plain_cursor, sessions_of}
use Rattle.sessions.proofs.Places.{none_at, entry_at}
use Rattle.sessions.proofs.session.Sessions.periods.Goals as goal

pub returns-in_err-place : goal.returns-in_err-place
returns-in_err-place c =
    let e : cursor_of (sessions_of c.args.self.now) c.args.session c.args.cursor.now ≡ None
    = none_at plain_cursor (is_cursor c.args.session c.args.cursor.now)
    c.args.self.now.cursors.entries (sym c.place_of.ensures ∙ c.in_err-place.was) in
    rw e (search rules)

pub returns : goal.returns
returns c = sym (ap (option_map (λ (x : PlainCursor). x.periods))
    (entry_at plain_cursor (is_cursor c.args.session c.args.cursor.now)
    c.args.self.now.cursors.entries c.in_ok-place.place _
    (sym c.place_of.ensures ∙ c.in_ok-place.was)
    (sym c.in_ok-open.ensures.entry)))
