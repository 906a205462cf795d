use Rattle.std.proofs.Common.{◌≡◌, ◌≤◌, ◌∙◌, ap, sym, subst, refl, length, slice_get, Option}
use Rattle.std.proofs.Common.{IfSome, take, drop}
use Rattle.sessions.specs.declared.cursor.Cursor.{Cursor}
use Rattle.sessions.specs.Kept.{kept_entries}
use Rattle.sessions.specs.SessionStates.{CursorKey}
use Rattle.sessions.proofs.Fetched.{set_there}
use Rattle.sessions.proofs.session.Sessions.hand_out.Goals as goal

pub rows_at-requires : goal.rows_at-requires
rows_at-requires c =
    let adv = c.advance-from.ensures.advances in
    let there = ap (λ l. slice_get l c.args.place) adv.entries
    ∙ set_there c.args.self.now.cursors.entries c.args.place adv.key adv.before adv.next
    adv.stood in
    subst (λ (o : Option (CursorKey × Cursor)).
    IfSome o (λ e. c.advance-from.result ≤ length e.1.rows.items))
    (sym there) (subst (λ l. c.advance-from.result ≤ length l) (sym adv.rows) adv.within)

pub returns : goal.returns
returns c =
    let adv = c.advance-from.ensures.advances in
    let there = ap (λ l. slice_get l c.args.place) adv.entries
    ∙ set_there c.args.self.now.cursors.entries c.args.place adv.key adv.before adv.next
    adv.stood in (
      (
        refl,
        (λ _. tt),
        (
          c.advance-from.ensures.transactions,
          (
            c.advance-from.result,
            adv,
            subst (λ (o : Option (CursorKey × Cursor)).
                IfSome o (λ e. kept_entries c.rows_at.result.now
                ≡ take c.args.count (drop c.advance-from.result (kept_entries e.1.rows.items))))
                there
                c.rows_at.ensures,
          ),
        ),
      ),
      record { after = tt },
    )
