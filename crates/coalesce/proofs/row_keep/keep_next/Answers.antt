use Rattle.std.proofs.Common.{◌≡◌, ap, sym, ◌∙◌, Bool, cond, get_or}
use Rattle.std.specs.Prelude.{Some, None}
use Rattle.prima_base.specs.Keeping.{keeps_all}
use Rattle.prima_base_rows.proofs.Moves.{no_row}
use Rattle.coalesce.specs.Cutting.{kept_row}
use Rattle.coalesce.proofs.Kept.{kept_whole, dropped_one}
use Rattle.coalesce.proofs.row_keep.keep_next.Goals as goal
use Rattle.coalesce.proofs.row_keep.keep_next.Goals.{After-meets_all}

kept_is : (c : After-meets_all) → (b : Bool) → c.meets_all.result ≡ b
    → kept_row c.args.conditions.now (get_or c.args.rows.now.items c.args.next no_row)
    ≡ cond b (Some (get_or c.args.rows.now.items c.args.next no_row)) None
kept_is c b is =
    ap (λ (t : Bool). cond t (Some (get_or c.args.rows.now.items c.args.next no_row)) None)
    (ap (keeps_all c.args.conditions.now) (sym (c.period.ensures.period no_row))
    ∙ sym c.meets_all.ensures ∙ is)

pub returns-then-meets_all-clause-stands : goal.returns-then-meets_all-clause-stands
returns-then-meets_all-clause-stands c =
    let k = (goal.at.returns-then-meets_all-clause-stands c).After-meets_all in
    kept_whole (kept_row c.args.conditions.now) c.args.rows.now.items c.exchange.new.rows.items
    c.args.kept c.args.next no_row c.requires.apart c.requires.within
    (kept_is k _ c.if-meets_all.true) c.exchange.ensures

pub returns-else-meets_all-clause-stands : goal.returns-else-meets_all-clause-stands
returns-else-meets_all-clause-stands c =
    let k = (goal.at.returns-else-meets_all-clause-stands c).After-meets_all in
    dropped_one (kept_row c.args.conditions.now) c.args.rows.now.items c.args.kept c.args.next
    no_row c.requires.within (kept_is k _ c.if-meets_all.false)
