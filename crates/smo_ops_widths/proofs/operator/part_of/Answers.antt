use Rattle.std.proofs.Common.{sym}
use Rattle.std.specs.FinMap.{get}
use Rattle.cond_expr.specs.Seen.{test}
use Rattle.smo_ops_widths.specs.Widths.{part_width}
use Rattle.smo_ops_widths.specs.Counted.{SameStopped}
use Rattle.smo_ops_widths.specs.Shown.{width_of}
use Rattle.smo_ops_widths.proofs.AlikeLaws.{same_stopped, part_so}
use Rattle.smo_ops_widths.proofs.FoundLaws.{one_there, made_of_one}
use Rattle.smo_ops_widths.specs.AtHand.{all_widths}
use Rattle.smo_ops_widths.proofs.operator.part_of.Goals as goal

pub returns-in_ok-part-in-Some : goal.returns-in_ok-part-in-Some
returns-in_ok-part-in-Some c = λ shown s.
    let x = c.in-Some.width.now in
    let more = c.args.more in
    let cond = test c.args.cond.now in
    made_of_one (part_width more cond)
    (λ a b p. part_so SameStopped same_stopped a b p more cond)
    (width_of c.in_ok-part-in-Some.field-0) (width_of x) (get shown c.args.table.now)
    c.in_ok-part-in-Some.ensures
    (one_there (all_widths c.args.widths.now) shown s c.args.table.now x (sym c.in-Some.ensures))
