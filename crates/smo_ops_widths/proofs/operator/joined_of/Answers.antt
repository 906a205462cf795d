use Rattle.std.proofs.Common.{List, sym, subst}
use Rattle.std.specs.FinMap.{get}
use Rattle.prima_base.specs.Columns.{Column}
use Rattle.schema_catalog.specs.Tables.{columns_of}
use Rattle.cond_expr.specs.Seen.{test}
use Rattle.smo_ops_widths.specs.Widths.{joined_width}
use Rattle.smo_ops_widths.specs.Counted.{AreAlike, SameStopped}
use Rattle.smo_ops_widths.specs.Shown.{width_of}
use Rattle.smo_ops_widths.proofs.AlikeLaws.{same_stopped, joined_so}
use Rattle.smo_ops_widths.proofs.FoundLaws.{one_there, made_of_two}
use Rattle.smo_ops_widths.specs.AtHand.{all_widths}
use Rattle.smo_ops_widths.proofs.operator.joined_of.Goals as goal

pub returns-in_ok-joined-in-Some-Some : goal.returns-in_ok-joined-in-Some-Some
returns-in_ok-joined-in-Some-Some c = λ shown s.
    let x = c.in-Some-Some.left.now in
    let y = c.in-Some-Some.right.now in
    let w = c.in_ok-joined-in-Some-Some.field-0 in
    let first = columns_of c.args.before.now c.args.left.now in
    let second = columns_of c.args.before.now c.args.right.now in
    let alike = subst (λ (ds : List Column). AreAlike (width_of w)
    (joined_width first ds (test c.args.cond.now) (width_of x) (width_of y)))
    c.columns_of-2.ensures.columns
    (subst (λ (cs : List Column). AreAlike (width_of w)
    (joined_width cs c.columns_of-2.result.now (test c.args.cond.now) (width_of x) (width_of y)))
    c.columns_of.ensures.columns c.in_ok-joined-in-Some-Some.ensures) in
    made_of_two (joined_width first second (test c.args.cond.now))
    (λ a b u v p q. joined_so SameStopped same_stopped a b u v p q first second
    (test c.args.cond.now)) (width_of w) (width_of x) (width_of y) (get shown c.args.left.now)
    (get shown c.args.right.now) alike
    (one_there (all_widths c.args.widths.now) shown s c.args.left.now x
    (sym c.in-Some-Some.ensures))
    (one_there (all_widths c.args.widths.now) shown s c.args.right.now y
    (sym c.in-Some-Some.ensures'))
