use Rattle.std.proofs.Common.{subst}
use Rattle.std.specs.Prelude.{Option}
use Rattle.std.specs.Option.{option_map}
use Rattle.cond_expr.specs.Seen.{tree}
use Rattle.smo_ops_widths.specs.declared.width.TableWidth.{TableWidth}
use Rattle.smo_ops_widths.specs.Widths.{Width, with_size, sized_as, sized}
use Rattle.smo_ops_widths.specs.Counted.{SameStopped, MayBeAlike}
use Rattle.smo_ops_widths.specs.Shown.{width_of}
use Rattle.smo_ops_widths.proofs.AlikeLaws.{same_stopped, sized_so, with_size_so}
use Rattle.smo_ops_widths.proofs.FoundLaws.{made_of_one}
use Rattle.smo_ops_widths.proofs.operator.added_of.Goals as goal

pub returns-in_ok-added-in-Some : goal.returns-in_ok-added-in-Some
returns-in_ok-added-in-Some c = λ o m.
    let x = c.in-Some.width in
    let n = c.args.column.now in
    let expr = tree c.args.expr.now in
    made_of_one (λ (a : Width). with_size (sized_as n (sized a.size expr) a.size) a)
    (λ a b p. with_size_so SameStopped same_stopped a b p n (sized a.size expr)
    (sized b.size expr) (sized_so SameStopped same_stopped a.size b.size p.size expr))
    (width_of c.in_ok-added-in-Some.field-0) (width_of x) o c.in_ok-added-in-Some.ensures
    (subst (λ (w : Option TableWidth). MayBeAlike (option_map width_of w) o) c.in-Some.is m)
