use Rattle.std.proofs.Common.{◌≡◌, not, true, Some, sym, ap, ◌∙◌}
use Rattle.cond_expr.specs.Seen.{test}
use Rattle.cond_expr.specs.Values.{agrees}
use Rattle.cond_expr.specs.Parts.{bound_of, is_on}
use Rattle.cond_expr_dead.specs.Shown.{tried_value, bound_shown}
use Rattle.cond_expr_dead.proofs.BoundLaws.{lets_bound}
use Rattle.cond_expr_dead.proofs.column.RefusesPartTest.passes.Goals as goal

pub returns-then-is_on-clause-value : goal.returns-then-is_on-clause-value
returns-then-is_on-clause-value c =
    let column = c.args.self.now.column in
    let b = bound_shown c.in-Some.bound in
    let e : bound_of (test c.args.part.now) ≡ Some b = sym c.in-Some.ensures.value in
    let on : is_on column.atom column.name.now (Some b) ≡ true = sym c.is_on.ensures
    ∙ c.if-is_on.true in
    ap not (c.decide.ensures ∙ ap (agrees b.op) c.compare.ensures
    ∙ sym (lets_bound column.atom column.name.now (tried_value c.args.self.now.tried.now)
    (test c.args.part.now) b e on))
