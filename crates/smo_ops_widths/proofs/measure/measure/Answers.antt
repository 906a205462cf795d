use Rattle.std.proofs.Common.{◌≡◌, ◌+◌, ℕ, List, refl, ap, ◌∙◌, arith}
use Rattle.smo_ops_widths.specs.Widths.{sum_of_sizes}
use Rattle.smo_ops_widths.specs.Counted.{stopped, size_in}
use Rattle.smo_ops_widths.proofs.StoppedLaws.{mul_stopped}
use Rattle.smo_ops_widths.proofs.measure.measure.Goals as goal

pub returns : goal.returns
returns c =
    let w = c.args.width.now in
    let sizes = sum_of_sizes c.args.columns.now (size_in w.sizes.items) in
    let a = c.saturating_add-largest.ensures in
    let b = c.saturating_add-sum.ensures in
    let s = c.sum_of_sizes.ensures ∙ ap (λ (l : List (List ℕ × ℕ)).
    stopped (sum_of_sizes c.args.columns.now (size_in l))) c.deref.ensures.value in
    let sum : stopped c.saturating_add-sum.result ≡ stopped (w.atoms + w.cond + sizes) =
    omega (arith, a, b, s) in
    c.saturating_mul.ensures
    ∙ mul_stopped w.pieces c.saturating_add-sum.result w.pieces (w.atoms + w.cond + sizes) refl sum
