use Rattle.std.proofs.Common.{◌-◌, List, ℕ, [], ◌∷◌, length, take, drop, arith, ap, sym, ◌∙◌}
use Rattle.std.specs.Ordering.{ordering_then}
use Rattle.prima_base.specs.Order.{bytes_cmp}
use Rattle.cond_expr_dead.proofs.LongerTexts.{to_longer, whole_rest}
use Rattle.cond_expr_dead.proofs.trial.compare_longer.Goals as goal

pub returns : goal.returns
returns c =
    let prefix = c.args.prefix.now in
    let other = c.args.other.now in
    c.then-2.ensures
    ∙ ap (λ r. ordering_then r c.cmp-2.result) c.cmp-shared.ensures
    ∙ ap (ordering_then (bytes_cmp prefix (take (length prefix) other)))
    (c.cmp-2.ensures ∙ ap (λ (l : List ℕ). bytes_cmp l
    (take (length other - length prefix) (drop (length prefix) other))) c.as_slice.ensures
    ∙ ap (bytes_cmp (c.args.last ∷ [])) (whole_rest other (length prefix)))
    ∙ sym (to_longer prefix other c.args.last (omega arith))
