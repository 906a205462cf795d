use Rattle.std.proofs.Common.{◌≡◌, arith, length, take, ap, sym, ◌∙◌}
use Rattle.std.specs.Prelude.{min}
use Rattle.std.specs.Ordering.{nat_cmp}
use Rattle.std.proofs.lemmas.List.{length-take}
use Rattle.prima_base.specs.Order.{value_cmp}
use Rattle.prima_base.proofs.Vals.{lengths_decide}
use Rattle.prima_base_rows.proofs.row.compare_prefix.Goals as goal

pub returns : goal.returns
returns c =
    let values = c.args.values.now in
    let first = take (length values) c.args.row.now in
    let cut = length-take (length values) c.args.row.now in
    let long : length first ≡ c.min-width.result = grind (arith, cut) in
    let end : c.loop-k.k ≡ min (length first) (length values) = grind (arith, cut, long) in
    c.cmp.ensures ∙ ap (λ n. nat_cmp n (length values)) (sym long)
    ∙ sym (lengths_decide value_cmp first values c.loop-k.k end) ∙ c.loop-k.invariant
