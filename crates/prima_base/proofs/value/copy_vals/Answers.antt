use Rattle.std.proofs.Common.{map, ap, ◌∙◌, take_all, arith}
use Rattle.prima_base.specs.Order.{shown, is_borrowed}
use Rattle.prima_base.proofs.BorrowedVals.{all_stay_borrowed}
use Rattle.prima_base.proofs.value.copy_vals.Goals as goal

pub returns-clause-borrowed : goal.returns-clause-borrowed
returns-clause-borrowed c =
    let all = take_all c.loop-value.value-index c.args.values.now (omega arith) in
    all_stay_borrowed c.args.values.now c.loop-value.copies.items
    (c.loop-value.invariant.values ∙ ap (map shown) all)
    (c.loop-value.invariant.borrowed ∙ ap (map is_borrowed) all)
