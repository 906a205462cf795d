use Rattle.std.proofs.Common.{arith}
use Rattle.std.proofs.lemmas.Result.{IfOk-weaker}
use Rattle.smo_ops_types.specs.Operators.{operator_of}
use Rattle.smo_ops_widths.specs.AtHand.{all_widths}
use Rattle.smo_ops_widths.proofs.OperatorLists.{back_by_none, back_by_each}
use Rattle.smo_ops_widths.proofs.way.go_back.Goals as goal

pub returns-in-empty : goal.returns-in-empty
returns-in-empty c = IfOk-weaker c.go_back_unnamed.result _ _ (λ done h. λ before k shown s.
    back_by_none k before c.args.after.now (operator_of c.args.op.now)
    (all_widths c.go_back_unnamed.new.widths) shown c.args.inverse.now
    (let k = c.in-empty.len_below in omega (arith, k))
    (h before (k, 1) shown s)) c.go_back_unnamed.ensures

pub returns-in-len1-up : goal.returns-in-len1-up
returns-in-len1-up c = IfOk-weaker c.carry_each.result _ _ (λ done h. λ before k shown s.
    back_by_each k before c.args.after.now (operator_of c.args.op.now)
    (all_widths c.carry_each.new.widths) shown c.args.inverse.now c.in-len1-up.len_at_least
    (h shown s)) c.carry_each.ensures
