use Rattle.std.proofs.Common.{◌≤◌, length, arith}
use Rattle.std.proofs.lemmas.Result.{IfOk-weaker}
use Rattle.smo_ops_types.specs.Operators.{operator_of}
use Rattle.smo_ops_widths.specs.Widths.{widths_over}
use Rattle.smo_ops_widths.proofs.OperatorLists.{first_accepted, rest_shorter, rest_few}
use Rattle.smo_ops_widths.proofs.OperatorLists.{rest_accepted, over_all}
use Rattle.smo_ops_widths.specs.AtHand.{all_widths}
use Rattle.smo_ops_widths.proofs.way.+carry_each.Goals as goal

pub carry_each-requires : goal.carry_each-requires
carry_each-requires t c =
    let one : 1 ≤ length c.args.ops.now =
    (let several = c.in-len1-up.len_at_least in omega (arith, several)) in
    let accepted = first_accepted c.args.before.now c.args.ops.now c.op-item-2.result
    one c.op-item-2.is c.requires.accepted in
    let after = c.in_ok-next-in-len1-up.ensures.after accepted in
    let less = rest_shorter c.args.ops.now one in (
      omega (arith, less),
      (
        rest_accepted c.args.before.now c.in_ok-next-in-len1-up.next c.op-item-2.result
            c.args.ops.now one c.op-item-2.is c.requires.accepted after,
        rest_few c.args.ops.now one c.requires.few,
      ),
    )

pub returns-in_ok-next-in-len1-up : goal.returns-in_ok-next-in-len1-up
returns-in_ok-next-in-len1-up t c =
    let one : 1 ≤ length c.args.ops.now =
    (let several = c.in-len1-up.len_at_least in omega (arith, several)) in
    let accepted = first_accepted c.args.before.now c.args.ops.now c.op-item-2.result
    one c.op-item-2.is c.requires.accepted in
    IfOk-weaker c.carry_each.result _ _ (λ done h. λ shown s.
    over_all c.args.before.now c.in_ok-next-in-len1-up.next c.op-item-2.result c.args.ops.now
    (all_widths c.carry_each.new.widths) shown one c.op-item-2.is
    (c.in_ok-next-in-len1-up.ensures.after accepted)
    (h (widths_over c.args.before.now (operator_of c.op-item-2.result) shown)
    (c.in_ok-carry-in-len1-up.ensures shown s)))
    c.carry_each.ensures
