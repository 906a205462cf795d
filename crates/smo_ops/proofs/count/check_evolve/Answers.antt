use Rattle.std.proofs.Common.{◌≤◌, List, length, arith, subst, sym, ◌∙◌}
use Rattle.std.proofs.lemmas.Bool.Decides.{nat_tests}
use Rattle.std.proofs.lemmas.List.{take_all}
use Rattle.smo_ops_types.specs.declared.op.Op.{Op}
use Rattle.std.proofs.lemmas.Result.{err_from_is_err_and}
use Rattle.prima_base.specs.declared.refusal.What.TheVariants.{Inverse}
use Rattle.smo_ops_types.specs.Operators.{operator_of, operators_of}
use Rattle.smo_ops_spec.specs.Counts.{operator_counts}
use Rattle.smo_ops_spec.specs.ValidValues.{OperatorsHold}
use Rattle.smo_ops_spec.proofs.Firsts.{first_after}
use Rattle.smo_ops_spec.proofs.CountLaws.{limited_before, limited_above, limited_within}
use Rattle.smo_ops_spec.proofs.OneMembers.{ones_hold}
use Rattle.smo_ops.proofs.OneCounts.{counts_as_operators}
use Rattle.smo_ops.proofs.count.check_evolve.Goals as goal

pub returns-in_err-check_each_op-clause-counts : goal.returns-in_err-check_each_op-clause-counts
returns-in_err-check_each_op-clause-counts c =
    let p = err_from_is_err_and c.from_residual-in_err-check_each_op.result
    c.from_residual-in_err-check_each_op.ensures.1 in
    rw (p.1, p.2)
    (limited_before operator_counts operator_of c.args.inverse.now Inverse 8 c.min.result
    c.min.ensures _ c.in_err-check_each_op.ensures.counts
    ∙ sym (first_after (operator_counts (operator_of c.args.op.now)) _
    (sym c.in_ok-check_op_counts.ensures.counts))
    ∙ sym (counts_as_operators (operator_of c.args.op.now) (operators_of c.args.inverse.now)))

pub returns-then-inverse-gt-MAX_INVERSE-clause-counts :
    goal.returns-then-inverse-gt-MAX_INVERSE-clause-counts
returns-then-inverse-gt-MAX_INVERSE-clause-counts c =
    limited_above operator_counts operator_of c.args.inverse.now Inverse 8 c.min.result
    c.min.ensures c.in_ok-check_each_op.ensures.counts c.if-inverse-gt-MAX_INVERSE.true
    ∙ sym (first_after (operator_counts (operator_of c.args.op.now)) _
    (sym c.in_ok-check_op_counts.ensures.counts))
    ∙ sym (counts_as_operators (operator_of c.args.op.now) (operators_of c.args.inverse.now))

pub returns-clause-counts : goal.returns-clause-counts
returns-clause-counts c =
    limited_within operator_counts operator_of c.args.inverse.now Inverse 8 c.min.result
    c.min.ensures c.in_ok-check_each_op.ensures.counts c.if-inverse-gt-MAX_INVERSE.false
    ∙ sym (first_after (operator_counts (operator_of c.args.op.now)) _
    (sym c.in_ok-check_op_counts.ensures.counts))
    ∙ sym (counts_as_operators (operator_of c.args.op.now) (operators_of c.args.inverse.now))

pub returns-clause-constants : goal.returns-clause-constants
returns-clause-constants c =
    let l = c.if-inverse-gt-MAX_INVERSE.false in
    let m = c.min.ensures in
    let all : length c.args.inverse.now ≤ c.min.result = grind (arith, nat_tests) in (
      (c.check_op_counts.ensures.constants, tt),
      ones_hold (operators_of c.args.inverse.now)
          (subst (λ (ops : List Op). OperatorsHold (operators_of ops))
          (take_all c.min.result c.args.inverse.now all)
          c.in_ok-check_each_op.ensures.constants),
    )
