use Rattle.std.proofs.Common.{◌+◌, ◌∙◌, sym, ap}
use Rattle.cond_expr_dead.specs.Shown.{tried_values}
use Rattle.cond_expr_dead.specs.LowerBounds.{highest}
use Rattle.cond_expr_dead.proofs.PartLists.{from, valid_more}
use Rattle.cond_expr_dead.proofs.PartSteps.{highest_more}
use Rattle.cond_expr_dead.proofs.lower_bound.+parts.Goals as goal

pub highest_of-loop-member-preserved : goal.highest_of-loop-member-preserved
highest_of-loop-member-preserved t c =
    let cs = c.args.members.now in
    let k = c.loop-member.member-index in
    let i = c.args.column.atom in
    let n = c.args.column.name.now in
    record {
      value = c.loop-member.invariant.value
          ∙ highest_more i n cs k c.member-item.result c.loop-member-test.true c.member-item.is
          (tried_values c.loop-member.so_far)
          ∙ ap (highest i n (from (k + 1) cs)) (sym c.highest-so_far.ensures.value);
      valid = λ h. c.loop-member.invariant.valid
          (valid_more cs k c.member-item.result c.loop-member-test.true c.member-item.is
          c.highest-so_far.ensures.valid h);
    }
