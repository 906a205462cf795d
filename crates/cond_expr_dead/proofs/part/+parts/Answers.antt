use Rattle.std.proofs.Common.{◌+◌, ◌∙◌, sym, ap}
use Rattle.std.specs.Prelude.{◌||◌}
use Rattle.std.specs.List.{list_any}
use Rattle.cond_expr_dead.proofs.PartLists.{from, any_more, valid_more}
use Rattle.cond_expr_dead.proofs.part.+parts.Goals as goal

pub some_part_of-loop-member-preserved : goal.some_part_of-loop-member-preserved
some_part_of-loop-member-preserved g t c =
    let p = g.T.PartTest.passes c.args.by.now in
    let cs = c.args.members.now in
    let i = c.loop-member.member-index in
    record {
      value = c.loop-member.invariant.value
          ∙ any_more p cs i c.member-item.result c.loop-member-test.true c.member-item.is
          ∙ ap (λ b. b || list_any p (from (i + 1) cs))
          (sym c.some_part.ensures.value ∙ c.if-some_part.false);
      valid = λ h. c.loop-member.invariant.valid
          (valid_more cs i c.member-item.result c.loop-member-test.true c.member-item.is
          (c.some_part.ensures.valid c.if-some_part.false) h);
    }
