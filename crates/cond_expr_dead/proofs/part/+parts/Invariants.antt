use Rattle.std.proofs.Common.{◌≡◌}
use Rattle.std.specs.List.{list_any}
use Rattle.cond_expr_dead.specs.Tried.{HaveValidLimits}
use Rattle.cond_expr_dead.proofs.PartLists.{from}
use Rattle.cond_expr_dead.proofs.part.+parts.Given as goal

abbrev pub invariant-some_part_of-loop-member : goal.invariant-some_part_of-loop-member
invariant-some_part_of-loop-member g l = record {
  value : list_any (g.T.PartTest.passes l.by) (from 0 l.members)
      ≡ list_any (g.T.PartTest.passes l.by) (from l.member-index l.members);
  valid : HaveValidLimits (from l.member-index l.members) → HaveValidLimits (from 0 l.members);
}
