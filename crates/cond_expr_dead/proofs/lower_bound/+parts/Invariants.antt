use Rattle.std.proofs.Common.{◌≡◌}
use Rattle.cond_expr_dead.specs.Shown.{tried_values}
use Rattle.cond_expr_dead.specs.Tried.{HaveValidLimits}
use Rattle.cond_expr_dead.specs.LowerBounds.{highest}
use Rattle.cond_expr_dead.proofs.PartLists.{from}
use Rattle.cond_expr_dead.proofs.lower_bound.+parts.Given as goal

abbrev pub invariant-highest_of-loop-member : goal.invariant-highest_of-loop-member
invariant-highest_of-loop-member l = record {
  value : highest l.column.atom l.column.name.now (from 0 l.members) (tried_values l.top)
      ≡ highest l.column.atom l.column.name.now (from l.member-index l.members)
      (tried_values l.so_far);
  valid : HaveValidLimits (from l.member-index l.members) → HaveValidLimits (from 0 l.members);
}
