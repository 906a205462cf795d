use Rattle.std.proofs.Common.{◌≡◌, ◌++◌}
use Rattle.cond_expr.specs.Seen.{test}
use Rattle.cond_expr.specs.Parts.{parts}
use Rattle.cond_expr_dead.specs.Tried.{HaveValidLimits}
use Rattle.cond_expr_dead.specs.Earlier.{parts_before, some_kills}
use Rattle.cond_expr_dead.proofs.PartLists.{from}
use Rattle.cond_expr_dead.proofs.PartSteps.{upto}
use Rattle.cond_expr_dead.proofs.condition.+parts.Given as goal

abbrev pub invariant-some_kills_of-loop-index : goal.invariant-some_kills_of-loop-index
invariant-some_kills_of-loop-index l = record {
  value : some_kills (parts (test l.whole)) (parts_before l.before) (from 0 l.members)
      ≡ some_kills (parts (test l.whole)) (parts_before l.before ++ upto l.index l.members)
      (from l.index l.members);
  valid : HaveValidLimits (from l.index l.members) → HaveValidLimits (from 0 l.members);
}
