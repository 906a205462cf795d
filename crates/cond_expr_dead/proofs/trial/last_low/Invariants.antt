use Rattle.std.proofs.Common.{◌≡◌, true, length, drop, ◌≤◌}
use Rattle.cond_expr_dead.specs.Steps.{all_top}
use Rattle.cond_expr_dead.proofs.trial.last_low.Given as goal

abbrev pub invariant-loop-place : goal.invariant-loop-place
invariant-loop-place l = record {
  within : l.place ≤ length l.bytes;
  top : all_top (drop l.place l.bytes) ≡ true;
}

abbrev pub decreases-loop-place : goal.decreases-loop-place
decreases-loop-place l = l.place
