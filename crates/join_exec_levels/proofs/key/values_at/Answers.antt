use Rattle.std.proofs.Common.{rules, arith}
use Rattle.std.proofs.lemmas.Grind.{common_steps}
use Rattle.join_exec_levels.proofs.key.values_at.Goals as goal

pub loop-place-preserved : goal.loop-place-preserved
loop-place-preserved c = record {
  values = first_of (search rules, grind (arith, common_steps));
  same = first_of (search rules, grind (arith, common_steps));
}
