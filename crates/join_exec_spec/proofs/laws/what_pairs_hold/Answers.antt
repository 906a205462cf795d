use Rattle.join_exec_spec.proofs.HeldPairs.{held_pairs}
use Rattle.join_exec_spec.proofs.laws.what_pairs_hold.Goals as goal

pub returns : goal.returns
returns c = λ keep m choices rows. held_pairs keep m choices rows
