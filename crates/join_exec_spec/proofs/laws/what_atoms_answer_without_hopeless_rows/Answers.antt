use Rattle.join_exec_spec.proofs.PrunedAtoms.{one_pruned}
use Rattle.join_exec_spec.proofs.laws.what_atoms_answer_without_hopeless_rows.Goals as goal

pub returns : goal.returns
returns c = λ outs cond before was is after f b far p.
    one_pruned outs cond was is p before after f b far
