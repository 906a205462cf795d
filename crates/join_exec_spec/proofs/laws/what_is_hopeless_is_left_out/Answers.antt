use Rattle.join_exec_spec.proofs.Pruning.{pruned}
use Rattle.join_exec_spec.proofs.laws.what_is_hopeless_is_left_out.Goals as goal

pub returns : goal.returns
returns c = λ met n w keep sound choices rows rest wc wr.
    pruned met n w keep sound choices rows rest wc wr
