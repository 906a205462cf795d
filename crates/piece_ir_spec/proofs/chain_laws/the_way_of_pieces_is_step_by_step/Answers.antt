use Rattle.smo_ops_versions_spec.proofs.WaySteps.{brought_stays, brought_forward, brought_back}
use Rattle.piece_ir_spec.specs.Chains.{brought}
use Rattle.piece_ir_spec.proofs.chain_laws.the_way_of_pieces_is_step_by_step.Goals as goal

pub returns-clause-stays : goal.returns-clause-stays
returns-clause-stays c = λ book versions q ps. brought_stays versions (brought book) q ps

pub returns-clause-next : goal.returns-clause-next
returns-clause-next c = λ book versions v q ps l. brought_back versions (brought book) v q ps l

pub returns-clause-previous : goal.returns-clause-previous
returns-clause-previous c = λ book versions v q ps l.
    brought_forward versions (brought book) v q ps l
