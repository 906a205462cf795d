use Rattle.smo_ops_versions_spec.proofs.StepLosses as losses
use Rattle.smo_ops_versions_spec.proofs.loss_laws.steps_back_lose_what_is_not_there.Goals as goal

pub returns-clause-filled : goal.returns-clause-filled
returns-clause-filled c = λ f loss map e. losses.filled_column f loss map e

pub returns-clause-filled_whole : goal.returns-clause-filled_whole
returns-clause-filled_whole c = λ f loss map e. losses.filled_whole f loss map e

pub returns-clause-filled_columns : goal.returns-clause-filled_columns
returns-clause-filled_columns c = λ f loss map x e q. losses.filled_columns f loss map x e q

pub returns-clause-filled_others : goal.returns-clause-filled_others
returns-clause-filled_others c = λ f loss map n q. losses.filled_others f loss map n q

pub returns-clause-filled_lost : goal.returns-clause-filled_lost
returns-clause-filled_lost c = λ f loss map whole e. losses.filled_lost f loss map whole e

pub returns-clause-undone : goal.returns-clause-undone
returns-clause-undone c = λ before op loss map n e. losses.undone_lost before op loss map n e

pub returns-clause-undone_gone : goal.returns-clause-undone_gone
returns-clause-undone_gone c = λ before op loss map n m e.
    losses.undone_gone before op loss map n m e

pub returns-clause-undone_others : goal.returns-clause-undone_others
returns-clause-undone_others c = λ before op loss map n m e.
    losses.undone_others before op loss map n m e
