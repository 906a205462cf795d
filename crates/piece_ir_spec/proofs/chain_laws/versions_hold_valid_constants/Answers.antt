use Rattle.smo_ops_spec.specs.Past.{beginning}
use Rattle.piece_ir_spec.proofs.HeldValues.{held_next, held_after, valid_next, valid_after}
use Rattle.piece_ir_spec.proofs.chain_laws.versions_hold_valid_constants.Goals as goal

pub returns-clause-step : goal.returns-clause-step
returns-clause-step c = λ past command h g. held_next past command.stamp command.body h g

pub returns-clause-history : goal.returns-clause-history
returns-clause-history c = λ commands g. held_after beginning commands tt g

pub returns-clause-step_of_all : goal.returns-clause-step_of_all
returns-clause-step_of_all c = λ past command h g. valid_next past command.stamp command.body h g

pub returns-clause-history_of_all : goal.returns-clause-history_of_all
returns-clause-history_of_all c = λ commands g. valid_after beginning commands tt g
