use Rattle.command_codec_spec.proofs.AcceptedCommands.{accepted_writable}
use Rattle.command_codec_spec.proofs.OneMember.{ones_of_code}
use Rattle.command_codec_spec.proofs.laws.accepted_commands_can_be_written.Goals as goal

pub returns-clause-tables : goal.returns-clause-tables
returns-clause-tables c = accepted_writable

pub returns-clause-past : goal.returns-clause-past
returns-clause-past c = λ past command made one accepted.
    accepted_writable past command made.tables one accepted

pub returns-clause-code : goal.returns-clause-code
returns-clause-code c = ones_of_code
