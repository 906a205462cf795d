use Rattle.archive_core_file_spec.proofs.Records.{after_append, after_commands, after_image}
use Rattle.archive_core_file_spec.proofs.Records.{accepted_append}
use Rattle.archive_core_file_spec.proofs.Records.{accepted_commands, accepted_image, counted}
use Rattle.archive_core_file_spec.proofs.Records.{replayed_after}
use Rattle.archive_core_file_spec.proofs.Records.{from_image}
use Rattle.archive_core_file_spec.proofs.laws.records_go_on.Goals as goal

pub returns-clause-past : goal.returns-clause-past
returns-clause-past c = after_append

pub returns-clause-commands : goal.returns-clause-commands
returns-clause-commands c = after_commands

pub returns-clause-image : goal.returns-clause-image
returns-clause-image c = after_image

pub returns-clause-accepted : goal.returns-clause-accepted
returns-clause-accepted c = accepted_append

pub returns-clause-accepted_commands : goal.returns-clause-accepted_commands
returns-clause-accepted_commands c = accepted_commands

pub returns-clause-accepted_image : goal.returns-clause-accepted_image
returns-clause-accepted_image c = accepted_image

pub returns-clause-counted : goal.returns-clause-counted
returns-clause-counted c = counted

pub returns-clause-replayed : goal.returns-clause-replayed
returns-clause-replayed c = replayed_after

pub returns-clause-from_image : goal.returns-clause-from_image
returns-clause-from_image c = from_image
