use Rattle.smo_ops_spec.specs.Past.{beginning}
use Rattle.archive_core_file_spec.proofs.Records.{sound_history, sound_past, sound_accepted}
use Rattle.archive_core_file_spec.proofs.Records.{sound_prefix}
use Rattle.archive_core_file_spec.proofs.Records.{sound_append}
use Rattle.archive_core_file_spec.proofs.laws.sound_records_are_a_history.Goals as goal

pub returns-clause-history : goal.returns-clause-history
returns-clause-history c = sound_history beginning

pub returns-clause-past : goal.returns-clause-past
returns-clause-past c = sound_past

pub returns-clause-accepted : goal.returns-clause-accepted
returns-clause-accepted c = sound_accepted

pub returns-clause-prefix : goal.returns-clause-prefix
returns-clause-prefix c = sound_prefix

pub returns-clause-more : goal.returns-clause-more
returns-clause-more c = sound_append
