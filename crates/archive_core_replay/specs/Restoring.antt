-- Records made an archive in memory again.
use Rattle.std.specs.Prelude.{◌≡◌, List, length}
use Rattle.smo_ops_spec.specs.Past.{beginning}
use Rattle.journal.specs.Records.{Record}
use Rattle.archive_core_file_spec.specs.LogRecords.{LogRecord, records_of, AreEncoded, AreAccepted}
use Rattle.archive_core_file_spec.specs.LogRecords.{commands_in, replayed_of, past_recorded}
use Rattle.archive_core_state.specs.ArchiveContents.{ArchiveContent, RepresentsPast}
use Rattle.archive_core_replay.specs.declared.opened.Opened.{Opened}

-- all commands are counted, and those after the last image
pub record IsCounted (log : List LogRecord) (opened : Opened) : Type 0 where
  pub commands : opened.commands ≡ length (commands_in log)
  pub replayed : opened.replayed ≡ replayed_of log

-- these are records of commands and images, of which each command after the last image is accepted
-- after what stands before it; and the archive represents their past
pub record IsRestored (records : List Record) (archive : ArchiveContent) (opened : Opened) :
    Type 0 where
  pub log : List LogRecord
  pub encoded : AreEncoded log
  pub records_are : records ≡ records_of log
  pub accepted : AreAccepted beginning log
  pub represents : RepresentsPast archive (past_recorded log)
  pub counted : IsCounted log opened
