-- What mounting makes of a file.
use Rattle.std.specs.Prelude.{◌≡◌, ◌⊎◌, ℕ, List, Option}
use Rattle.disk_model.specs.Meaning.{BothKnown}
use Rattle.journal.specs.Records.{opened_file}
use Rattle.archive_core_file_spec.specs.LogRecords.{LogRecord, gate_after, past_recorded}
use Rattle.archive_core_file_spec.specs.Opening.{Opens}
use Rattle.archive_core_replay.specs.Memory.{ArchiveContent, RepresentsPast}
use Rattle.archive_core_replay.specs.declared.opened.Opened.{Opened}
use Rattle.archive_core_replay.specs.Restoring.{IsCounted}

-- the file opens as records; the archive represents just their past, the gate after them is at this
-- place, and their commands are counted
pub record IsMounted (file : List ℕ) (archive : ArchiveContent) (at : ℕ) (opened : Opened) :
    Type 0 where
  pub log : List LogRecord
  pub opens : Opens file log
  pub represents : RepresentsPast archive (past_recorded log)
  pub place : at ≡ gate_after log
  pub counted : IsCounted log opened

-- what a read gives is as it was, or the empty journal where there were at most nine bytes
abbrev pub IsKeptOrBegun : Option (List ℕ) → Option (List ℕ) → Type 0
IsKeptOrBegun old new =
    (new ≡ old) ⊎ BothKnown (λ before after. after ≡ opened_file before) old new
