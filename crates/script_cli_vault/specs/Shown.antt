-- What an archive on a disk shows to sessions, and what becomes of it by a session's command.
use Rattle.std.specs.Prelude.{◌≡◌, ℕ, Result, Err, OnOk}
use Rattle.disk_model.specs.declared.disk.Disk.{Ghosts}
use Rattle.smo_ops_types.specs.Commands.{PlainCommand}
use Rattle.command_codec_spec.specs.Valid.{IsCommand}
use Rattle.journal.specs.Records.{Record}
use Rattle.journal.specs.JournalFiles.{needs}
use Rattle.archive_core_file_spec.specs.LogRecords.{logged, record_of}
use Rattle.archive_core.specs.State.{RepresentsPast}
use Rattle.archive_core.specs.State.{Done}
use Rattle.archive_core.specs.declared.archive.Archive.{Archive}
use Rattle.archive_core.specs.declared.fault.CommitFault.{CommitFault}
use Rattle.archive_core.specs.declared.fault.CommitFault.TheVariants as commit
use Rattle.archive_core.specs.Fields.{standing_of, place_of, limit_of}
use Rattle.archive_core.specs.Putting.{PutsRecord, LeavesDisk, MovesGate, WritesRecord}
use Rattle.archive_core.specs.Putting.{HoldsRecord, KeepsRecord}
use Rattle.sessions.specs.Shared.{Shared}
use Rattle.sessions.specs.declared.vault.VaultDone.{VaultDone}
use Rattle.sessions.specs.declared.vault.VaultFault.{VaultFault}
use Rattle.script_cli_vault.specs.Answered.{answer_of}

-- the record of a command, and the bytes that its put needs
abbrev pub record_for : PlainCommand → Record
record_for command = record_of (logged command)

abbrev pub need_of : PlainCommand → ℕ
need_of command = needs (record_for command)

module _ {D : Type 0} {g : Ghosts D} where
  -- it represents the past, its next record is put at the place, and it keeps to the limit
  pub record Shows (archive : Archive D g) (shared : Shared) : Type 0 where
    pub past : RepresentsPast (standing_of archive) shared.past
    pub place : place_of archive ≡ shared.place
    pub limit : limit_of archive ≡ shared.limit

  -- what an archive leaves on its disk by a command that it answers so
  pub record IsPutBy (old new : Archive D g) (command : PlainCommand)
      (answer : Result Done CommitFault) : Type 0 where
    pub untouched : LeavesDisk answer old new
    pub limit : limit_of new ≡ limit_of old
    pub place : MovesGate (record_for command) answer old new
    pub written : WritesRecord (record_for command) answer old new
    pub holds : HoldsRecord (record_for command) answer old new
    pub encoded : OnOk answer (IsCommand command)
    pub encoded_so_far : answer ≡ Err commit.Disk → IsCommand command
    pub puts : PutsRecord (record_for command) old new
    pub acknowledged : KeepsRecord (record_for command) answer old new

  -- the same of a vault over the archive, whose answer is the archive's in the words of sessions
  pub record IsGiven (old new : Archive D g) (command : PlainCommand)
      (result : Result VaultDone VaultFault) : Type 0 where
    pub answer : Result Done CommitFault
    pub same : result ≡ answer_of answer
    pub put : IsPutBy old new command answer
