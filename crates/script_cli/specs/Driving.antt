-- What the parts of a run do.
use Rattle.std.specs.Prelude.{◌≡◌, ◌⊎◌, ℕ, IsTrue, List, [], ◌++◌, length, Bool, ◌||◌, true, false}
use Rattle.std.specs.Prelude.{Option, Some}
use Rattle.std.specs.Io.KnownBytes.{Appends}
use Rattle.prima_io.specs.Causes.{Rose}
use Rattle.prima_io.specs.Moves.{AppendsPrefix}
use Rattle.disk_model.specs.Meaning.{Meaning, IfKnown}
use Rattle.disk_model.specs.Moments.{GoesOn, Leaves}
use Rattle.disk_model.specs.declared.disk.Disk.{Ghosts}
use Rattle.journal.specs.Mounting.{IsNotSynced, KeepsFile}
use Rattle.journal.specs.JournalFiles.{Stands}
use Rattle.journal.specs.Puts.{HoldsPrefix}
use Rattle.journal.specs.Records.{Holds}
use Rattle.archive_core_file_spec.specs.LogRecords.{LogRecord, records_of, commands_in, AreEncoded}
use Rattle.archive_core_file_spec.specs.Opening.{Opens, Damages}
use Rattle.script_cli_statement.specs.ArchiveOnDisk.{RepresentsSome, Archive, Opened, MountFault}
use Rattle.script_cli_statement.specs.ArchiveOnDisk.{standing_of, below, place_of}
use Rattle.script_cli_statement.specs.ArchiveOnDisk.mounting
use Rattle.script_cli_statement.specs.ArchiveOnDisk.{limit_of, HoldsAt, IsMounted}
use Rattle.script_cli_statement.specs.Due.{commands_due}
use Rattle.script_cli_statement.specs.Given.{Given}
use Rattle.script_cli_statement.specs.Replies.{Recorded}
use Rattle.script_cli.specs.Output.{script_puts, tail_text, tail_is_due}
use Rattle.script_cli_statement.specs.Putting.{HasPut}
use Rattle.answer_text.specs.Texts.{not_a_journal_text}
use Rattle.script_cli.specs.Runs.{Ran, Log, PutsLine, counted_limit, logged_in}
use Rattle.script_cli_statement.specs.Responses.{TakesRecords}
use Rattle.script_cli.specs.Taking.{ending_after}
use Rattle.script_cli.specs.declared.script_run.ScriptRun.{ScriptRun}
use Rattle.script_cli_statement.specs.declared.stop_reason.StopReason.{StopReason}
use Rattle.script_cli_statement.specs.declared.stop_reason.StopReason.TheVariants as reason
use Rattle.script_cli.specs.declared.status.Status.{Status}
use Rattle.script_cli.specs.declared.status.Status.TheVariants.{Done, Refused, WriteFault}
use Rattle.script_cli.specs.declared.status.Status.TheVariants.{DiskFault, NotAJournal, NoMemory}

-- an `error` line was put, or is due at the script's end
abbrev pub is_faulty : ScriptRun → Bool
is_faulty script_run = script_run.refused || tail_is_due (ending_after script_run [])

-- how the line after the last statement ended a run
abbrev pub Ends : Status → ScriptRun → Option (List ℕ) → Option (List ℕ) → Type 0
Ends Done script_run old new = Appends old new (tail_text (ending_after script_run []))
    × (is_faulty script_run ≡ false)
Ends Refused script_run old new = Appends old new (tail_text (ending_after script_run []))
    × (is_faulty script_run ≡ true)
Ends WriteFault script_run old new = AppendsPrefix old new (tail_text (ending_after script_run []))
Ends other script_run old new = ⊥

-- how a run ends that stops before the script's end
abbrev pub status_of : StopReason → Status
status_of reason.WriteFault = WriteFault
status_of reason.DiskFault = DiskFault
status_of reason.NoMemory = NoMemory

-- The disk failed at the last of these, which are these that were done and one more: of an honest
-- disk a crash leaves at each moment a prefix of these, and now all that were done, and the last or
-- not.
pub record PutsSome (old new : Meaning) (at : ℕ) (done log : List LogRecord) : Type 0 where
  pub done_encoded : AreEncoded done
  pub encoded : AreEncoded log
  pub goes : GoesOn old new
  pub leaves : (opening : List LogRecord) → IsTrue old.is_honest
      → Stands old at (records_of opening)
      → Leaves old new (HoldsPrefix (records_of opening) (records_of log) 0
      (length (records_of log)))
  pub exit : (opening : List LogRecord) → IsTrue old.is_honest → Stands old at (records_of opening)
      → (c : List ℕ) → new.may_leave c → Holds c (records_of (opening ++ done))
      ⊎ Holds c (records_of (opening ++ log))

-- these were put, or where the disk failed all of them but the last
abbrev pub PutBy : Status → Meaning → Meaning → ℕ → List LogRecord → List LogRecord → Type 0
PutBy DiskFault old new at done log = PutsSome old new at done log
PutBy other old new at done log = (next : ℕ) × HasPut old new at next log

-- a script was read over an opened archive
pub record RanScript (limit : Given) (start : Recorded) (status : Status)
    (left_old left_new written_old written_new : Option (List ℕ)) (old new : Meaning) (at : ℕ) :
    Type 0 where
  pub ran : Ran limit start status left_old left_new written_old written_new
  pub log : Log limit start status ran.whole ran.rest
  pub puts : PutBy status old new at log.done (logged_in log)

-- so many commands were put by the script, where it was read to its end
abbrev pub CountsPuts : Status → Given → Recorded → Option (List ℕ) → ℕ → Type 0
CountsPuts Done limit start left puts = IfKnown left
    (λ script. puts ≡ length (commands_due (script_puts limit start script)))
CountsPuts Refused limit start left puts = IfKnown left
    (λ script. puts ≡ length (commands_due (script_puts limit start script)))
CountsPuts other limit start left puts = Unit {0}

-- so many commands the file has, where the disk tells it
abbrev pub CountsOpening : Option (List ℕ) → ℕ → Type 0
CountsOpening seen count = (file : List ℕ) (opening : List LogRecord) → seen ≡ Some file
    → Opens file opening → count ≡ length (commands_in opening)

-- how a run ends whose file was not opened
abbrev pub status_of_fault : MountFault → Status
status_of_fault mounting.Disk = DiskFault
status_of_fault (mounting.Damaged place) = NotAJournal place
status_of_fault mounting.NoMemory = NoMemory

-- of a damaged file the place is told, and nothing else
abbrev pub PutsUnopened : MountFault → Option (List ℕ) → Option (List ℕ) → ℕ → ℕ → Type 0
PutsUnopened (mounting.Damaged place) written_old written_new faults_old faults_new =
    PutsLine (not_a_journal_text place) written_old written_new faults_old faults_new
PutsUnopened other written_old written_new faults_old faults_new = written_new ≡ written_old

-- an archive was opened over this disk
pub record HasOpened {D : Type 0} {g : Ghosts D} (old : Meaning) (limit : ℕ)
    (archive : Archive D g) : Type 0 where
  pub mounted : IfKnown old.seen (λ file. (opened : Opened)
      × IsMounted file (standing_of archive) (place_of archive) opened)
  pub represents : RepresentsSome (standing_of archive)
  pub limit_is : limit_of archive ≡ counted_limit limit
  pub takes : TakesRecords archive
  pub goes : GoesOn old (below archive)
  pub unfailed : (below archive).faults ≡ old.faults
  pub turns : KeepsFile old (below archive)
  pub holds : (file : List ℕ) (opening : List LogRecord) → old.seen ≡ Some file → Opens file opening
      → HoldsAt (below archive) (place_of archive) (records_of opening)
  pub stands : (file : List ℕ) (opening : List LogRecord) → IsTrue old.is_honest
      → old.seen ≡ Some file → Opens file opening
      → Stands (below archive) (place_of archive) (records_of opening)

-- none was, and this is why
pub record HasNotOpened (old new : Meaning) (fault : MountFault) : Type 0 where
  pub goes : GoesOn old new
  pub turns : ((fault ≡ mounting.Disk) × IsNotSynced old new) ⊎ KeepsFile old new
  pub damaged : (place : ℕ) → fault ≡ mounting.Damaged place
      → IfKnown old.seen (λ file. Damages file place)
  pub untouched : (place : ℕ) → fault ≡ mounting.Damaged place → new.seen ≡ old.seen
  pub cause : fault ≡ mounting.Disk → Rose old.faults new.faults
  pub unfailed : (fault ≡ mounting.Disk → ⊥) → new.faults ≡ old.faults
