-- What a run of the sample writes and answers, and what it leaves on the disk. Its script is made
-- from its size, and no byte is taken.
use Rattle.std.specs.Prelude.{◌≡◌, ◌⊎◌, ℕ, ◌+◌, IsTrue, List, ◌++◌, length, [], Bool, true, false}
use Rattle.std.specs.Prelude.{Option, Some, Result, Ok, Err}
use Rattle.std.specs.Io.KnownBytes.{Appends}
use Rattle.prima_io.specs.Moves.{AppendsLess}
use Rattle.disk_model.specs.Meaning.{Meaning, IfKnown}
use Rattle.disk_model.specs.Moments.{Turns}
use Rattle.journal.specs.Records.{Holds}
use Rattle.archive_core_file_spec.specs.LogRecords.{LogRecord, records_of, commands_in}
use Rattle.archive_core_file_spec.specs.Opening.{Opens}
use Rattle.script_cli_arguments.specs.Arguments.{asked, request}
use Rattle.script_cli_arguments.specs.declared.request.Mode.TheVariants.{Sample}
use Rattle.script_cli_sample.specs.Statements.{sample_script}
use Rattle.script_cli_sample.specs.Summary.{summary}
use Rattle.script_cli_statement.specs.Due.{Due, AreRecordsOf, AreFirstOf, commands_due}
use Rattle.script_cli_statement.specs.Given.{Given}
use Rattle.script_cli_statement.specs.Replies.{Recorded, recorded}
use Rattle.script_cli.specs.Output.{output, has_error, script_puts}
use Rattle.script_cli.specs.Files.{OpensPrefix}
use Rattle.script_cli.specs.Runs.{NotOpened, is_whole}
use Rattle.script_cli.specs.Driving.{RanScript}
use Rattle.script_cli_statement.specs.declared.stop_reason.StopReason.{StopReason}
use Rattle.script_cli_statement.specs.declared.stop_reason.StopReason.TheVariants as reason
use Rattle.script_cli.specs.declared.status.Status.{Status}
use Rattle.script_cli.specs.declared.status.Status.TheVariants.{Done, Refused, WriteFault}
use Rattle.script_cli.specs.declared.status.Status.TheVariants.{DiskFault, NoMemory}

-- the words ask for a sample of this size, over a journal with this limit
abbrev pub AsksSample : List (List ℕ) → ℕ → ℕ → Type 0
AsksSample arguments limit size = asked arguments ≡ Some (request limit (Sample size))

-- ---- what is told

-- after so many commands: the size, the commands of the history after the script, its `error`
-- lines, and its `end` lines
abbrev pub told_after : ℕ → Given → Recorded → ℕ → List ℕ → List ℕ
told_after size limit start count script = summary size
    (count + length (commands_due (script_puts limit start script))) (output limit start script)

-- what the sample's script puts after these records
abbrev pub sample_puts : ℕ → Given → List LogRecord → List Due
sample_puts size limit opening = script_puts limit (recorded opening) (sample_script size)

-- what is told after these records
abbrev pub sample_told : ℕ → Given → List LogRecord → List ℕ
sample_told size limit opening =
    summary size (length (commands_in opening ++ commands_due (sample_puts size limit opening)))
    (output limit (recorded opening) (sample_script size))

-- how a sample ends that is told whole: by whether its script's replies have an `error` line
abbrev pub end_of : Bool → Status
end_of true = Refused
end_of false = Done

abbrev pub sample_end : ℕ → Given → List LogRecord → Status
sample_end size limit opening = end_of (has_error limit (recorded opening) (sample_script size))

-- What was written of this summary, by the status.
abbrev pub WroteSummary : Status → List ℕ → Bool → Option (List ℕ) → Option (List ℕ) → Type 0
WroteSummary Done text faulty old new = Appends old new text × (faulty ≡ false)
WroteSummary Refused text faulty old new = Appends old new text × (faulty ≡ true)
WroteSummary WriteFault text faulty old new = AppendsLess old new text
WroteSummary DiskFault text faulty old new = new ≡ old
WroteSummary NoMemory text faulty old new = new ≡ old
WroteSummary other text faulty old new = ⊥

-- ---- what is left on the disk

-- the script was read to its end
abbrev pub was_read : Status → Bool
was_read Done = true
was_read Refused = true
was_read WriteFault = true
was_read other = false

-- Where the file opens as some records at the start: from the first sync on a crash leaves them and
-- a prefix of those of what the script puts, and so does a read give, unless the disk failed; where
-- the script was read to its end, at the exit a crash leaves all of them, and a read gives the
-- header, just their records, and a gate that is not open.
pub record SampleLeft (limit : Given) (script : List ℕ) (start : Recorded) (status : Status)
    (old new : Meaning) : Type 0 where
  pub log : List LogRecord
  pub first : AreFirstOf (script_puts limit start script) log
  pub all : was_read status ≡ true → AreRecordsOf (script_puts limit start script) log
  pub any_moment : (file : List ℕ) (opening : List LogRecord) → IsTrue old.is_honest
      → old.seen ≡ Some file → Opens file opening
      → Turns old new (OpensPrefix opening log)
  pub exit : (file : List ℕ) (opening : List LogRecord) → was_read status ≡ true
      → IsTrue old.is_honest → old.seen ≡ Some file → Opens file opening → (c : List ℕ)
      → new.may_leave c
      → Opens c (opening ++ log)
  pub given : (file : List ℕ) (opening : List LogRecord) → (status ≡ DiskFault → ⊥)
      → old.seen ≡ Some file → Opens file opening
      → (c : List ℕ) × (new.seen ≡ Some c) × OpensPrefix opening log c
  pub holds : (file : List ℕ) (opening : List LogRecord) → was_read status ≡ true
      → old.seen ≡ Some file → Opens file opening
      → (c : List ℕ) × (new.seen ≡ Some c) × Holds c (records_of (opening ++ log))

-- ---- a sample

-- the start is that of the records as which the file opened, with so many commands, where the disk
-- tells it
abbrev pub IsCounted : Recorded → ℕ → Option (List ℕ) → Type 0
IsCounted start count seen = IfKnown seen (λ file. (opening : List LogRecord) × Opens file opening
    × (start ≡ recorded opening) × (count ≡ length (commands_in opening)))

-- the file opened, and this script was run after its records
pub record Sampled (size : ℕ) (limit : Given) (script : List ℕ) (status : Status)
    (written_old written_new : Option (List ℕ)) (old new : Meaning) : Type 0 where
  pub start : Recorded
  pub count : ℕ
  pub opened : IsCounted start count old.seen
  pub wrote : WroteSummary status (told_after size limit start count script)
      (has_error limit start script) written_old written_new
  pub disk : SampleLeft limit script start status old new

-- the disk was called: the file was not opened, or it was and the script of this size was run
abbrev pub SamplesOver : ℕ → Given → Status → Option (List ℕ) → Option (List ℕ) → Option (List ℕ)
    → Option (List ℕ) → ℕ → ℕ → Meaning → Meaning → Type 0
SamplesOver size given status left_old left_new written_old written_new faults_old faults_new old
    new =
    NotOpened status left_old left_new written_old written_new faults_old faults_new old new
    ⊎ Sampled size given (sample_script size) status written_old written_new old new

-- ---- the parts of one

-- How a sample ends whose script was not read to its end: the disk failed, or memory ran out, from
-- which alone the source and the sink of the replies fail too.
abbrev pub stop_of : Status → Status
stop_of DiskFault = DiskFault
stop_of other = NoMemory

-- the summary was put whole, or less of it where the sink failed, and nothing where memory ran out
abbrev pub PutsSummary : {T : Type 0} → Result T StopReason → List ℕ → Option (List ℕ)
    → Option (List ℕ)
    → Type 0
PutsSummary (Ok x) text old new = Appends old new text
PutsSummary (Err reason.WriteFault) text old new = AppendsLess old new text
PutsSummary (Err reason.DiskFault) text old new = ⊥
PutsSummary (Err reason.NoMemory) text old new = new ≡ old

-- the same, by the status of a sample whose script was read to its end, with this one
abbrev pub ToldBy : Status → Status → List ℕ → Option (List ℕ) → Option (List ℕ) → Type 0
ToldBy driven status text old new =
    ((status ≡ driven) × Appends old new text)
    ⊎ (((status ≡ WriteFault) × AppendsLess old new text) ⊎ ((status ≡ NoMemory) × (new ≡ old)))

-- the summary was due where the script was read to its end, and else nothing
abbrev pub EndsSample : Status → Status → List ℕ → Option (List ℕ) → Option (List ℕ) → Type 0
EndsSample driven status text old new =
    ((is_whole driven ≡ true) × ToldBy driven status text old new)
    ⊎ ((status ≡ stop_of driven) × (new ≡ old))

-- this script was read over an opened archive, its replies were kept, and the summary of them was
-- told after so many commands
pub record RanSample (size : ℕ) (limit : Given) (script : List ℕ) (start : Recorded) (count : ℕ)
    (status : Status) (written_old written_new : Option (List ℕ)) (old new : Meaning) (at : ℕ) :
    Type 0 where
  pub driven : Status
  pub left : Option (List ℕ)
  pub kept : List ℕ
  pub ran_script : RanScript limit start driven (Some script) left (Some []) (Some kept) old new at
  pub ended : EndsSample driven status (summary size
      (count + length (commands_due (script_puts limit start script))) kept) written_old written_new
