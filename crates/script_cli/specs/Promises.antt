-- What a call promises whose words ask for a run, and one whose words ask for a sample: what it
-- takes, writes and leaves on the disk.
use Rattle.std.specs.Prelude.{◌≡◌, ◌⊎◌, ◌++◌, ℕ, IsTrue, true, List, Option, Some}
use Rattle.std.specs.Io.KnownBytes.{Appends}
use Rattle.prima_io.specs.Moves.{AppendsPrefix}
use Rattle.disk_model.specs.Meaning.{Meaning, IfKnown}
use Rattle.disk_model.specs.Moments.{UntilSynced}
use Rattle.archive_core_file_spec.specs.LogRecords.{LogRecord}
use Rattle.archive_core_file_spec.specs.Opening.{Opens, IsSound, Damages}
use Rattle.script_cli_statement.specs.Due.{AreRecordsOf}
use Rattle.script_cli_statement.specs.Given.{Given}
use Rattle.script_cli_statement.specs.Replies.{recorded}
use Rattle.script_cli.specs.Output.{output, script_puts}
use Rattle.script_cli.specs.Files.{IsSoundFile, LeavesPrefix}
use Rattle.script_cli.specs.Runs.{IsUntouched, RunsOver, RefusesFile, is_whole}
use Rattle.script_cli.specs.Sampling.{SamplesOver, sample_told, sample_puts, sample_end}
use Rattle.script_cli.specs.declared.status.Status.{Status}

module _ {D : Type 0} where
  -- A run, given its limit and its rules.
  pub record RunOutcome (given : Given) (meaning : D → Meaning) (status : Status)
      (left_old left_new written_old written_new : Option (List ℕ)) (faults_old faults_new : ℕ)
      (disk_old disk_new : D) : Type 0 where
    -- What is taken, written and left where they are, by the status: how many statements were
    -- answered whole, what was written after their replies, and as what the file opens.
    pub runs : IsUntouched status left_old left_new written_old written_new disk_old disk_new
        ⊎ RunsOver given status left_old left_new written_old written_new faults_old faults_new
        (meaning disk_old) (meaning disk_new)
    -- a damaged file is refused, at its place, unless the disk failed or memory ran out
    pub refuses : (file : List ℕ) (place : ℕ) → (meaning disk_old).seen ≡ Some file
        → Damages file place → RefusesFile place status left_old left_new
    -- whatever happens, a prefix of the script's output is written
    pub prefix : (file : List ℕ) (opening : List LogRecord) → (meaning disk_old).seen ≡ Some file
        → Opens file opening
        → IfKnown left_old (λ script. AppendsPrefix written_old written_new
        (output given (recorded opening) script))
    -- and all of it where the script was read to its end
    pub whole : (file : List ℕ) (opening : List LogRecord) → (meaning disk_old).seen ≡ Some file
        → Opens file opening → is_whole status ≡ true
        → IfKnown left_old (λ script. Appends written_old written_new
        (output given (recorded opening) script))
    -- Wherever the run is stopped: until its first sync has succeeded a crash leaves what it might
    -- have left before, and from then on, at each moment, a file that opens as the opening records
    -- and a prefix of those of what the script's statements put.
    pub crash : (file : List ℕ) (opening : List LogRecord) → IsTrue (meaning disk_old).is_honest
        → (meaning disk_old).seen ≡ Some file → Opens file opening
        → IfKnown left_old (λ script. LeavesPrefix (meaning disk_old) (meaning disk_new) opening
        (script_puts given (recorded opening) script))
    -- where the file was sound, so is each that is left
    pub sound : (file : List ℕ) (opening : List LogRecord) → IsTrue (meaning disk_old).is_honest
        → (meaning disk_old).seen ≡ Some file → IsSound file opening
        → UntilSynced (meaning disk_old) (meaning disk_new) IsSoundFile

  -- A sample of this size, given its limit and its rules: its script is made from the size.
  pub record SampleOutcome (size : ℕ) (given : Given) (meaning : D → Meaning) (status : Status)
      (left_old left_new written_old written_new : Option (List ℕ)) (faults_old faults_new : ℕ)
      (disk_old disk_new : D) : Type 0 where
    -- What is written and left on the disk, by the status: the summary of the replies to the
    -- script, all of it or what the sink took, and as what the file opens.
    pub samples : IsUntouched status left_old left_new written_old written_new disk_old disk_new
        ⊎ SamplesOver size given status left_old left_new written_old written_new faults_old
        faults_new (meaning disk_old) (meaning disk_new)
    -- a damaged file is refused, at its place, unless the disk failed or memory ran out
    pub refuses : (file : List ℕ) (place : ℕ) → (meaning disk_old).seen ≡ Some file
        → Damages file place → RefusesFile place status left_old left_new
    -- one that ends well wrote just the summary of the output of its script, and is refused exactly
    -- where that has an `error` line
    pub summary : (file : List ℕ) (opening : List LogRecord) → (meaning disk_old).seen ≡ Some file
        → Opens file opening → is_whole status ≡ true
        → Appends written_old written_new (sample_told size given opening)
        × (status ≡ sample_end size given opening)
    -- each file that a crash may then leave has all that the script's statements put
    pub held : (file : List ℕ) (opening : List LogRecord) → IsTrue (meaning disk_old).is_honest
        → (meaning disk_old).seen ≡ Some file → Opens file opening → is_whole status ≡ true
        → (log : List LogRecord) × AreRecordsOf (sample_puts size given opening) log
        × ((c : List ℕ) → (meaning disk_new).may_leave c → Opens c (opening ++ log))
    -- what a crash leaves, and that files stay sound, as of a run
    pub crash : (file : List ℕ) (opening : List LogRecord) → IsTrue (meaning disk_old).is_honest
        → (meaning disk_old).seen ≡ Some file → Opens file opening
        → LeavesPrefix (meaning disk_old) (meaning disk_new) opening
        (sample_puts size given opening)
    pub sound : (file : List ℕ) (opening : List LogRecord) → IsTrue (meaning disk_old).is_honest
        → (meaning disk_old).seen ≡ Some file → IsSound file opening
        → UntilSynced (meaning disk_old) (meaning disk_new) IsSoundFile
