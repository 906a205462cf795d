-- What a run takes, writes and answers, and what it leaves on the disk.
use Rattle.std.specs.Prelude.{◌≡◌, ℕ, ◌+◌, ◌≤◌, ◌^◌, ◌-◌, min, IsTrue, List, [], ◌∷◌, ◌++◌, length}
use Rattle.std.specs.Prelude.{take, Bool, ◌⊎◌, true, false, Option, Some}
use Rattle.std.specs.Io.KnownBytes.{Consumes, Appends, IsAtEnd, Keeps}
use Rattle.prima_io.specs.Causes.{Rose}
use Rattle.prima_io.specs.Moves.{AppendsPrefix, AppendsLess}
use Rattle.disk_model.specs.Meaning.{Meaning, IfKnown}
use Rattle.disk_model.specs.Moments.{Turns}
use Rattle.journal.specs.Mounting.{IsNotSynced, KeepsFile}
use Rattle.journal.specs.Records.{Holds}
use Rattle.archive_core_file_spec.specs.LogRecords.{LogRecord, records_of}
use Rattle.archive_core_file_spec.specs.Opening.{Opens, Damages}
use Rattle.script_parse.specs.Script.{StatementPart}
use Rattle.answer_text.specs.Texts.{wrong_words_text, not_a_journal_text}
use Rattle.piece_ir_spec.specs.Rules.{Book}
use Rattle.script_cli_statement.specs.Due.{Due, AreRecordsOf}
use Rattle.script_cli_statement.specs.Given.{Given}
use Rattle.script_cli_statement.specs.Replies.{Recorded, recorded, IsFresh}
use Rattle.script_cli.specs.Output.{replies, all_puts, recorded_after, parts_of, ending_of}
use Rattle.script_cli.specs.Output.{has_error, tail_text}
use Rattle.script_cli.specs.Limits.{longest_script}
use Rattle.script_cli.specs.Taking.{next_reply}
use Rattle.script_cli.specs.Files.{OpensPrefix, EndsAs}
use Rattle.script_cli.specs.declared.status.Status.{Status}
use Rattle.script_cli.specs.declared.status.Status.TheVariants.{Done, Refused, Words, ReadFault}
use Rattle.script_cli.specs.declared.status.Status.TheVariants.{WriteFault, DiskFault, NotAJournal}
use Rattle.script_cli.specs.declared.status.Status.TheVariants.{NoMemory, InputLimit}

-- a journal of at most 2 ^ 64 - 1 bytes counts as one of one byte less
abbrev pub counted_limit : ℕ → ℕ
counted_limit limit = min limit (2 ^ 64 - 2)

-- what a run is given that is asked for this limit
abbrev pub given_by : ℕ → Book → Given
given_by limit book = record { limit = counted_limit limit; book = book }

-- the script was read to its end
abbrev pub is_whole : Status → Bool
is_whole Done = true
is_whole Refused = true
is_whole other = false

-- ---- what was taken and written

-- the script ended, all its statements were answered, and so was what stands after the last `;`
pub record WroteAll (taken : List ℕ) (rest : List StatementPart)
    (left written_old written_new : Option (List ℕ)) : Type 0 where
  pub end : IsAtEnd left
  pub within : length taken ≤ longest_script
  pub answered : rest ≡ []
  pub all : Appends written_old written_new (tail_text (ending_of taken))

-- the script ended, all its statements were answered, and a prefix of what is due then was written
pub record WroteTail (taken : List ℕ) (rest : List StatementPart)
    (left written_old written_new : Option (List ℕ)) : Type 0 where
  pub end : IsAtEnd left
  pub answered : rest ≡ []
  pub prefix : AppendsPrefix written_old written_new (tail_text (ending_of taken))

-- What was written after the replies to the statements that were answered whole, by the status;
-- `now` is what stood after the statements, and `rest` are those of the bytes taken that were not
-- answered whole.
abbrev pub Wrote : Status → Given → Recorded → List ℕ → List StatementPart → List StatementPart
    → Option (List ℕ) → Option (List ℕ) → Option (List ℕ) → Type 0
Wrote Done limit start taken whole rest left old new = WroteAll taken rest left old new
    × (has_error limit start taken ≡ false)
Wrote Refused limit start taken whole rest left old new = WroteAll taken rest left old new
    × (has_error limit start taken ≡ true)
Wrote ReadFault limit start taken whole rest left old new = (length taken ≤ longest_script)
    × (rest ≡ []) × (new ≡ old)
Wrote WriteFault limit start taken whole rest left old new =
    (length taken ≤ longest_script) × (AppendsPrefix old new
    (next_reply limit (recorded_after limit start whole) rest).text
    ⊎ WroteTail taken rest left old new)
Wrote DiskFault limit start taken whole rest left old new =
    (length taken ≤ longest_script) × (new ≡ old)
    × ((due : Due) × ((next_reply limit (recorded_after limit start whole) rest).puts ≡ due
    ∷ []))
Wrote NoMemory limit start taken whole rest left old new = (length taken ≤ longest_script)
    × (new ≡ old)
Wrote InputLimit limit start taken whole rest left old new =
    (length taken ≡ longest_script + 1) × (whole ≡ parts_of (take longest_script taken))
    × (new ≡ old)
Wrote other limit start taken whole rest left old new = ⊥

-- the first of the statements that were not answered whole, whose record was put where the sink
-- failed in its reply, and may have been where the disk failed
abbrev pub begun : Status → List StatementPart → List StatementPart
begun WriteFault rest = take 1 rest
begun DiskFault rest = take 1 rest
begun other rest = []

-- These bytes of the script were taken. Of their statements these were answered whole, and then
-- what the status tells was written.
pub record Ran (limit : Given) (start : Recorded) (status : Status)
    (left_old left_new written_old written_new : Option (List ℕ)) : Type 0 where
  pub taken : List ℕ
  pub consumed : Consumes left_old left_new taken
  pub whole : List StatementPart
  pub rest : List StatementPart
  pub are : parts_of taken ≡ whole ++ rest
  pub between : Option (List ℕ)
  pub replied : Appends written_old between (replies limit start whole)
  pub wrote : Wrote status limit start taken whole rest left_new between written_new

-- ---- what is left on the disk

-- the records that a run put: those of the statements that were answered whole, and after them that
-- of the one that was begun
pub record Log (limit : Given) (start : Recorded) (status : Status)
    (whole rest : List StatementPart) : Type 0 where
  pub done : List LogRecord
  pub begun_with : List LogRecord
  pub done_are : AreRecordsOf (all_puts limit start whole) done
  pub all_are : AreRecordsOf (all_puts limit start (whole ++ begun status rest))
      (done ++ begun_with)

-- all of them
abbrev pub logged_in : {limit : Given} → {start : Recorded} → {status : Status}
    → {whole rest : List StatementPart} → Log limit start status whole rest → List LogRecord
logged_in log = log.done ++ log.begun_with

-- Where the file opens as some records at the start: from the first sync on a crash leaves them and
-- a prefix of those that were put; at the exit it leaves what the status tells; and so does a read
-- give, unless the disk failed: the header, their records after one another, and a gate that is not
-- open.
pub record OnDisk (status : Status) (done log : List LogRecord) (old new : Meaning) : Type 0 where
  pub any_moment : (file : List ℕ) (opening : List LogRecord) → IsTrue old.is_honest
      → old.seen ≡ Some file → Opens file opening
      → Turns old new (OpensPrefix opening log)
  pub exit : (file : List ℕ) (opening : List LogRecord) → IsTrue old.is_honest
      → old.seen ≡ Some file → Opens file opening → (c : List ℕ) → new.may_leave c
      → EndsAs status opening done log c
  pub given : (file : List ℕ) (opening : List LogRecord) → (status ≡ DiskFault → ⊥)
      → old.seen ≡ Some file → Opens file opening
      → (c : List ℕ) × (new.seen ≡ Some c) × EndsAs status opening done log c
  pub holds : (file : List ℕ) (opening : List LogRecord) → (status ≡ DiskFault → ⊥)
      → old.seen ≡ Some file → Opens file opening
      → (c : List ℕ) × (new.seen ≡ Some c) × Holds c (records_of (opening ++ log))

-- the start is that of the records as which the file opened, where the disk tells it
abbrev pub IsOpening : Recorded → Option (List ℕ) → Type 0
IsOpening start seen = IfKnown seen (λ file. (opening : List LogRecord) × Opens file opening
    × (start ≡ recorded opening))

-- the file opened, and the script was run after its records
pub record RanOpened (limit : Given) (status : Status)
    (left_old left_new written_old written_new : Option (List ℕ)) (old new : Meaning) : Type 0 where
  pub start : Recorded
  pub opened : IsOpening start old.seen
  pub fresh : IsFresh start
  pub ran : Ran limit start status left_old left_new written_old written_new
  pub log : Log limit start status ran.whole ran.rest
  pub disk : OnDisk status log.done (logged_in log) old new

-- What was acknowledged stays, read alone. Of the bytes that were taken these statements were
-- answered whole, and these were not: what was written is the replies to the first, and after them
-- a prefix of what comes next. Each of these files opens as the opening records, and after them
-- those of all statements that were answered whole (`log`); and at most that of the next statement
-- too (`more`), which it has where a byte of the next reply was written.
pub record KeepsAnswered (limit : Given) (start : Recorded) (opening : List LogRecord)
    (left_old left_new written_old written_new : Option (List ℕ)) (files : List ℕ → Type 0) :
    Type 0 where
  pub taken : List ℕ
  pub consumed : Consumes left_old left_new taken
  pub whole : List StatementPart
  pub rest : List StatementPart
  pub are : parts_of taken ≡ whole ++ rest
  pub between : Option (List ℕ)
  pub replied : Appends written_old between (replies limit start whole)
  pub next :
      AppendsPrefix between written_new (next_reply limit (recorded_after limit start whole)
      rest).text
      ⊎ AppendsPrefix between written_new (tail_text (ending_of taken))
  pub log : List LogRecord
  pub log_are : AreRecordsOf (all_puts limit start whole) log
  pub more : List LogRecord
  pub more_are :
      AreRecordsOf (all_puts limit (recorded_after limit start whole) (take 1 rest)) more
      ⊎ (more ≡ [])
  pub held : (c : List ℕ) → files c
      → Opens c (opening ++ log) ⊎ Opens c (opening ++ (log ++ more))
  pub next_held : (written_new ≡ between)
      ⊎ ((c : List ℕ) → files c → Opens c (opening ++ (log ++ more)))

-- No byte of the script was taken, and none was written. Where each of the files before opens as the
-- opening records, so does each of these.
pub record StaysUnanswered (opening : List LogRecord)
    (left_old left_new written_old written_new : Option (List ℕ)) (before files : List ℕ → Type 0) :
    Type 0 where
  pub kept : Keeps left_old left_new
  pub wrote : written_new ≡ written_old
  pub held : ((c : List ℕ) → before c → Opens c opening) → (c : List ℕ) → files c
      → Opens c opening

-- ---- runs that read no script

-- a line was put whole, or less where the sink failed
abbrev pub PutsLine : List ℕ → Option (List ℕ) → Option (List ℕ) → ℕ → ℕ → Type 0
PutsLine line written_old written_new faults_old faults_new =
    (Appends written_old written_new line × (faults_new ≡ faults_old))
    ⊎ (AppendsLess written_old written_new line × Rose faults_old faults_new)

-- what is told of a file that was not opened: where it is damaged, and then it stayed as it was
abbrev pub ToldUnopened : Status → Option (List ℕ) → Option (List ℕ) → ℕ → ℕ → Option (List ℕ)
    → Option (List ℕ) → Type 0
ToldUnopened (NotAJournal place) written_old written_new faults_old faults_new seen_old seen_new =
    PutsLine (not_a_journal_text place) written_old written_new faults_old faults_new
    × IfKnown seen_old (λ file. Damages file place) × (seen_new ≡ seen_old)
ToldUnopened DiskFault written_old written_new faults_old faults_new seen_old seen_new =
    written_new ≡ written_old
ToldUnopened NoMemory written_old written_new faults_old faults_new seen_old seen_new =
    written_new ≡ written_old
ToldUnopened other written_old written_new faults_old faults_new seen_old seen_new = ⊥

-- The file was not opened: no byte of the script was taken. Until the first sync has succeeded a
-- crash leaves what it might have left before, and from then on the file, or at most nine bytes
-- where it had no more.
pub record NotOpened (status : Status) (left_old left_new written_old written_new : Option (List ℕ))
    (faults_old faults_new : ℕ) (old new : Meaning) : Type 0 where
  pub kept : Keeps left_old left_new
  pub told : ToldUnopened status written_old written_new faults_old faults_new old.seen new.seen
  pub disk : ((status ≡ DiskFault) × IsNotSynced old new) ⊎ KeepsFile old new

-- the disk was called: the file was not opened, or it was and the script was run
abbrev pub RunsOver : Given → Status → Option (List ℕ) → Option (List ℕ) → Option (List ℕ)
    → Option (List ℕ) → ℕ → ℕ → Meaning → Meaning → Type 0
RunsOver given status left_old left_new written_old written_new faults_old faults_new old new =
    NotOpened status left_old left_new written_old written_new faults_old faults_new old new
    ⊎ RanOpened given status left_old left_new written_old written_new old new

module _ {D : Type 0} where
  -- memory ran out before the disk was called
  pub record IsUntouched (status : Status) (left_old left_new written_old written_new : Option
      (List ℕ)) (disk_old disk_new : D) : Type 0 where
    pub memory : status ≡ NoMemory
    pub kept : Keeps left_old left_new
    pub wrote : written_new ≡ written_old
    pub disk : disk_new ≡ disk_old

  -- The words are wrong: no byte was taken, no disk was called, and the line for wrong words was
  -- put, unless memory ran out.
  pub record RefusedWords (status : Status) (left_old left_new written_old written_new : Option
      (List ℕ)) (faults_old faults_new : ℕ) (disk_old disk_new : D) : Type 0 where
    pub kept : Keeps left_old left_new
    pub disk : disk_new ≡ disk_old
    pub wrote : ((status ≡ Words) × PutsLine wrong_words_text written_old written_new faults_old
        faults_new) ⊎ ((status ≡ NoMemory) × (written_new ≡ written_old))

-- a damaged file is told with its place, unless the disk failed or memory ran out, and no byte is
-- taken
pub record RefusesFile (place : ℕ) (status : Status) (left_old left_new : Option (List ℕ)) :
    Type 0 where
  pub kept : Keeps left_old left_new
  pub status_is : (status ≡ NotAJournal place) ⊎ ((status ≡ DiskFault) ⊎ (status ≡ NoMemory))

-- ---- counts of faults

-- the source's count of faults after a run: it rose where the source failed, and else is as it was
abbrev pub SourceCounted : Status → ℕ → ℕ → Type 0
SourceCounted ReadFault old new = (old ≤ new) × Rose old new
SourceCounted other old new = new ≡ old

-- the sink's: it rose where the sink failed, and else is as it was; where the words are wrong or
-- the file is none of ours it did not fall, and what was written tells when it rose
abbrev pub SinkCounted : Status → ℕ → ℕ → Type 0
SinkCounted WriteFault old new = (old ≤ new) × Rose old new
SinkCounted Words old new = old ≤ new
SinkCounted (NotAJournal place) old new = old ≤ new
SinkCounted other old new = new ≡ old

-- the disk's: it rose where the disk failed, and else is as it was
abbrev pub DiskCounted : Status → ℕ → ℕ → Type 0
DiskCounted DiskFault old new = (old ≤ new) × Rose old new
DiskCounted other old new = new ≡ old
