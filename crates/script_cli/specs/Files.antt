-- The files that a run may leave.
use Rattle.std.specs.Prelude.{◌⊎◌, ◌≤◌, ℕ, List, ◌++◌, length, take}
use Rattle.disk_model.specs.Meaning.{Meaning}
use Rattle.disk_model.specs.Moments.{UntilSynced}
use Rattle.archive_core_file_spec.specs.LogRecords.{LogRecord}
use Rattle.archive_core_file_spec.specs.Opening.{Opens, IsSound}
use Rattle.script_cli_statement.specs.Due.{Due, AreFirstOf}
use Rattle.script_cli.specs.declared.status.Status.{Status}
use Rattle.script_cli.specs.declared.status.Status.TheVariants.{DiskFault}

-- the file opens as the opening records, and after them the first so many of those that were to be
-- put, in their order
abbrev pub OpensPrefix : List LogRecord → List LogRecord → List ℕ → Type 0
OpensPrefix opening log c = (n : ℕ) × (n ≤ length log) × Opens c (opening ++ take n log)

-- The file with which a run ends: it opens as the opening records with those that were put. Where
-- the disk failed, as these, or as these but for the one at which it failed.
abbrev pub EndsAs : Status → List LogRecord → List LogRecord → List LogRecord → List ℕ → Type 0
EndsAs DiskFault opening done log c = Opens c (opening ++ done) ⊎ Opens c (opening ++ log)
EndsAs other opening done log c = Opens c (opening ++ log)

-- There are records of the first of what is due. Until the first sync has succeeded a crash leaves
-- what it might have left at the call's start, and from then on, at each moment, a file that opens
-- as the opening records and a prefix of these.
abbrev pub LeavesPrefix : Meaning → Meaning → List LogRecord → List Due → Type 0
LeavesPrefix old new opening due = (log : List LogRecord) × AreFirstOf due log
    × UntilSynced old new (OpensPrefix opening log)

-- the file opens as some records: a run may begin with it
abbrev pub CanBeRun : List ℕ → Type 0
CanBeRun file = (log : List LogRecord) × Opens file log

-- the file is sound: each of its images shows just the past of the commands before it
abbrev pub IsSoundFile : List ℕ → Type 0
IsSoundFile file = (log : List LogRecord) × IsSound file log
