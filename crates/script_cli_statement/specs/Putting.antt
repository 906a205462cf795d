-- Records that are put on a disk, one after the other.
use Rattle.std.specs.Prelude.{◌≡◌, IsTrue, ℕ, List, [], ◌∷◌, ◌++◌}
use Rattle.disk_model.specs.Meaning.{Meaning}
use Rattle.disk_model.specs.Moments.{GoesOn}
use Rattle.journal.specs.JournalFiles.{Stands}
use Rattle.journal.specs.Puts.{HavePut, Puts}
use Rattle.archive_core_file_spec.specs.LogRecords.{LogRecord, record_of, records_of, IsEncoded}
use Rattle.archive_core_file_spec.specs.LogRecords.{AreEncoded}
use Rattle.script_cli_vault.specs.ArchiveOnDisk.{HoldsAt}
use Rattle.script_cli_statement.specs.Due.{Due, IsRecordOf}

-- These were put after the gate at `at`, each answered Ok, and the gate after them is at `next`:
-- where the disk held some records, it now holds these after them; and of an honest disk, where a
-- crash left just those, it leaves at each moment a prefix of these after them, and now all.
pub record HasPut (old new : Meaning) (at next : ℕ) (log : List LogRecord) : Type 0 where
  pub encoded : AreEncoded log
  pub goes : GoesOn old new
  pub holds : (opening : List LogRecord) → HoldsAt old at (records_of opening)
      → HoldsAt new next (records_of (opening ++ log))
  pub have : (opening : List LogRecord) → IsTrue old.is_honest → Stands old at (records_of opening)
      → HavePut old new next (records_of opening) (records_of log)

-- one thing is due, its record was to be put, and the disk failed
pub record MayHavePut (old new : Meaning) (at : ℕ) (due : List Due) : Type 0 where
  pub what : Due
  pub due_is : due ≡ what ∷ []
  pub its_record : LogRecord
  pub is_its : IsRecordOf what its_record
  pub encoded : IsEncoded its_record
  pub puts_it : Puts old new at (record_of its_record)
