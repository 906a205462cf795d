-- What accepted statements are to put: a command, or at a checkpoint an image of the past that
-- stands there. And the records of it.
use Rattle.std.specs.Prelude.{◌≡◌, ℕ, List, [], ◌∷◌, length, ⊤}
use Rattle.smo_ops_types.specs.Commands.{PlainCommand}
use Rattle.smo_ops_spec.specs.Past.{Past, past_with}
use Rattle.command_codec_spec.specs.Encoding.{command_bytes}
use Rattle.store_image_spec.specs.Lengths.{image_length}
use Rattle.script_cli_vault.specs.ArchiveOnDisk.{IsImageOf}
use Rattle.archive_core_file_spec.specs.LogRecords.{LogRecord, logged, checkpointed}

pub data Due : Type 0 where
  command_due : PlainCommand → Due
  image_due : Past → Due

-- how many bytes its record keeps
abbrev pub due_length : Due → ℕ
due_length (command_due command) = length (command_bytes command)
due_length (image_due past) = image_length past

-- the past after it: an image changes none
abbrev pub past_after_due : Past → Due → Past
past_after_due now (command_due command) = past_with now command
past_after_due now (image_due past) = now

-- the commands among what is due
abbrev pub commands_due : List Due → List PlainCommand
commands_due [] = []
commands_due (command_due command ∷ due) = command ∷ commands_due due
commands_due (image_due past ∷ due) = commands_due due

-- the record has just this command, or an image that shows just this past
abbrev pub IsRecordOf : Due → LogRecord → Type 0
IsRecordOf (command_due command) (logged c) = c ≡ command
IsRecordOf (command_due command) (checkpointed image) = ⊥
IsRecordOf (image_due past) (logged c) = ⊥
IsRecordOf (image_due past) (checkpointed image) = IsImageOf past image

-- the records of all that is due, in its order
abbrev pub AreRecordsOf : List Due → List LogRecord → Type 0
AreRecordsOf [] [] = ⊤
AreRecordsOf [] (r ∷ log) = ⊥
AreRecordsOf (d ∷ due) [] = ⊥
AreRecordsOf (d ∷ due) (r ∷ log) = IsRecordOf d r × AreRecordsOf due log

-- the records of the first of it, of all of it or of none
abbrev pub AreFirstOf : List Due → List LogRecord → Type 0
AreFirstOf due [] = ⊤
AreFirstOf [] (r ∷ log) = ⊥
AreFirstOf (d ∷ due) (r ∷ log) = IsRecordOf d r × AreFirstOf due log
