-- What the records of an archive's file stand for: commands, and images of the store. And what they
-- lead to.
use Rattle.std.specs.Prelude.{◌≡◌, ℕ, Bool, true, false, List, [], ◌∷◌, length, map, None, ⊤}
use Rattle.std.specs.Prelude.{if◌then◌else◌}
use Rattle.std.specs.List.{AllByRecursion}
use Rattle.smo_ops_types.specs.Commands.{PlainCommand}
use Rattle.smo_ops_spec.specs.Accepts.{command_fault}
use Rattle.smo_ops_spec.specs.Past.{Past, beginning, past_with}
use Rattle.command_codec_spec.specs.Encoding.{command_bytes}
use Rattle.command_codec_spec.specs.Valid.{IsCommand}
use Rattle.store_image_spec.specs.Images.{Image, IsImage}
use Rattle.store_image_spec.specs.Encoding.{image_bytes}
use Rattle.store_image_spec.specs.ShownPast.{image_past}
use Rattle.journal.specs.Records.{Record, before_gate}

-- a command that was accepted, or the store at a checkpoint
pub data LogRecord : Type 0 where
  logged : PlainCommand → LogRecord
  checkpointed : Image → LogRecord

-- its kind and its payload: 1 and the command's bytes, or 2 and the image's
abbrev pub record_of : LogRecord → Record
record_of (logged command) = (1, command_bytes command)
record_of (checkpointed image) = (2, image_bytes image)

abbrev pub records_of : List LogRecord → List Record
records_of records = map record_of records

-- the place of the gate after these records
abbrev pub gate_after : List LogRecord → ℕ
gate_after records = length (before_gate (records_of records))

-- it has a spelling
abbrev pub IsEncoded : LogRecord → Type 0
IsEncoded (logged command) = IsCommand command
IsEncoded (checkpointed image) = IsImage image

abbrev pub AreEncoded : List LogRecord → Type 0
AreEncoded records = AllByRecursion IsEncoded records

-- all commands, in order
abbrev pub commands_in : List LogRecord → List PlainCommand
commands_in [] = []
commands_in (logged command ∷ records) = command ∷ commands_in records
commands_in (checkpointed image ∷ records) = commands_in records

-- an image stands among them
abbrev pub has_image : List LogRecord → Bool
has_image [] = false
has_image (logged command ∷ records) = has_image records
has_image (checkpointed image ∷ records) = true

-- the commands after the last image; all of them, where there is none
abbrev pub replayed_in : List LogRecord → List PlainCommand
replayed_in [] = []
replayed_in (logged command ∷ records) = if has_image records then replayed_in records
    else command ∷ commands_in records
replayed_in (checkpointed image ∷ records) = replayed_in records

-- how many these are
abbrev pub replayed_of : List LogRecord → ℕ
replayed_of records = length (replayed_in records)

-- ---- pasts

-- the past with the command; or the one that the image shows, in which the commands before it are
-- counted
abbrev pub after_record : Past → LogRecord → Past
after_record past (logged command) = past_with past command
after_record past (checkpointed image) = image_past past.commands image

-- after records, one after the other
abbrev pub after_records : Past → List LogRecord → Past
after_records past [] = past
after_records past (r ∷ records) = after_records (after_record past r) records

abbrev pub past_recorded : List LogRecord → Past
past_recorded records = after_records beginning records

-- each command after the last image is accepted after what stands before it
abbrev pub AreAccepted : Past → List LogRecord → Type 0
AreAccepted past [] = ⊤
AreAccepted past (logged command ∷ records) =
    (has_image records ≡ false → command_fault past command ≡ None)
    × AreAccepted (past_with past command) records
AreAccepted past (checkpointed image ∷ records) =
    AreAccepted (image_past past.commands image) records

-- each command is accepted after those before it, and each image shows just the past before it
abbrev pub AreSound : Past → List LogRecord → Type 0
AreSound past [] = ⊤
AreSound past (logged command ∷ records) = (command_fault past command ≡ None)
    × AreSound (past_with past command) records
AreSound past (checkpointed image ∷ records) = (image_past past.commands image ≡ past)
    × AreSound past records
