-- Records read as what they stand for.
use Rattle.std.specs.Prelude.{◌≡◌, ◌⊎◌, ℕ, ◌+◌, ◌<◌, ◌^◌, Bool, true, List, [], ◌∷◌, ◌++◌, length}
use Rattle.std.specs.Prelude.{map}
use Rattle.smo_ops_types.specs.Commands.{command_of, PlainCommand}
use Rattle.store_image_spec.specs.Images.{Image}
use Rattle.journal.specs.Records.{Record, IsKnown}
use Rattle.journal.specs.Reading.{record_of as plain_record}
use Rattle.journal.specs.declared.rec.Rec.{Rec}
use Rattle.archive_core_file_spec.specs.LogRecords.{LogRecord, logged, checkpointed, records_of}
use Rattle.archive_core_file_spec.specs.LogRecords.{AreEncoded}
use Rattle.archive_core_file_spec.specs.LogRecords.{commands_in, past_recorded}
use Rattle.archive_core_file_spec.specs.Opening.{IsRefusedAt}
use Rattle.archive_core_state.specs.ArchiveContents.{RepresentsPast}
use Rattle.archive_core_replay.specs.declared.record_reader.ReadRecords.{ReadRecords}

-- the payload of the record at this gate is none of its kind, and this is where it is refused, by
-- its place in the file
pub record IsRefusedIn (at : ℕ) (r : Record) (place : ℕ) : Type 0 where
  pub within : ℕ
  pub refused : IsRefusedAt r within
  pub place_is : at + 10 + length r.1 < 2 ^ 64 → place ≡ at + 10 + within

-- there is none, or an image is the last
abbrev pub EndsWithImage : List LogRecord → Type 0
EndsWithImage log = (log ≡ []) ⊎ ((before : List LogRecord) × (i : Image)
    × (log ≡ before ++ checkpointed i ∷ []))

abbrev pub commands_kept : ReadRecords → List PlainCommand
commands_kept kept = map command_of kept.commands.items

-- records that were checked: all are spelled, and so many of them are commands
pub record AreChecked (records : List Record) (count : ℕ) : Type 0 where
  pub log : List LogRecord
  pub encoded : AreEncoded log
  pub records_are : records ≡ records_of log
  pub counted : count ≡ length (commands_in log)

-- what is kept of records that were read: the archive that the last image shows, or the empty one,
-- the commands after the image, and how many commands there are in all
pub record AreKept (records : List Record) (kept : ReadRecords) : Type 0 where
  pub prefix : List LogRecord
  pub ends : EndsWithImage prefix
  pub encoded : AreEncoded (prefix ++ map logged (commands_kept kept))
  pub records_are : records ≡ records_of (prefix ++ map logged (commands_kept kept))
  pub represents : RepresentsPast kept.state (past_recorded prefix)
  pub counted : kept.count ≡ length (commands_in (prefix ++ map logged (commands_kept kept)))

-- one record was read: it was checked after those before it; the last image takes the place of what
-- was kept; and after it a command is kept
pub record IsRead (rec : Rec) (is_after : Bool) (old new : ReadRecords) : Type 0 where
  pub checked : IsKnown rec.kind → (records : List Record) → AreChecked records old.count
      → AreChecked (records ++ plain_record rec ∷ []) new.count
  pub image : is_after ≡ true → rec.kind ≡ 2 → (records : List Record) → AreChecked records old.count
      → AreKept (records ++ plain_record rec ∷ []) new
  pub kept : is_after ≡ true → IsKnown rec.kind → (records : List Record) → AreKept records old
      → AreKept (records ++ plain_record rec ∷ []) new
