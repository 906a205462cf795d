-- What the file of an archive stands for: records of commands and images, after the last of which
-- each command is accepted after those before it; or where it is damaged.
use Rattle.std.specs.Prelude.{◌≡◌, ◌⊎◌, ℕ, ◌+◌, ◌-◌, List, ◌∷◌, ◌++◌, length, Some, false}
use Rattle.prima_base.specs.declared.refusal.Refusal.{Refusal}
use Rattle.smo_ops_types.specs.Commands.{PlainCommand}
use Rattle.smo_ops_spec.specs.Accepts.{command_fault}
use Rattle.smo_ops_spec.specs.Past.{beginning}
use Rattle.command_codec_spec.specs.Found.{IsDecoding, bad_at, rest_at}
use Rattle.command_codec_spec.specs.Reading.{Unexpected}
use Rattle.store_image_spec.specs.Reader as reader
use Rattle.journal.specs.Records.{Record, StandsFor}
use Rattle.journal.specs.Damage.{IsDamagedAt}
use Rattle.archive_core_file_spec.specs.LogRecords.{LogRecord, logged, records_of, gate_after}
use Rattle.archive_core_file_spec.specs.LogRecords.{AreEncoded}
use Rattle.archive_core_file_spec.specs.LogRecords.{has_image, past_recorded, AreAccepted, AreSound}

-- the bytes are no command's, at this place in them
abbrev pub IsNoCommandAt : List ℕ → ℕ → Type 0
IsNoCommandAt bytes place = IsDecoding bytes (bad_at place) ⊎ IsDecoding bytes (rest_at place)

-- the bytes are no image's, at this place in them: there stands the first byte of what is not as it
-- must be
abbrev pub IsNoImageAt : List ℕ → ℕ → Type 0
IsNoImageAt bytes place = (rest : List ℕ) × (reader.image bytes ≡ Unexpected rest)
    × (place ≡ length bytes - length rest)

-- the payload of the record is none of its kind, at this place in it
abbrev pub IsRefusedAt : Record → ℕ → Type 0
IsRefusedAt r place = ((r.0 ≡ 1) × IsNoCommandAt r.1 place) ⊎ ((r.0 ≡ 2) × IsNoImageAt r.1 place)

-- after records that are spelled stands one whose payload is none of its kind: the file is damaged
-- where this is refused
pub record HasNoEncodingAt (records : List Record) (place : ℕ) : Type 0 where
  pub before : List LogRecord
  pub refused : Record
  pub after : List Record
  pub records_are : records ≡ records_of before ++ refused ∷ after
  pub encoded : AreEncoded before
  pub within : ℕ
  pub is_refused : IsRefusedAt refused within
  pub place_is : place ≡ gate_after before + 10 + within

-- all are spelled, and after the last image a command is not accepted after what stands before it:
-- the file is damaged at its gate
pub record HasRefusedAt (records : List Record) (place : ℕ) : Type 0 where
  pub before : List LogRecord
  pub command : PlainCommand
  pub after : List LogRecord
  pub records_are : records ≡ records_of (before ++ logged command ∷ after)
  pub encoded : AreEncoded (before ++ logged command ∷ after)
  pub accepted : AreAccepted beginning before
  pub no_image : has_image after ≡ false
  pub refusal : Refusal
  pub refused : command_fault (past_recorded before) command ≡ Some refusal
  pub place_is : place ≡ gate_after before

-- a file of whole records is damaged by a payload, and where there is none such, by a command
abbrev pub HasFaultAt : List Record → ℕ → Type 0
HasFaultAt records place = HasNoEncodingAt records place ⊎ HasRefusedAt records place

pub record IsFaultyAt (file : List ℕ) (place : ℕ) : Type 0 where
  pub records : List Record
  pub stands : StandsFor file records
  pub fault : HasFaultAt records place

-- where a file is damaged: its frames first, then its payloads, then its commands
abbrev pub Damages : List ℕ → ℕ → Type 0
Damages file place = IsDamagedAt file place ⊎ IsFaultyAt file place

-- the records that a file stands for, after the last image of which each command is accepted after
-- those before it
pub record Opens (file : List ℕ) (records : List LogRecord) : Type 0 where
  pub stands : StandsFor file (records_of records)
  pub encoded : AreEncoded records
  pub accepted : AreAccepted beginning records

-- it is sound where each command is accepted after those before it, and each image shows just the
-- past of the commands before it
pub record IsSound (file : List ℕ) (records : List LogRecord) : Type 0 where
  pub stands : StandsFor file (records_of records)
  pub encoded : AreEncoded records
  pub sound : AreSound beginning records
