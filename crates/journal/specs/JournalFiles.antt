-- A journal over a disk.
use Rattle.std.specs.Prelude.{◌≡◌, ◌⊎◌, ℕ, ◌+◌, ◌<◌, List, [], ◌∷◌, ◌++◌, length, Some}
use Rattle.disk_model.specs.Meaning.{Meaning, Only, IfKnown}
use Rattle.disk_model.specs.DeviceCalls.{with_bytes}
use Rattle.journal.specs.Records.{Record, Holds, before_gate, body}
use Rattle.journal.specs.Sealing.{record_in}
use Rattle.journal.specs.declared.sealed.Sealed.{Sealed}

-- what a read gives holds these records, its closed gate is at this place, and all of it is on the
-- disk: a crash leaves just that
pub record Stands (d : Meaning) (at : ℕ) (rs : List Record) : Type 0 where
  pub file : List ℕ
  pub seen : d.seen ≡ Some file
  pub holds : Holds file rs
  pub place : at ≡ length (before_gate rs)
  pub durable : Only file d.may_leave

-- what a read gives, where the disk tells it, reaches past the gate at this place
abbrev pub HasGate : Meaning → ℕ → Type 0
HasGate d at = IfKnown d.seen (λ file. at < length file)

abbrev pub sealed_bytes : Sealed → List ℕ
sealed_bytes s = s.bytes.items

abbrev pub sealed_record : Sealed → Record
sealed_record s = record_in (sealed_bytes s)

-- how many bytes a put writes: the gate, the kind, the length, the payload, and the next gate
abbrev pub needs : Record → ℕ
needs r = 11 + length r.1

-- the file with this record after the gate at this place, which is opened, and a closed gate
-- after the record
abbrev pub with_record : List ℕ → ℕ → Record → List ℕ
with_record file at r = with_bytes file at (1 ∷ (body r ++ 0 ∷ []))

-- with the record or without it
abbrev pub WithOrWithout : List Record → Record → List ℕ → Type 0
WithOrWithout rs r file = Holds file rs ⊎ Holds file (rs ++ r ∷ [])
