-- What an archive on a disk answers to a command.
use Rattle.std.specs.Prelude.{◌≡◌, ℕ, ◌+◌, ◌∷◌, [], nat_le, Some, None, Result, Ok, Err, ⊤}
use Rattle.prima_base.specs.declared.refusal.Refusal.TheVariants.{JournalFull}
use Rattle.smo_ops_types.specs.Commands.{PlainCommand}
use Rattle.smo_ops_spec.specs.First.{unless, first_refusal}
use Rattle.smo_ops_spec.specs.Checks.{Fault}
use Rattle.smo_ops_spec.specs.Past.{Past, past_with}
use Rattle.journal.specs.Records.{Record}
use Rattle.journal.specs.JournalFiles.{needs}
use Rattle.journal.specs.declared.sealed.Sealed.{Sealed}
use Rattle.archive_core_file_spec.specs.LogRecords.{logged, record_of}
use Rattle.archive_core_replay.specs.Memory.{AcceptedCommand, Done, IsAcceptedAfter}
use Rattle.archive_core_replay.specs.Memory.{new_command_fault, ArchiveContent, RepresentsPast}
use Rattle.archive_core_replay.specs.Memory.{IsAsBefore, IsDone}
use Rattle.archive_core.specs.declared.fault.CommitFault.{CommitFault}
use Rattle.archive_core.specs.declared.fault.CommitFault.TheVariants.{Broken, Refused, Disk}
use Rattle.archive_core.specs.declared.fault.CommitFault.TheVariants.{NoMemory}

-- so many bytes, put after the gate at `at`, end within the limit
abbrev pub need_fault : ℕ → ℕ → ℕ → Fault
need_fault at limit need = unless (nat_le (at + need) limit) (JournalFull at need limit)

-- so does the record
abbrev pub room_fault : ℕ → ℕ → Record → Fault
room_fault at limit r = need_fault at limit (needs r)

-- the refusal of a new command by its past and by its width, and after all others that its record
-- does not fit
abbrev pub commit_fault : Past → ℕ → ℕ → PlainCommand → Fault
commit_fault past at limit command = first_refusal
    (new_command_fault past command ∷ room_fault at limit (record_of (logged command)) ∷ [])

-- the archive in memory is as it was, but for room that was made, and represents the past that it
-- did
pub record IsUnchanged (past : Past) (old new : ArchiveContent) : Type 0 where
  pub same : IsAsBefore old new
  pub represents : RepresentsPast new past

-- An accepted command whose record fits leads to the next past, and is answered Ok, or Disk where
-- the disk fails. Another is refused by its first refusal. In memory all is as it was, but after
-- Ok.
abbrev pub Commits : Past → PlainCommand → ℕ → ℕ → ArchiveContent → Result Done CommitFault
    → ArchiveContent → Type 0
Commits past command at limit old (Ok done) new = (commit_fault past at limit command ≡ None)
    × IsDone past command done × RepresentsPast new (past_with past command)
Commits past command at limit old (Err (Refused r)) new =
    (commit_fault past at limit command ≡ Some r) × IsUnchanged past old new
Commits past command at limit old (Err Disk) new = (commit_fault past at limit command ≡ None)
    × IsUnchanged past old new
Commits past command at limit old (Err Broken) new = new ≡ old
Commits past command at limit old (Err NoMemory) new = IsUnchanged past old new

-- a command that is accepted was checked, and this was found; another is refused by its first
-- refusal
abbrev pub IsCommandChecked : Past → PlainCommand → Result (AcceptedCommand × Sealed) CommitFault
    → Type 0
IsCommandChecked past command (Ok it) = (new_command_fault past command ≡ None)
    × IsAcceptedAfter past it.0
IsCommandChecked past command (Err (Refused r)) = new_command_fault past command ≡ Some r
IsCommandChecked past command (Err Disk) = ⊥
IsCommandChecked past command (Err Broken) = ⊥
IsCommandChecked past command (Err NoMemory) = ⊤

-- a record that fits is put, or else the disk fails; another is refused
abbrev pub IsPut : Record → ℕ → ℕ → Result (Unit {0}) CommitFault → Type 0
IsPut r at limit (Ok done) = room_fault at limit r ≡ None
IsPut r at limit (Err (Refused refusal)) = room_fault at limit r ≡ Some refusal
IsPut r at limit (Err Disk) = room_fault at limit r ≡ None
IsPut r at limit (Err Broken) = ⊥
IsPut r at limit (Err NoMemory) = ⊥
