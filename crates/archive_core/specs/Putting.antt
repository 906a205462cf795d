-- What a call on an archive leaves on the disk that puts a record, by its answer.
use Rattle.std.specs.Prelude.{◌≡◌, ℕ, ◌+◌, List, ◌++◌, ◌∷◌, [], IfErr, OnOk, Result, Err}
use Rattle.prima_io.specs.Causes.{Rose}
use Rattle.disk_model.specs.Meaning.{BothKnown}
use Rattle.disk_model.specs.declared.disk.Disk.{Ghosts}
use Rattle.journal.specs.Puts.{Puts, Acknowledges}
use Rattle.journal.specs.Records.{Record}
use Rattle.journal.specs.JournalFiles.{needs, with_record}
use Rattle.archive_core.specs.Fields.{disk_of, below, place_of}
use Rattle.archive_core.specs.DiskReads.{HoldsAt}
use Rattle.archive_core.specs.declared.archive.Archive.{Archive}
use Rattle.archive_core.specs.declared.fault.CommitFault.{CommitFault}
use Rattle.archive_core.specs.declared.fault.CommitFault.TheVariants.{Disk}

module _ {D : Type 0} {g : Ghosts D} where
  -- at each moment of the call a crash leaves the records before, with this one or without
  abbrev pub PutsRecord : Record → Archive D g → Archive D g → Type 0
  PutsRecord r old new = Puts (below old) (below new) (place_of old) r

  module _ {T : Type 0} where
    -- after another answer than Ok and Disk the disk and the place of its gate are as they were
    abbrev pub LeavesDisk : Result T CommitFault → Archive D g → Archive D g → Type 0
    LeavesDisk answer old new = IfErr answer (λ e. (e ≡ Disk → ⊥)
        → (disk_of new ≡ disk_of old) × (place_of new ≡ place_of old))

    -- after Ok the gate stands after the record
    abbrev pub MovesGate : Record → Result T CommitFault → Archive D g → Archive D g → Type 0
    MovesGate r answer old new = OnOk answer (place_of new + 1 ≡ place_of old + needs r)

    -- after Ok a read gives the file with the record, where the disk tells it
    abbrev pub WritesRecord : Record → Result T CommitFault → Archive D g → Archive D g → Type 0
    WritesRecord r answer old new = OnOk answer (BothKnown (λ before after.
        after ≡ with_record before (place_of old) r) (below old).seen (below new).seen)

    -- after Ok a read gives the records before and this one
    abbrev pub HoldsRecord : Record → Result T CommitFault → Archive D g → Archive D g → Type 0
    HoldsRecord r answer old new = OnOk answer ((rs : List Record)
        → HoldsAt (below old) (place_of old) rs → HoldsAt (below new) (place_of new) (rs ++ r ∷ []))

    -- Disk comes only where the disk's count of faults rose
    abbrev pub IsDisksFault : Result T CommitFault → Archive D g → Archive D g → Type 0
    IsDisksFault answer old new = answer ≡ Err Disk → Rose (below old).faults (below new).faults

    -- with another answer the count is as it was
    abbrev pub IsUnfailed : Result T CommitFault → Archive D g → Archive D g → Type 0
    IsUnfailed answer old new = (answer ≡ Err Disk → ⊥)
        → (below new).faults ≡ (below old).faults

    -- after Ok every crash leaves the record
    abbrev pub KeepsRecord : Record → Result T CommitFault → Archive D g → Archive D g → Type 0
    KeepsRecord r answer old new = OnOk answer (Acknowledges (below old) (below new) (place_of old)
        (place_of new) r)
