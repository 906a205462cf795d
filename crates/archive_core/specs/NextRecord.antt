-- When a journal takes the next record.
use Rattle.std.specs.Prelude.{◌≡◌, ℕ, ◌<◌, Bool, false, Option, Some, None, List, length}
use Rattle.std.proofs.Props.{props}
use Rattle.disk_model.specs.Meaning.{IfKnown}
use Rattle.disk_model.specs.declared.disk.Disk.{Ghosts}
use Rattle.journal.specs.Fields.{below, place_of}
use Rattle.journal.specs.JournalFiles.{HasGate}
use Rattle.journal.specs.declared.journal.Journal.{Journal}

module _ {D : Type 0} {g : Ghosts D} where
  -- what a read of its disk gives reaches past its gate, unless a call has answered that the disk
  -- failed
  abbrev pub HasGateUnless : Bool → Journal D g → Type 0
  HasGateUnless broken journal = broken ≡ false → HasGate (below journal) (place_of journal)

-- ---- it is no data: there is at most one proof of it

told_once : (seen : Option (List ℕ)) (at : ℕ) → IsProp (IfKnown seen (λ file. at < length file))
told_once None at = hlevel props
told_once (Some file) at = hlevel props

pub gate_once : {D : Type 0} {g : Ghosts D} (broken : Bool) (journal : Journal D g)
    → IsProp (HasGateUnless broken journal)
gate_once broken journal = hlevel (props, told_once (below journal).seen (place_of journal))
