-- The commands of a file after its last image, carried out one after the other.
use Rattle.std.specs.Prelude.{◌≡◌, ℕ, List, ◌∷◌, ◌++◌, length, slice_index_or, Some, None, Result}
use Rattle.std.specs.Prelude.{Ok, Err, ⊤}
use Rattle.prima_base.specs.declared.refusal.Refusal.{Refusal}
use Rattle.smo_ops_types.specs.Commands.{PlainCommand}
use Rattle.smo_ops_spec.specs.Accepts.{command_fault}
use Rattle.smo_ops_spec.specs.Past.{Past, past_with}
use Rattle.smo_ops_spec.specs.History.{AllAccepted, past_after}
use Rattle.journal.specs.declared.rec.Rec.{Rec}
use Rattle.archive_core_state.specs.ArchiveContents.{ArchiveContent, RepresentsPast}
use Rattle.archive_core_replay.specs.declared.fault.RestoreFault.{RestoreFault}
use Rattle.archive_core_replay.specs.declared.fault.RestoreFault.TheVariants.{Damaged, NoMemory}

-- an accepted command leads to the next past; another damages the file at its gate
abbrev pub Replays : Past → PlainCommand → ℕ → Result (Unit {0}) RestoreFault → ArchiveContent
    → Type 0
Replays past command at (Ok done) new = (command_fault past command ≡ None)
    × RepresentsPast new (past_with past command)
Replays past command at (Err (Damaged place)) new = (place ≡ at)
    × ((r : Refusal) × (command_fault past command ≡ Some r))
Replays past command at (Err NoMemory) new = ⊤

-- one of the commands is not accepted after the past and those before it, and this is its gate's
-- place
pub record IsStoppedAt (past : Past) (commands : List PlainCommand) (recs : List Rec) (place : ℕ) :
    Type 0 where
  pub before : List PlainCommand
  pub command : PlainCommand
  pub after : List PlainCommand
  pub are : commands ≡ before ++ command ∷ after
  pub accepted : AllAccepted past before
  pub refusal : Refusal
  pub refused : command_fault (past_after past before) command ≡ Some refusal
  pub place_is : (d : Rec) → place ≡ (slice_index_or recs (length before) d).at

-- all are accepted, and the archive represents the past with them
pub record IsReplayed (past : Past) (commands : List PlainCommand) (archive : ArchiveContent) :
    Type 0 where
  pub accepted : AllAccepted past commands
  pub represents : RepresentsPast archive (past_after past commands)
