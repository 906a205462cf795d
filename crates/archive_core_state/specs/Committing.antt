-- What an archive answers to a command.
use Rattle.std.specs.Prelude.{◌≡◌, ℕ, length, Option, Some, None, Result, Ok, Err}
use Rattle.prima_base.specs.declared.fault.CallFault.{CallFault}
use Rattle.prima_base.specs.declared.fault.CallFault.TheVariants.{Refused, NoMemory}
use Rattle.prima_base.specs.declared.refusal.Refusal.{Refusal}
use Rattle.smo_ops_types.specs.Commands.{PlainBody, changing, evolving, PlainCommand}
use Rattle.smo_ops_spec.specs.Accepts.{command_fault}
use Rattle.smo_ops_spec.specs.Past.{Past, past_with}
use Rattle.version_groups.specs.Room.{IsSame}
use Rattle.version_groups.specs.Steps.{rows_gained, rows_lost}
use Rattle.archive_core_state.specs.declared.archive.Done.{Done}
use Rattle.archive_core_state.specs.ArchiveContents.{ArchiveContent, RepresentsPast}

-- the newest version, where the command made it
abbrev pub version_made : PlainBody → ℕ → Option ℕ
version_made (changing changes) newest = None
version_made (evolving op inverse) newest = Some newest

-- what an accepted command did after the past
pub record IsDone (past : Past) (command : PlainCommand) (done : Done) : Type 0 where
  pub stamp : done.stamp ≡ command.stamp
  pub gained : done.gained ≡ rows_gained past command.body
  pub lost : done.lost ≡ rows_lost past command.body
  pub version : done.version ≡ version_made command.body (length (past_with past command).versions)

-- the archive is as it was, but for room that was made
pub record IsAsBefore (old new : ArchiveContent) : Type 0 where
  pub groups : IsSame old.groups new.groups
  pub last : new.last ≡ old.last

-- an accepted command was carried out, and the archive represents the past with it; another is
-- refused by its first refusal, and the archive is what it was; where memory runs out it is as it
-- was, too, and represents the past that it did
abbrev pub Accepts : Past → PlainCommand → ArchiveContent → Result Done (CallFault Refusal)
    → ArchiveContent → Type 0
Accepts past command old (Ok done) new = (command_fault past command ≡ None)
    × IsDone past command done × RepresentsPast new (past_with past command)
Accepts past command old (Err (Refused r)) new = (command_fault past command ≡ Some r) × (new ≡ old)
Accepts past command old (Err NoMemory) new = IsAsBefore old new × RepresentsPast new past
