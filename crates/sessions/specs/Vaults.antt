-- What a vault answers to a command of changes, and to a query.
use Rattle.std.specs.Prelude.{◌≡◌, ℕ, Some, None, Result, Ok, Err, ⊤}
use Rattle.std.specs.declared.vec.Vec.{Vec}
use Rattle.std.specs.declared.alloc.Global.{Global}
use Rattle.smo_ops_types.specs.Commands.{PlainBody, changing, evolving, PlainCommand}
use Rattle.smo_ops_spec.specs.Past.{Past}
use Rattle.temporal_lang_types.specs.Queries.{PlainQuery}
use Rattle.temporal_lang_spec.specs.Accepted.{fault_of_query}
use Rattle.temporal_lang_spec.specs.Answers.{answer}
use Rattle.sessions.specs.declared.vault.KeptRow.{KeptRow}
use Rattle.sessions.specs.declared.vault.VaultDone.{VaultDone}
use Rattle.sessions.specs.declared.vault.VaultFault.{VaultFault}
use Rattle.sessions.specs.declared.vault.VaultFault.TheVariants.{Refused, Broken, Disk, NoMemory}
use Rattle.sessions.specs.Kept.{kept_entries}
use Rattle.sessions.specs.Shared.{Shared, shared_with}
use Rattle.sessions.specs.Steps.{fault_of_command, gained_by, lost_by}

-- the command changes rows, and makes no version
abbrev pub IsOfChanges : PlainBody → Type 0
IsOfChanges (changing changes) = ⊤
IsOfChanges (evolving op inverse) = ⊥

-- what an accepted command did after the past
pub record IsDone (past : Past) (command : PlainCommand) (done : VaultDone) : Type 0 where
  pub stamp : done.stamp ≡ command.stamp
  pub gained : done.gained ≡ gained_by past command
  pub lost : done.lost ≡ lost_by past command

-- after the disk failed the past is still shown
abbrev pub ShowsPast : (Shared → Type 0) → Past → Type 0
ShowsPast shows past = (shared : Shared) × (shared.past ≡ past) × shows shared

-- An accepted command whose record fits leads to the next past, and is answered Ok, or Disk where
-- the disk fails. Another is refused by its first refusal. What is shown is as it was, but after
-- Ok.
abbrev pub Commits : (PlainCommand → ℕ) → Shared → PlainCommand → Result VaultDone VaultFault
    → (Shared → Type 0) → Type 0
Commits needs shared command (Ok done) shows = (fault_of_command needs shared command ≡ None)
    × IsDone shared.past command done × shows (shared_with (needs command) command shared)
Commits needs shared command (Err (Refused r)) shows =
    (fault_of_command needs shared command ≡ Some r) × shows shared
Commits needs shared command (Err Disk) shows = (fault_of_command needs shared command ≡ None)
    × ShowsPast shows shared.past
Commits needs shared command (Err Broken) shows = shows shared
Commits needs shared command (Err NoMemory) shows = shows shared

-- the one listing of a query, or its first refusal
abbrev pub IsListed : Past → PlainQuery → Result (Vec KeptRow Global) VaultFault → Type 0
IsListed past query (Ok rows) = (fault_of_query past query ≡ None)
    × (kept_entries rows.items ≡ answer past query)
IsListed past query (Err (Refused r)) = fault_of_query past query ≡ Some r
IsListed past query (Err Disk) = ⊥
IsListed past query (Err Broken) = ⊥
IsListed past query (Err NoMemory) = ⊤
