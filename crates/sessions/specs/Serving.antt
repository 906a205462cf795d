-- What a call of sessions answers, and what they have after it.
use Rattle.std.specs.Prelude.{◌≡◌, ℕ, ◌⊎◌, List, [], Option, Some, None, Result, Ok, Err, ⊤}
use Rattle.smo_ops_types.specs.Changes.{PlainChange}
use Rattle.smo_ops_types.specs.Commands.{PlainCommand, command_of}
use Rattle.sessions.specs.declared.vault.VaultDone.{VaultDone}
use Rattle.sessions.specs.declared.vault.VaultFault.{VaultFault}
use Rattle.sessions.specs.declared.vault.VaultFault.TheVariants as fault
use Rattle.sessions.specs.Shared.{Shared}
use Rattle.sessions.specs.SessionStates.{PlainTransaction, PlainSessions}
use Rattle.sessions.specs.Requests.{Request, committing}
use Rattle.sessions.specs.Steps.{Answer, committed, committed_nothing, World}
use Rattle.sessions.specs.Steps.{fault_of, answer_of, sessions_after, shared_then}
use Rattle.sessions.specs.Steps.{command_at, changes_so_far, schema_fault}
use Rattle.smo_ops_types.specs.declared.command.Body.{Body}
use Rattle.sessions.specs.Vaults.{ShowsPast}

module _ (needs : PlainCommand → ℕ) where
  -- A request that is not refused is answered as the definition says, and the sessions then have
  -- what it says. Another is refused by its refusal. They have what they had, but after Ok.
  abbrev pub Serves : {A : Type 0} → (A → Answer) → World → ℕ → Request → Result A VaultFault
      → PlainSessions → Type 0
  Serves said w s request (Ok a) new = (fault_of needs w s request ≡ None)
      × (said a ≡ answer_of needs w s request) × (new ≡ sessions_after needs w s request)
  Serves said w s request (Err (fault.Refused r)) new = (fault_of needs w s request ≡ Some r)
      × (new ≡ w.sessions)
  Serves said w s request (Err fault.NoMemory) new = new ≡ w.sessions
  Serves said w s request (Err fault.Broken) new = ⊥
  Serves said w s request (Err fault.Disk) new = ⊥

  abbrev pub said_of_commit : Option VaultDone → Answer
  said_of_commit None = committed_nothing
  said_of_commit (Some done) = committed done.stamp done.gained done.lost

  -- The same for a COMMIT. Where the vault is broken or its disk fails the sessions have what they
  -- had, too. A broken vault does not tell whether the command would be refused; where the disk
  -- failed it was not.
  abbrev pub ServesCommit : World → ℕ → ℕ → Result (Option VaultDone) VaultFault → PlainSessions
      → (Shared → Type 0) → Type 0
  ServesCommit w s stamp (Ok done) new shows = (fault_of needs w s (committing stamp) ≡ None)
      × (said_of_commit done ≡ answer_of needs w s (committing stamp))
      × (new ≡ sessions_after needs w s (committing stamp))
      × shows (shared_then needs w s (committing stamp))
  ServesCommit w s stamp (Err (fault.Refused r)) new shows =
      (fault_of needs w s (committing stamp) ≡ Some r) × (new ≡ w.sessions) × shows w.shared
  ServesCommit w s stamp (Err fault.Disk) new shows =
      (fault_of needs w s (committing stamp) ≡ None) × (new ≡ w.sessions)
      × ShowsPast shows w.shared.past
  ServesCommit w s stamp (Err fault.Broken) new shows = (new ≡ w.sessions) × shows w.shared
  ServesCommit w s stamp (Err fault.NoMemory) new shows = (new ≡ w.sessions) × shows w.shared

-- the session has a transaction with a change, begun at this version: a COMMIT comes to the vault
pub record ComesToVault (s now : ℕ) (t : Option PlainTransaction) : Type 0 where
  pub begun : schema_fault s now t ≡ None
  pub some : changes_so_far t ≡ [] → ⊥

-- the one command of all changes, copied; none where there is no change; or why there is none
abbrev pub IsCommandOf : ℕ → ℕ → ℕ → Option PlainTransaction → Result (Option (ℕ × Body)) VaultFault
    → Type 0
IsCommandOf s stamp now t (Ok (Some c)) = ComesToVault s now t
    × (command_of c ≡ command_at stamp (changes_so_far t))
IsCommandOf s stamp now t (Ok None) = (schema_fault s now t ≡ None) × (changes_so_far t ≡ [])
IsCommandOf s stamp now t (Err (fault.Refused r)) = schema_fault s now t ≡ Some r
IsCommandOf s stamp now t (Err fault.NoMemory) = ⊤
IsCommandOf s stamp now t (Err fault.Broken) = ⊥
IsCommandOf s stamp now t (Err fault.Disk) = ⊥

-- it is a refusal, or memory ran out: no disk was called
abbrev pub IsNoDisks : VaultFault → Type 0
IsNoDisks (fault.Refused r) = ⊤
IsNoDisks fault.NoMemory = ⊤
IsNoDisks fault.Broken = ⊥
IsNoDisks fault.Disk = ⊥

-- the vault was given the one command of all changes, of which there is one at least
abbrev pub GivesCommand : {V : Type 0}
    → (V → PlainCommand → Result VaultDone VaultFault → V → Type 0) → V → ℕ → List PlainChange
    → Result VaultDone VaultFault → V → Type 0
GivesCommand commits old stamp changes result new = (changes ≡ [] → ⊥)
    × commits old (command_at stamp changes) result new

-- what became of the vault: it is as it was, or was given that command
abbrev pub GivesVault : {V : Type 0}
    → (V → PlainCommand → Result VaultDone VaultFault → V → Type 0) → V → ℕ → List PlainChange
    → Result (Option VaultDone) VaultFault → V → Type 0
GivesVault commits old stamp changes (Ok (Some done)) new =
    GivesCommand commits old stamp changes (Ok done) new
GivesVault commits old stamp changes (Ok None) new = (changes ≡ []) × (new ≡ old)
GivesVault commits old stamp changes (Err fault.Disk) new =
    GivesCommand commits old stamp changes (Err fault.Disk) new
GivesVault commits old stamp changes (Err fault.Broken) new =
    GivesCommand commits old stamp changes (Err fault.Broken) new
GivesVault commits old stamp changes (Err (fault.Refused r)) new = (new ≡ old)
    ⊎ GivesCommand commits old stamp changes (Err (fault.Refused r)) new
GivesVault commits old stamp changes (Err fault.NoMemory) new = (new ≡ old)
    ⊎ GivesCommand commits old stamp changes (Err fault.NoMemory) new
