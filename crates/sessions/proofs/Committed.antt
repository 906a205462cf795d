-- What a COMMIT answers where it comes to the vault.
use Rattle.std.proofs.Common.{◌≡◌, ℕ, cond, nat_eq, List, [], ◌∷◌, Option, Some, None, refl}
use Rattle.std.proofs.Common.{sym, ap, ◌∙◌, subst, Result, Ok, Err, inr}
use Rattle.std.specs.Option.{option_map}
use Rattle.std.specs.Map.{lookup}
use Rattle.smo_ops_types.specs.Changes.{PlainChange}
use Rattle.smo_ops_types.specs.Commands.{PlainCommand}
use Rattle.smo_ops_spec.specs.First.{first_refusal}
use Rattle.smo_ops_spec.specs.Checks.{Fault}
use Rattle.sessions.specs.declared.transaction.Transaction.{Transaction}
use Rattle.sessions.specs.declared.vault.VaultDone.{VaultDone}
use Rattle.sessions.specs.declared.vault.VaultFault.{VaultFault}
use Rattle.sessions.specs.declared.vault.VaultFault.TheVariants as fault
use Rattle.sessions.specs.Shared.{Shared, newest, shared_with}
use Rattle.sessions.specs.SessionStates.{PlainTransaction, PlainSessions, Cursors, some_sessions}
use Rattle.sessions.specs.SessionStates.{with_transaction}
use Rattle.sessions.specs.Meaning.{transaction_of, transactions_of}
use Rattle.sessions.specs.Steps.{a_world, committed, command_at, changes_so_far}
use Rattle.sessions.specs.Steps.{changes_fault, commit_fault, fault_of_command}
use Rattle.sessions.specs.Steps.{commit_answer, command_answer, shared_after}
use Rattle.sessions.specs.Vaults.{Commits}
use Rattle.sessions.specs.Serving.{ServesCommit, ComesToVault, GivesCommand, GivesVault}
use Rattle.sessions.proofs.Keyed.{option_map-cond}

-- a session's transaction is gone
pub ended : (old new : List (ℕ × Transaction)) (s : ℕ) (cursors : Cursors)
    → ((q : ℕ) → lookup (nat_eq q) new ≡ cond (nat_eq s q) None (lookup (nat_eq q) old))
    → some_sessions (transactions_of new) cursors
    ≡ with_transaction s None (some_sessions (transactions_of old) cursors)
ended old new s cursors is i = some_sessions (λ q. (ap (option_map transaction_of) (is q)
    ∙ option_map-cond transaction_of (nat_eq s q) None (lookup (nat_eq q) old)) i) cursors

pub only_one : (f : Fault) → first_refusal (f ∷ []) ≡ f
only_one None = refl
only_one (Some r) = refl

module _ (needs : PlainCommand → ℕ) (shared : Shared) (stamp : ℕ) where
  some_fault : (cs : List PlainChange) → (cs ≡ [] → ⊥)
      → changes_fault needs shared stamp cs ≡ fault_of_command needs shared (command_at stamp cs)
  some_fault [] some = absurd (some refl)
  some_fault (c ∷ cs) some = refl

  some_shared : (cs : List PlainChange) → (cs ≡ [] → ⊥) → shared_after needs stamp cs shared
      ≡ shared_with (needs (command_at stamp cs)) (command_at stamp cs) shared
  some_shared [] some = absurd (some refl)
  some_shared (c ∷ cs) some = refl

  some_answer : (cs : List PlainChange) → (cs ≡ [] → ⊥)
      → commit_answer stamp cs shared ≡ command_answer shared (command_at stamp cs)
  some_answer [] some = absurd (some refl)
  some_answer (c ∷ cs) some = refl

  module _ (s : ℕ) (t : Option PlainTransaction) (comes : ComesToVault s (newest shared) t) where
    fault_is : commit_fault needs shared s stamp t
        ≡ fault_of_command needs shared (command_at stamp (changes_so_far t))
    fault_is = ap (λ (f : Fault). first_refusal
        (f ∷ changes_fault needs shared stamp (changes_so_far t)
        ∷ [])) comes.begun ∙ only_one _ ∙ some_fault (changes_so_far t) comes.some

  module _ (it : PlainSessions) (s : ℕ) (shows : Shared → Type 0)
      (comes : ComesToVault s (newest shared) (it.transaction s)) where
    pub refused_serves : (e : VaultFault)
        → Commits needs shared (command_at stamp (changes_so_far (it.transaction s))) (Err e) shows
        → ServesCommit needs (a_world shared it) s stamp (Err e) it shows
    refused_serves (fault.Refused r) h = (fault_is s (it.transaction s) comes ∙ h.0, refl, h.1)
    refused_serves fault.Disk h = (fault_is s (it.transaction s) comes ∙ h.0, refl, h.1)
    refused_serves fault.Broken h = (refl, h)
    refused_serves fault.NoMemory h = (refl, h)

    pub done_serves : (done : VaultDone) (new : PlainSessions)
        → new ≡ with_transaction s None it
        → Commits needs shared (command_at stamp (changes_so_far (it.transaction s))) (Ok done)
        shows
        → ServesCommit needs (a_world shared it) s stamp (Ok (Some done)) new shows
    done_serves done new e h = (
      fault_is s (it.transaction s) comes ∙ h.0,
      (λ i. committed (h.1.stamp i) (h.1.gained i) (h.1.lost i))
          ∙ sym (some_answer (changes_so_far (it.transaction s)) comes.some),
      e,
      subst shows (sym (some_shared (changes_so_far (it.transaction s)) comes.some)) h.2,
    )

-- a fault of the vault's is one of the call's
pub gives_fault : {V : Type 0}
    (commits : V → PlainCommand → Result VaultDone VaultFault → V → Type 0) (old new : V)
    (stamp : ℕ) (changes : List PlainChange) (e : VaultFault)
    → GivesCommand commits old stamp changes (Err e) new
    → GivesVault commits old stamp changes (Err e) new
gives_fault commits old new stamp changes (fault.Refused r) h = inr h
gives_fault commits old new stamp changes fault.NoMemory h = inr h
gives_fault commits old new stamp changes fault.Broken h = h
gives_fault commits old new stamp changes fault.Disk h = h
