-- What an archive answers to a command of changes is what a vault answers to it.
use Rattle.std.proofs.Common.{◌≡◌, ℕ, ◌+◌, ◌∷◌, [], refl, sym, subst, ◌∙◌}
use Rattle.std.proofs.Common.{arith, Result, Ok, Err, ap, length}
use Rattle.std.proofs.lemmas.List.{length-map}
use Rattle.std.specs.Prelude.{Some, None, IfErr, OnOk}
use Rattle.disk_model.specs.declared.disk.Disk.{Ghosts}
use Rattle.smo_ops_types.specs.Commands.{PlainBody, changing, evolving, PlainCommand}
use Rattle.smo_ops_types.specs.Commands.{version_of}
use Rattle.smo_ops_spec.specs.First.{first_refusal}
use Rattle.smo_ops_spec.specs.Checks.{Fault}
use Rattle.smo_ops_spec.specs.Accepts.{command_fault}
use Rattle.smo_ops_spec.specs.Effects.{gained, lost}
use Rattle.smo_ops_spec.specs.Past.{Past, newest_database, next_database}
use Rattle.archive_core.specs.State.{rows_gained, rows_lost}
use Rattle.archive_core.specs.State.{Done}
use Rattle.archive_core.specs.State.{ArchiveContent, RepresentsPast, RepresentsSome}
use Rattle.archive_core.specs.declared.archive.Archive.{Archive}
use Rattle.archive_core.specs.declared.fault.CommitFault.{CommitFault}
use Rattle.archive_core.specs.declared.fault.CommitFault.TheVariants as commit
use Rattle.archive_core.specs.Committing.{Commits, commit_fault, need_fault}
use Rattle.archive_core.specs.Fields.{standing_of, disk_of, place_of, limit_of}
use Rattle.sessions.specs.Shared.{Shared, newest}
use Rattle.sessions.specs.Steps.{fault_of_command}
use Rattle.sessions.specs.Vaults as vault
use Rattle.script_cli_vault.specs.Answered.{answer_of}
use Rattle.script_cli_vault.specs.Shown.{Shows, need_of}

-- changes gain and lose what leads to the next database
all_gained : (past : Past) (body : PlainBody) → vault.IsOfChanges body
    → rows_gained past body ≡ gained (newest_database past) (next_database body past)
all_gained past (changing changes) h = refl
all_gained past (evolving op inverse) h = absurd h

all_lost : (past : Past) (body : PlainBody) → vault.IsOfChanges body
    → rows_lost past body ≡ lost (newest_database past) (next_database body past)
all_lost past (changing changes) h = refl
all_lost past (evolving op inverse) h = absurd h

-- changes make no version, so that none is too wide: they are refused by the past and by the room
pub refused_alike : (past : Past) (at limit stamp : ℕ) (body : PlainBody) → vault.IsOfChanges body
    → commit_fault past at limit (record { stamp = stamp; body = body })
    ≡ first_refusal (command_fault past (record { stamp = stamp; body = body })
    ∷ need_fault at limit (need_of (record { stamp = stamp; body = body })) ∷ [])
refused_alike past at limit stamp (changing changes) h = by
    (command_fault past (record { stamp = stamp; body = changing changes }))
  where
    by : (f : Fault) → first_refusal (first_refusal (f ∷ None ∷ [])
        ∷ need_fault at limit (need_of (record { stamp = stamp; body = changing changes })) ∷ [])
        ≡ first_refusal (f
        ∷ need_fault at limit (need_of (record { stamp = stamp; body = changing changes })) ∷ [])
    by None = refl
    by (Some r) = refl
refused_alike past at limit stamp (evolving op inverse) h = absurd h

module _ {D : Type 0} {g : Ghosts D} where
  -- an archive shows something
  pub something : (archive : Archive D g) → RepresentsSome (standing_of archive)
      → (shared : Shared) × Shows archive shared
  something archive some = (
    record { past = some.0; place = place_of archive; limit = limit_of archive },
    record { past = some.1; place = refl; limit = refl },
  )

  -- its newest version is that of what it shows
  pub newest_shown : (archive : Archive D g) (shared : Shared) → Shows archive shared
      → length (standing_of archive).groups.versions ≡ newest shared
  newest_shown archive shared h = sym (length-map (standing_of archive).groups.versions version_of)
      ∙ ap length h.past.groups.versions

  module _ (old new : Archive D g) (command : PlainCommand) (shared : Shared)
      (h : Shows old shared) (changes : vault.IsOfChanges command.body)
      (limits : limit_of new ≡ limit_of old) where
    faults : commit_fault shared.past (place_of old) (limit_of old) command
        ≡ fault_of_command need_of shared command
    faults = refused_alike shared.past (place_of old) (limit_of old) command.stamp command.body
        changes
        ∙ (λ i. first_refusal (command_fault shared.past command
        ∷ need_fault (h.place i) (h.limit i) (need_of command) ∷ []))

    still : RepresentsPast (standing_of new) shared.past → place_of new ≡ place_of old
        → Shows new shared
    still past place = record {
      past = past;
      place = place ∙ h.place;
      limit = limits ∙ h.limit;
    }

    pub committed : (r : Result Done CommitFault)
        → Commits shared.past command (place_of old) (limit_of old) (standing_of old) r
        (standing_of new)
        → IfErr r (λ e. (e ≡ commit.Disk → ⊥)
        → (disk_of new ≡ disk_of old) × (place_of new ≡ place_of old))
        → OnOk r (place_of new + 1 ≡ place_of old + need_of command)
        → vault.Commits need_of shared command (answer_of r) (Shows new)
    committed (Ok done) c same place = (
      sym faults ∙ c.0,
      record {
        stamp = c.1.stamp;
        gained = c.1.gained ∙ all_gained shared.past command.body changes;
        lost = c.1.lost ∙ all_lost shared.past command.body changes;
      },
      record {
        past = c.2;
        place = let at = h.place in omega (arith, place, at);
        limit = limits ∙ h.limit;
      },
    )
    committed (Err (commit.Refused r)) c same place = (
      sym faults ∙ c.0,
      still c.1.represents (same (λ e. absurd (cc))).1,
    )
    committed (Err commit.Disk) c same place = (
      sym faults ∙ c.0,
      (
        record { past = shared.past; place = place_of new; limit = limit_of new },
        refl,
        record { past = c.1.represents; place = refl; limit = refl },
      ),
    )
    committed (Err commit.Broken) c same place = still
        (subst (λ (a : ArchiveContent). RepresentsPast a shared.past) (sym c) h.past)
        (same (λ e. absurd (cc))).1
    committed (Err commit.NoMemory) c same place = still c.represents (same (λ e. absurd (cc))).1
