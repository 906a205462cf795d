-- What stands after a command that was carried out.
use Rattle.std.proofs.Common.{◌≡◌, ℕ, length, refl, sym, ap, ◌∙◌}
use Rattle.std.specs.Prelude.{Option, Some, None, if◌then◌else◌}
use Rattle.std.proofs.lemmas.List.{length-map}
use Rattle.smo_ops_types.specs.Commands.{PlainBody, changing, evolving, PlainCommand, version_of}
use Rattle.smo_ops_spec.specs.Past.{Past, next_past, past_with}
use Rattle.version_groups.specs.Groups.{Kept}
use Rattle.version_groups.specs.Representation.{Represents}
use Rattle.version_groups.specs.Steps.{step_of, makes_version, IsStep}
use Rattle.version_groups.specs.declared.prepared_command.Step.{Step}
use Rattle.version_groups.specs.declared.prepared_command.Step.TheVariants.{Changed, Evolved}
use Rattle.archive_core_state.specs.Committing.{version_made}
use Rattle.archive_core_state.specs.ArchiveContents.{RepresentsPast}

last_after : (past : Past) (stamp : ℕ) (body : PlainBody)
    → (next_past stamp body past).last ≡ Some stamp
last_after past stamp (changing changes) = refl
last_after past stamp (evolving op inverse) = refl

pub represents_next : (kept : Kept) (past : Past) (command : PlainCommand) (last : Option ℕ)
    → Represents kept (past_with past command) → last ≡ Some command.stamp
    → RepresentsPast (record { groups = kept; last = last }) (past_with past command)
represents_next kept past command last represents e = record {
  groups = represents;
  last = e
      ∙ sym (last_after past command.stamp command.body);
}

-- the number of the newest version
pub newest_next : (kept : Kept) (past : Past) (n : ℕ) → Represents kept past
    → n ≡ length kept.versions → n ≡ length past.versions
newest_next kept past n represents e = e ∙ sym (length-map kept.versions version_of)
    ∙ ap (λ vs. length vs) represents.versions

-- a step that was made ready makes a version just where the command does
pub version_is : (kept : Kept) (past : Past) (stamp : ℕ) (body : PlainBody) (step : Step) (n : ℕ)
    → IsStep kept past stamp body (step_of step)
    → (if makes_version step then Some n else None) ≡ version_made body n
version_is kept past stamp (changing changes) (Changed prepared) n is = refl
version_is kept past stamp (changing changes) (Evolved version begun places) n is = absurd is
version_is kept past stamp (evolving op inverse) (Changed prepared) n is = absurd is
version_is kept past stamp (evolving op inverse) (Evolved version begun places) n is = refl
