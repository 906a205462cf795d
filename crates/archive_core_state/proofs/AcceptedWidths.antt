-- What an accepted operator and the versions before it are for the measure of what it makes.
use Rattle.std.proofs.Common.{◌≡◌, ℕ, List, [], ◌∷◌, length, sym, ap, subst, ◌∙◌}
use Rattle.std.specs.Prelude.{nat_lt, Some, None, Ok, Err, map}
use Rattle.std.specs.Option.{option_map}
use Rattle.prima_base.specs.Faults.{IsTested, IsTestedAs}
use Rattle.prima_base.specs.Limits.{max_versions}
use Rattle.prima_base.specs.declared.fault.CallFault.{CallFault}
use Rattle.prima_base.specs.declared.fault.CallFault.TheVariants.{Refused, NoMemory}
use Rattle.prima_base.specs.declared.refusal.Refusal.{Refusal}
use Rattle.prima_base.specs.declared.refusal.What.TheVariants.{Versions as TheVersions}
use Rattle.prima_base.specs.declared.refusal.Refusal.TheVariants.{TooMany}
use Rattle.smo_ops_types.specs.Commands.{evolving, PlainVersion, version_of, versions_of}
use Rattle.smo_ops_types.specs.Commands.{PlainCommand}
use Rattle.smo_ops_types.specs.Operators.{Operator}
use Rattle.smo_ops_types.specs.declared.version.Versions.{Versions}
use Rattle.smo_ops_spec.specs.First.{unless, first_refusal}
use Rattle.smo_ops_spec.specs.Accepts.{operator_refusal, command_fault, body_tests}
use Rattle.smo_ops_spec.specs.Evolutions.{evolution_fault}
use Rattle.smo_ops_spec.specs.After.{HaveFewNodes, AllHaveFewNodes}
use Rattle.smo_ops_spec.specs.Inverses.{inverse_fault, inverse_tests}
use Rattle.smo_ops_spec.specs.Past.{Past, no_tables, newest_from, newest_tables}
use Rattle.smo_ops_spec.specs.ValidPast.{AreVersions}
use Rattle.smo_ops_spec.proofs.CountedOperators.{counted_operator, counted_inverse}
use Rattle.smo_ops_spec.proofs.Firsts.{none_of_first, none_mapped, first_at, first_later}
use Rattle.smo_ops_spec.proofs.PastSteps.{counts_accepted, body_accepted}
use Rattle.smo_ops_widths.specs.Widths.{widest, with_version}
use Rattle.smo_ops_widths.specs.MeasureFaults.{measure_fault, width_fault}
use Rattle.version_groups.specs.Groups.{Kept}
use Rattle.version_groups.specs.Representation.{Represents}
use Rattle.version_groups.specs.Steps.{a_command}
use Rattle.archive_core_state.specs.NewCommands.{new_command_fault}

-- a new command that is accepted is accepted by its past
pub accepted_by_past : (past : Past) (command : PlainCommand)
    → new_command_fault past command ≡ None → command_fault past command ≡ None
accepted_by_past past command e =
    (none_of_first (command_fault past command) (width_fault past command ∷ []) e).0

module _ (kept : Kept) (past : Past) (represents : Represents kept past) (versions : Versions)
    (is : versions.list.items ≡ kept.versions) where
  same_versions : versions_of versions ≡ past.versions
  same_versions = ap (map version_of) is ∙ represents.versions

  pub past_versions : AreVersions None no_tables (versions_of versions)
  past_versions = subst (λ (vs : List PlainVersion). AreVersions None no_tables vs)
      (sym same_versions) represents.valid.evolved

  module _ (stamp : ℕ) (op : List Operator) (inverse : List (List Operator)) where
    pub measured : (most : ℕ)
        → most ≡ widest (with_version (versions_of versions) stamp op inverse)
        → measure_fault most ≡ width_fault past (a_command stamp (evolving op inverse))
    measured most e = ap measure_fault (e
        ∙ ap (λ (vs : List PlainVersion). widest (with_version vs stamp op inverse)) same_versions)

    module _ (accepted : command_fault past (a_command stamp (evolving op inverse)) ≡ None) where
      rest : first_refusal (option_map operator_refusal (evolution_fault (newest_tables past) op)
          ∷ inverse_tests (newest_tables past) op inverse) ≡ None
      rest = (none_of_first (unless (nat_lt (length past.versions) max_versions)
          (TooMany TheVersions max_versions))
          (option_map operator_refusal (evolution_fault (newest_tables past) op)
          ∷ inverse_tests (newest_tables past) op inverse)
          (body_accepted past (a_command stamp (evolving op inverse)) accepted)).1

      both : (option_map operator_refusal (evolution_fault (newest_tables past) op) ≡ None)
          × (inverse_fault (newest_tables past) op inverse ≡ None)
      both = none_of_first (option_map operator_refusal (evolution_fault (newest_tables past) op))
          (inverse_tests (newest_tables past) op inverse) rest

      pub operator_met : evolution_fault (newest_from no_tables (versions_of versions)) op ≡ None
      operator_met = subst (λ (vs : List PlainVersion). evolution_fault (newest_from no_tables vs)
          op
          ≡ None) (sym same_versions)
          (none_mapped operator_refusal (evolution_fault (newest_tables past) op) both.0)

      pub inverse_met : inverse_fault (newest_from no_tables (versions_of versions)) op inverse
          ≡ None
      inverse_met = subst (λ (vs : List PlainVersion). inverse_fault (newest_from no_tables vs) op
          inverse ≡ None) (sym same_versions) both.1

      pub few_nodes : HaveFewNodes op
      few_nodes = counted_operator op inverse
          (counts_accepted past (a_command stamp (evolving op inverse)) accepted)

      pub few_nodes_each : AllHaveFewNodes inverse
      few_nodes_each = counted_inverse op inverse
          (counts_accepted past (a_command stamp (evolving op inverse)) accepted)

-- ---- a new command, by its past and then by its width

module _ {A : Type 0} (so : A → Type 0) (past : Past) (command : PlainCommand) where
  -- what is refused by its past is refused so
  pub refused_by_past : (f : CallFault Refusal)
      → IsTestedAs so (command_fault past command) (Err f)
      → IsTestedAs so (new_command_fault past command) (Err f)
  refused_by_past (Refused r) e = first_at (command_fault past command)
      (width_fault past command ∷ []) r e
  refused_by_past NoMemory e = tt

  -- and what its past accepts, by its width
  pub refused_by_width : command_fault past command ≡ None → (f : CallFault Refusal)
      → IsTested {A = Unit {0}} (width_fault past command) (Err f)
      → IsTestedAs so (new_command_fault past command) (Err f)
  refused_by_width met (Refused r) e =
      first_later (command_fault past command) (width_fault past command ∷ []) met
      ∙ first_at (width_fault past command) [] r e
  refused_by_width met NoMemory e = tt

  pub accepted_new : (a : A) → command_fault past command ≡ None
      → width_fault past command ≡ None → so a
      → IsTestedAs so (new_command_fault past command) (Ok a)
  accepted_new a met narrow s = (
    first_later (command_fault past command) (width_fault past command ∷ []) met
        ∙ first_later (width_fault past command) [] narrow,
    s,
  )
