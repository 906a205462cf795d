-- How the tests of a command are joined.
use Rattle.std.proofs.Common.{◌≡◌, ◌≤◌, ◌<◌, ℕ, List, [], ◌∷◌, length, refl, sym, ap, subst}
use Rattle.std.proofs.Common.{◌∙◌, arith}
use Rattle.std.specs.Borrow.{Bor}
use Rattle.std.specs.Global.{Vec}
use Rattle.std.specs.Prelude.{Option, Some, None, Result, Ok, Err, IfOk}
use Rattle.std.proofs.lemmas.List.{length-map}
use Rattle.prima_base.specs.Faults.{IsTested, IsTestedAs}
use Rattle.prima_base.specs.declared.fault.CallFault.{CallFault}
use Rattle.prima_base.specs.declared.fault.CallFault.TheVariants.{Refused, NoMemory}
use Rattle.prima_base.specs.declared.refusal.Refusal.{Refusal}
use Rattle.prima_base.specs.declared.refusal.What.{What}
use Rattle.relations_spec.specs.Spans.{forever}
use Rattle.schema_catalog.specs.Tables.{Tables}
use Rattle.smo_ops_types.specs.declared.op.Op.{Op}
use Rattle.smo_ops_types.specs.Operators.{Operator, operator_of, operators_of, evolutions_of}
use Rattle.smo_ops_types.specs.Changes.{changes_of}
use Rattle.smo_ops_types.specs.Commands.{changing, evolving, PlainCommand}
use Rattle.smo_ops_types.specs.declared.change.Change.{Change}
use Rattle.smo_ops_spec.specs.Checks.{Fault}
use Rattle.smo_ops_spec.specs.Counts.{first_excess}
use Rattle.smo_ops_spec.specs.Accepts.{count_fault, command_fault}
use Rattle.smo_ops_spec.specs.First.{first_refusal}
use Rattle.smo_ops_spec.specs.Preconditions.{AreNarrow}
use Rattle.smo_ops_spec.specs.ValidValues.{BodyHolds}
use Rattle.smo_ops_spec.specs.Past.{Past, newest_tables}
use Rattle.smo_ops.specs.TablePlaces.{StandAt}
use Rattle.smo_ops_spec.proofs.CountedOperators.{counted_length}
use Rattle.smo_ops_spec.proofs.Firsts.{first_at, first_later}
use Rattle.version_groups.specs.Groups.{Kept}
use Rattle.version_groups.specs.CheckedCommands.{IsAcceptedAs, IsCommandAccepted}
use Rattle.version_groups.specs.Steps.{a_command}
use Rattle.version_groups.specs.declared.checked_command.CheckedCommand.TheVariants as checked
use Rattle.version_groups.specs.Representation.{Represents}
use Rattle.archive_core_state.specs.declared.accepted_command.AcceptedCommand.{AcceptedCommand}
use Rattle.archive_core_state.specs.declared.accepted_command.AcceptedCommand.TheVariants.{Changes}
use Rattle.archive_core_state.specs.AcceptedCommands.{accepted_command, HasFound, IsAcceptedAfter}

-- an inverse whose count is within its limit
pub few_operators : (op : List Operator) (inverse : List Op)
    → first_excess (evolving op (evolutions_of inverse)) ≡ None → length inverse ≤ 8
few_operators op inverse counted =
    let few = counted_length op (evolutions_of inverse) counted in
    let same : length (evolutions_of inverse) ≡ length inverse =
    length-map (operators_of inverse) (λ o. o ∷ []) ∙ length-map inverse operator_of in
    omega arith

-- the newest schema has no table with too many columns
pub narrow_newest : (kept : Kept) (past : Past) (tables : Tables) → Represents kept past
    → tables ≡ newest_tables past → AreNarrow tables
narrow_newest kept past tables represents e = subst AreNarrow (sym e) represents.valid.tables.narrow

-- where nothing is refused for its count, there is no excess
pub no_excess : (excess : Option (What × ℕ)) → count_fault excess ≡ None → excess ≡ None
no_excess None e = refl
no_excess (Some x) e = absurd (cc)

-- after two tests that are met the others decide
pub checked_after : {A : Type 0} (first second : Fault) (tests : List Fault)
    (result : Result A (CallFault Refusal)) → first ≡ None → second ≡ None
    → IsTested (first_refusal tests) result
    → IsTested (first_refusal (first ∷ second ∷ tests)) result
checked_after first second tests result e f h =
    subst (λ (r : Fault). IsTested r result) (sym
    (first_later first (second ∷ tests) e ∙ first_later second tests f)) h

-- a test that is not met decides
pub first_decides : (first : Fault) (tests : List Fault) (r : Refusal) → first ≡ Some r
    → first_refusal (first ∷ tests) ≡ Some r
first_decides first tests r e = first_at first tests r e

pub second_decides : (first second : Fault) (tests : List Fault) (r : Refusal) → first ≡ None
    → second ≡ Some r → first_refusal (first ∷ second ∷ tests) ≡ Some r
second_decides first second tests r e f = first_later first (second ∷ tests) e
    ∙ first_at second tests r f

-- what checking a command answers, by its tests and what it found
pub answers : (past : Past) (command : PlainCommand)
    (result : Result AcceptedCommand (CallFault Refusal))
    → IsTested (command_fault past command) result
    → IfOk result (λ accepted. accepted_command accepted ≡ command)
    → IfOk result (λ accepted. HasFound past accepted) → command.stamp < forever
    → BodyHolds command.body
    → IsTestedAs (IsAcceptedAfter past) (command_fault past command) result
answers past command (Ok it) none same found stamp hold = (
  none,
  record {
    accepted = ap (command_fault past) same ∙ none;
    stamp = subst (λ (c : PlainCommand). c.stamp < forever) (sym same) stamp;
    constants = subst (λ (c : PlainCommand). BodyHolds c.body) (sym same) hold;
    found = found;
  },
)
answers past command (Err (Refused r)) refused same found stamp hold = refused
answers past command (Err NoMemory) refused same found stamp hold = tt

-- an accepted command with changes is so, however they are borrowed
pub borrowed : (past : Past) (stamp : ℕ) (changes : Vec Change) (places : Vec ℕ)
    (slice : Bor (List Change)) → slice.now ≡ changes.items
    → IsAcceptedAfter past (Changes stamp changes places)
    → IsCommandAccepted past (checked.Changes stamp slice places)
borrowed past stamp changes places slice is accepted = subst (λ (items : List Change).
    IsAcceptedAs past (a_command stamp (changing (changes_of items)))
    (StandAt (newest_tables past) (changes_of items) places.items)) (sym is) accepted
