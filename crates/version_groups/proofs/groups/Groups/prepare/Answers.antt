use Rattle.std.proofs.Common.{◌≡◌, ◌<◌, None, sym, subst}
use Rattle.std.specs.Result.{IfOk}
use Rattle.relations_spec.specs.Spans.{forever}
use Rattle.smo_ops_spec.specs.Accepts.{command_fault}
use Rattle.smo_ops_spec.specs.ValidValues.{BodyHolds}
use Rattle.smo_ops_types.specs.Changes.{changes_of}
use Rattle.smo_ops_spec.specs.Past.{newest_tables}
use Rattle.smo_ops.specs.TablePlaces.{StandAt}
use Rattle.version_groups.specs.CheckedCommands.{checked_command, IsFound, IsCommandAccepted}
use Rattle.version_groups.specs.Steps.{Prepares}
use Rattle.version_groups.specs.declared.checked_command.CheckedCommand.{CheckedCommand}
use Rattle.version_groups.proofs.PreparedCommands.{represents_same}
use Rattle.version_groups.proofs.groups.Groups.prepare.Goals as goal

pub prepare_changes-requires-clause-valid : goal.prepare_changes-requires-clause-valid
prepare_changes-requires-clause-valid c =
    subst (λ (j : CheckedCommand). (checked_command j).stamp < forever) c.in-Changes.is
    c.requires.2.stamp

pub prepare_changes-requires-clause-constants : goal.prepare_changes-requires-clause-constants
prepare_changes-requires-clause-constants c =
    subst (λ (j : CheckedCommand). BodyHolds (checked_command j).body) c.in-Changes.is
    c.requires.2.constants

pub prepare_changes-requires-clause-accepted : goal.prepare_changes-requires-clause-accepted
prepare_changes-requires-clause-accepted c = (
  c.requires.0,
  c.requires.1,
  subst (λ (j : CheckedCommand). command_fault c.requires.0 (checked_command j) ≡ None)
      c.in-Changes.is
      c.requires.2.accepted,
  subst (λ ps. StandAt (newest_tables c.requires.0) (changes_of c.in-Changes.changes.now) ps)
      (sym c.deref.ensures.value)
      (subst (IsFound c.requires.0) c.in-Changes.is c.requires.2.found),
)

pub returns-in-Changes-clause-represents : goal.returns-in-Changes-clause-represents
returns-in-Changes-clause-represents c = λ past represents.
    represents_same c.args.self.now c.prepare_changes.new.self c.prepare_changes.ensures.same past
    represents

pub returns-in-Changes-clause-prepared : goal.returns-in-Changes-clause-prepared
returns-in-Changes-clause-prepared c = λ past represents accepted.
    subst (λ (j : CheckedCommand). IfOk c.prepare_changes.result
    (λ next. Prepares c.prepare_changes.new.self past (checked_command j) next))
    (sym c.in-Changes.is)
    (c.prepare_changes.ensures.prepared past represents
    (subst (λ (j : CheckedCommand). command_fault past (checked_command j) ≡ None) c.in-Changes.is
    accepted.accepted))

pub prepare_version-requires : goal.prepare_version-requires
prepare_version-requires c =
    (c.requires.0, c.requires.1, subst (IsCommandAccepted c.requires.0) c.in-Evolve.is c.requires.2)

pub returns-in-Evolve-clause-represents : goal.returns-in-Evolve-clause-represents
returns-in-Evolve-clause-represents c = λ past represents.
    represents_same c.args.self.now c.prepare_version.new.self c.prepare_version.ensures.same past
    represents

pub returns-in-Evolve-clause-prepared : goal.returns-in-Evolve-clause-prepared
returns-in-Evolve-clause-prepared c = λ past represents accepted.
    subst (λ (j : CheckedCommand). IfOk c.prepare_version.result
    (λ next. Prepares c.prepare_version.new.self past (checked_command j) next))
    (sym c.in-Evolve.is)
    (c.prepare_version.ensures.prepared past represents
    (subst (IsCommandAccepted past) c.in-Evolve.is accepted))
