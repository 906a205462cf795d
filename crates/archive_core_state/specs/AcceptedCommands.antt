-- Commands that checking accepted, with what it found.
use Rattle.smo_ops_types.specs.Changes.{changes_of}
use Rattle.smo_ops_types.specs.Commands.{changing, evolving, PlainCommand}
use Rattle.smo_ops_types.specs.Operators.{evolution_of, evolutions_of}
use Rattle.smo_ops_spec.specs.Past.{Past, newest_tables}
use Rattle.smo_ops.specs.TablePlaces.{StandAt}
use Rattle.version_groups.specs.CheckedCommands.{HasNext, IsAcceptedAs}
use Rattle.version_groups.specs.Steps.{a_command}
use Rattle.archive_core_state.specs.declared.accepted_command.AcceptedCommand.{AcceptedCommand}
use Rattle.archive_core_state.specs.declared.accepted_command.AcceptedCommand.TheVariants.{Changes}
use Rattle.archive_core_state.specs.declared.accepted_command.AcceptedCommand.TheVariants.{Evolve}

-- the command that was accepted
abbrev pub accepted_command : AcceptedCommand → PlainCommand
accepted_command (Changes stamp changes places) =
    a_command stamp (changing (changes_of changes.items))
accepted_command (Evolve version) = a_command version.stamp
    (evolving (evolution_of version.op) (evolutions_of version.inverse.items))

-- what was found: of each change where its table stands in the newest schema, and of an operator
-- the schema after it
abbrev pub HasFound : Past → AcceptedCommand → Type 0
HasFound past (Changes stamp changes places) = StandAt (newest_tables past)
    (changes_of changes.items) places.items
HasFound past (Evolve version) = HasNext past version

-- it is accepted after the past, and this was found there
abbrev pub IsAcceptedAfter : Past → AcceptedCommand → Type 0
IsAcceptedAfter past accepted = IsAcceptedAs past (accepted_command accepted)
    (HasFound past accepted)
