-- A command that is accepted, with what checking it found.
use Rattle.std.specs.Prelude.{◌≡◌, ◌<◌, None}
use Rattle.relations_spec.specs.Spans.{forever}
use Rattle.smo_ops_types.specs.Changes.{changes_of}
use Rattle.smo_ops_types.specs.Commands.{changing, evolving, PlainCommand}
use Rattle.smo_ops_types.specs.Operators.{evolution_of, evolutions_of}
use Rattle.smo_ops_types.specs.declared.version.Version.{Version}
use Rattle.smo_ops_spec.specs.Accepts.{command_fault}
use Rattle.smo_ops_spec.specs.Evolutions.{schema_after_each}
use Rattle.smo_ops_spec.specs.ValidValues.{BodyHolds}
use Rattle.smo_ops_spec.specs.Past.{Past, newest_tables}
use Rattle.smo_ops.specs.TablePlaces.{StandAt}
use Rattle.version_groups.specs.Steps.{a_command}
use Rattle.version_groups.specs.declared.checked_command.CheckedCommand.{CheckedCommand}
use Rattle.version_groups.specs.declared.checked_command.CheckedCommand.TheVariants.{Changes}
use Rattle.version_groups.specs.declared.checked_command.CheckedCommand.TheVariants.{Evolve}

-- the command that was checked
abbrev pub checked_command : CheckedCommand → PlainCommand
checked_command (Changes stamp changes places) = a_command stamp (changing (changes_of changes.now))
checked_command (Evolve version) = a_command version.stamp
    (evolving (evolution_of version.op) (evolutions_of version.inverse.items))

-- the schema that was found is the one after the operator
abbrev pub HasNext : Past → Version → Type 0
HasNext past version = version.schema
    ≡ schema_after_each (newest_tables past) (evolution_of version.op)

-- what was found: of each change where its table stands in the newest schema, and of an operator
-- the schema after it
abbrev pub IsFound : Past → CheckedCommand → Type 0
IsFound past (Changes stamp changes places) = StandAt (newest_tables past) (changes_of changes.now)
    places.items
IsFound past (Evolve version) = HasNext past version

-- this command is accepted after the past, its constants are valid values, and what was found is of
-- the past
pub record IsAcceptedAs (past : Past) (command : PlainCommand) (Found : Type 0) : Type 0 where
  pub accepted : command_fault past command ≡ None
  pub stamp : command.stamp < forever
  pub constants : BodyHolds command.body
  pub found : Found

abbrev pub IsCommandAccepted : Past → CheckedCommand → Type 0
IsCommandAccepted past checked = IsAcceptedAs past (checked_command checked) (IsFound past checked)
