-- Whether a new command is accepted: one whose record does not stand yet.
use Rattle.std.specs.Prelude.{[], ◌∷◌}
use Rattle.smo_ops_types.specs.Commands.{PlainCommand}
use Rattle.smo_ops_spec.specs.First.{first_refusal}
use Rattle.smo_ops_spec.specs.Checks.{Fault}
use Rattle.smo_ops_spec.specs.Accepts.{command_fault}
use Rattle.smo_ops_spec.specs.Past.{Past}
use Rattle.smo_ops_widths.specs.MeasureFaults.{width_fault}

-- its refusal by its past, and after these that it makes a version which is too wide
abbrev pub new_command_fault : Past → PlainCommand → Fault
new_command_fault past command = first_refusal
    (command_fault past command ∷ width_fault past command ∷ [])
