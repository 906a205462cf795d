-- What contracts above say of the groups of versions, passed on.
pub use Rattle.version_groups.specs.CheckedCommands.{IsCommandAccepted, checked_command}
pub use Rattle.version_groups.specs.Groups.{Kept}
pub use Rattle.version_groups.specs.Representation.{Represents}
pub use Rattle.version_groups.specs.Steps.{Prepares, a_command, rows_gained, rows_lost}
