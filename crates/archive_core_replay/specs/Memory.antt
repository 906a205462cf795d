-- What contracts above say of the archive in memory, passed on.
pub use Rattle.archive_core_state.specs.AcceptedCommands.{IsAcceptedAfter, accepted_command}
pub use Rattle.archive_core_state.specs.ArchiveContents.{ArchiveContent, RepresentsPast}
pub use Rattle.archive_core_state.specs.ArchiveContents.{RepresentsSome}
pub use Rattle.archive_core_state.specs.Asking.{ArePiecesOf, IsAsked, IsAskedSchema, IsExplained}
pub use Rattle.archive_core_state.specs.Asking.{IsKeptOfList, IsListed, IsNotRefused, IsWrong}
pub use Rattle.archive_core_state.specs.Asking.{TellsWayBack, pieces_told, query_asked}
pub use Rattle.archive_core_state.specs.Asking.{tells_periods}
pub use Rattle.archive_core_state.specs.Committing.{IsAsBefore, IsDone, version_made}
pub use Rattle.archive_core_state.specs.VersionGroups.{IsCommandAccepted, Kept, Prepares}
pub use Rattle.archive_core_state.specs.VersionGroups.{Represents, a_command, checked_command}
pub use Rattle.archive_core_state.specs.VersionGroups.{rows_gained, rows_lost}
pub use Rattle.archive_core_state.specs.NewCommands.{new_command_fault}
pub use Rattle.archive_core_state.specs.Queries.{AreBorrowedBy, ArePieces, AreSpared}
pub use Rattle.archive_core_state.specs.Queries.{BorrowedByBranch, ValidInBranch, ValidInQuery}
pub use Rattle.archive_core_state.specs.Queries.{book_meaning, explained_read, reads_of}
pub use Rattle.archive_core_state.specs.declared.accepted_command.AcceptedCommand.{AcceptedCommand}
pub use Rattle.archive_core_state.specs.declared.archive.Done.{Done}
