-- What contracts above say of the archive in memory, of its images and of its opening, passed on.
pub use Rattle.archive_core_replay.specs.declared.opened.Opened.{Opened}
pub use Rattle.archive_core_replay.specs.Memory.{ArchiveContent, RepresentsPast, RepresentsSome}
pub use Rattle.archive_core_replay.specs.Memory.{IsAsked, IsAskedSchema, IsKeptOfList, IsListed}
pub use Rattle.archive_core_replay.specs.Memory.{IsWrong, pieces_told, tells_periods, IsDone}
pub use Rattle.archive_core_replay.specs.Memory.{version_made, ArePieces, ValidInBranch}
pub use Rattle.archive_core_replay.specs.Memory.{ValidInQuery, Done, Kept, book_meaning}
pub use Rattle.archive_core_replay.specs.Memory.{rows_gained, rows_lost}
pub use Rattle.archive_core_replay.specs.Images.{IsImageOf}
