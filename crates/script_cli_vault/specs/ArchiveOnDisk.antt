-- What contracts above say of the archive on its disk, passed on.
pub use Rattle.archive_core.specs.Checkpointing.{checkpoint_fault, checkpoint_of, image_of_archive}
pub use Rattle.archive_core.specs.Committing.{commit_fault}
pub use Rattle.archive_core.specs.Committing as archive
pub use Rattle.archive_core.specs.DiskReads.{HoldsAt}
pub use Rattle.archive_core.specs.Fields.{below, disk_of, is_broken, limit_of, place_of}
pub use Rattle.archive_core.specs.Fields.{standing_of}
pub use Rattle.archive_core.specs.Mounting.{IsMounted}
pub use Rattle.archive_core.specs.State.{ArchiveContent, ArePieces, Done, IsAsked, IsAskedSchema}
pub use Rattle.archive_core.specs.State.{IsDone, IsImageOf, IsKeptOfList, IsListed, IsWrong, Opened}
pub use Rattle.archive_core.specs.State.{RepresentsPast, RepresentsSome, ValidInBranch}
pub use Rattle.archive_core.specs.State.{ValidInQuery, book_meaning, pieces_told, tells_periods}
pub use Rattle.archive_core.specs.State.{version_made}
pub use Rattle.archive_core.specs.declared.archive.Archive.{Archive}
pub use Rattle.archive_core.specs.declared.fault.CommitFault.{CommitFault}
pub use Rattle.archive_core.specs.declared.fault.CommitFault.TheVariants as commit
pub use Rattle.archive_core.specs.declared.fault.MountFault.{MountFault}
pub use Rattle.archive_core.specs.declared.fault.MountFault.TheVariants as mounting
