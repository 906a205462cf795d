-- What proofs above need of the archive on its disk, passed on.
pub use Rattle.archive_core.proofs.Committed.{committed_by_past}
pub use Rattle.archive_core.proofs.State.{are_pieces}
