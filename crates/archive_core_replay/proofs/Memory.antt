-- What proofs above need of the archive in memory, passed on.
pub use Rattle.archive_core_state.proofs.AcceptedWidths.{accepted_by_past}
pub use Rattle.archive_core_state.proofs.Checking.{borrowed}
pub use Rattle.archive_core_state.proofs.VersionGroups.{is_same}
pub use Rattle.archive_core_state.proofs.Queries.{are_pieces}
