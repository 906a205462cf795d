-- What proofs above need of the archive in memory, passed on.
pub use Rattle.archive_core_replay.proofs.Memory.{are_pieces}
