-- What proofs above need of the groups of versions, passed on.
pub use Rattle.version_groups.proofs.PreparedCommands.{is_same}
