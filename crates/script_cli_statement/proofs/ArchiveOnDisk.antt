-- What proofs above need of the archive on its disk, passed on.
pub use Rattle.script_cli_vault.proofs.Committed.{refused_alike}
