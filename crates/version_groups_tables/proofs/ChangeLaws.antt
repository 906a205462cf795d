-- What laws above need of the tables that a change leads to, passed on.
pub use Rattle.version_groups_changes.proofs.Becoming.{along_length, same_before, same_columns}
pub use Rattle.version_groups_changes.proofs.Becoming.{same_relation}
