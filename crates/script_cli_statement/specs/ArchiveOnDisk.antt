-- What contracts above say of the archive on its disk, passed on.
pub use Rattle.script_cli_vault.specs.ArchiveOnDisk.{Archive, ArchiveContent, HoldsAt, IsMounted}
pub use Rattle.script_cli_vault.specs.ArchiveOnDisk.{MountFault, Opened, RepresentsSome, below}
pub use Rattle.script_cli_vault.specs.ArchiveOnDisk.{book_meaning, limit_of, place_of, standing_of}
pub use Rattle.script_cli_vault.specs.ArchiveOnDisk.{tells_periods}
pub use Rattle.script_cli_vault.specs.ArchiveOnDisk.archive
pub use Rattle.script_cli_vault.specs.ArchiveOnDisk.mounting
pub use Rattle.script_cli_vault.specs.Shown.{need_of}
