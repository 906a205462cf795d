-- What callers see of an archive on a disk.
use Rattle.std.specs.Prelude.{ℕ, Bool}
use Rattle.disk_model.specs.Meaning.{Meaning}
use Rattle.disk_model.specs.declared.disk.Disk.{Ghosts}
use Rattle.journal.specs.Fields as journal
use Rattle.archive_core_replay.specs.Memory.{ArchiveContent}
use Rattle.archive_core.specs.declared.archive.Archive.{Archive}

module _ {D : Type 0} {g : Ghosts D} where
  -- what it keeps in memory
  abbrev pub standing_of : Archive D g → ArchiveContent
  standing_of a = a.state

  abbrev pub disk_of : Archive D g → D
  disk_of a = journal.disk_of a.journal

  -- what its disk is
  abbrev pub below : Archive D g → Meaning
  below a = journal.below a.journal

  -- the place of the closed gate
  abbrev pub place_of : Archive D g → ℕ
  place_of a = journal.place_of a.journal

  abbrev pub limit_of : Archive D g → ℕ
  limit_of a = journal.limit_of a.journal

  -- a call on it has answered that the disk failed
  abbrev pub is_broken : Archive D g → Bool
  is_broken a = a.broken
