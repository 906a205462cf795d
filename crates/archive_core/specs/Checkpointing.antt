-- What an archive on a disk answers to a checkpoint.
use Rattle.std.specs.Prelude.{◌≡◌, ℕ, ◌+◌, Some, None, Result, Ok, Err, ⊤}
use Rattle.smo_ops_spec.specs.Checks.{Fault}
use Rattle.smo_ops_spec.specs.Past.{Past}
use Rattle.store_image_spec.specs.Images.{Image}
use Rattle.store_image_spec.specs.Lengths.{image_length}
use Rattle.archive_core_replay.specs.Images.{image_in}
use Rattle.archive_core_file_spec.specs.LogRecords.{LogRecord, checkpointed}
use Rattle.archive_core_replay.specs.Memory.{ArchiveContent}
use Rattle.archive_core.specs.Committing.{need_fault}
use Rattle.archive_core.specs.declared.fault.CommitFault.{CommitFault}
use Rattle.archive_core.specs.declared.fault.CommitFault.TheVariants.{Broken, Refused, Disk}
use Rattle.archive_core.specs.declared.fault.CommitFault.TheVariants.{NoMemory}

-- the image of what an archive has
abbrev pub image_of_archive : ArchiveContent → Image
image_of_archive archive = image_in archive.groups archive.last

-- the record of its checkpoint
abbrev pub checkpoint_of : ArchiveContent → LogRecord
checkpoint_of archive = checkpointed (image_of_archive archive)

-- how many bytes a put of the image of a past writes
abbrev pub checkpoint_need : Past → ℕ
checkpoint_need past = 11 + image_length past

-- the refusal of a checkpoint: its record would end past the limit
abbrev pub checkpoint_fault : Past → ℕ → ℕ → Fault
checkpoint_fault past at limit = need_fault at limit (checkpoint_need past)

-- one that fits is answered Ok, or Disk where the disk fails; another is refused
abbrev pub Checkpoints : Past → ℕ → ℕ → Result (Unit {0}) CommitFault → Type 0
Checkpoints past at limit (Ok done) = checkpoint_fault past at limit ≡ None
Checkpoints past at limit (Err (Refused r)) = checkpoint_fault past at limit ≡ Some r
Checkpoints past at limit (Err Disk) = checkpoint_fault past at limit ≡ None
Checkpoints past at limit (Err Broken) = ⊤
Checkpoints past at limit (Err NoMemory) = ⊤
