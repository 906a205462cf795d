-- When an archive represents a past.
use Rattle.std.specs.Prelude.{◌≡◌, ℕ, Option}
use Rattle.smo_ops_spec.specs.Past.{Past}
use Rattle.version_groups.specs.Groups.{Kept}
use Rattle.version_groups.specs.Representation.{Represents}

-- the versions with their stored tables, and the last stamp
pub record ArchiveContent : Type 0 where
  pub groups : Kept
  pub last : Option ℕ

abbrev pub archive_content : Kept → Option ℕ → ArchiveContent
archive_content groups last = record { groups = groups; last = last }

-- its versions and tables represent the past, and its last stamp is the past's
pub record RepresentsPast (archive : ArchiveContent) (past : Past) : Type 0 where
  pub groups : Represents archive.groups past
  pub last : archive.last ≡ past.last

-- it represents some past
abbrev pub RepresentsSome : ArchiveContent → Type 0
RepresentsSome archive = (past : Past) × RepresentsPast archive past
