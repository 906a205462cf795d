-- What is as it was, with no less room.
use Rattle.std.specs.Prelude.{◌≡◌, ◌≤◌}
use Rattle.version_groups_tables.specs.Room.{AreSameTables}
use Rattle.version_groups.specs.Groups.{Kept}

-- the same versions, and the same stored tables of each
pub record IsSame (old new : Kept) : Type 0 where
  pub versions : new.versions ≡ old.versions
  pub places : new.places ≡ old.places
  pub stored : AreSameTables old.stored new.stored
  pub spare : old.spare ≤ new.spare
  pub beginnings : old.beginnings ≤ new.beginnings
