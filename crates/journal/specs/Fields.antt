-- What callers see of a journal.
use Rattle.std.specs.Prelude.{ℕ}
use Rattle.disk_model.specs.Meaning.{Meaning}
use Rattle.disk_model.specs.declared.disk.Disk.{Ghosts}
use Rattle.journal.specs.declared.journal.Journal.{Journal}

module _ {D : Type 0} {g : Ghosts D} where
  abbrev pub disk_of : Journal D g → D
  disk_of j = j.disk

  -- what its disk is
  abbrev pub below : Journal D g → Meaning
  below j = g.meaning j.disk

  -- the place of the closed gate
  abbrev pub place_of : Journal D g → ℕ
  place_of j = j.at

  abbrev pub limit_of : Journal D g → ℕ
  limit_of j = j.limit
