use Rattle.std.proofs.Common.{◌+◌, ◌++◌, length, take}
use Rattle.std.specs.FinMap.{entries}
use Rattle.version_groups_tables.specs.Becoming.{Begins}
use Rattle.version_groups_tables.specs.MadeRows.{made_rows}
use Rattle.version_groups_tables.specs.Places.{at_places, AreWithin}
use Rattle.version_groups_tables.specs.Beginning.{BeginsWith}
use Rattle.version_groups_tables.specs.NewestTables.{is_made, next_rows}
use Rattle.version_groups_tables.proofs.BegunTables.{AreBegun}
use Rattle.version_groups_tables.proofs.PlacedTables.{AreComing}
use Rattle.version_groups_tables.proofs.evolution.next_tables.Given as goal

abbrev pub invariant-loop-i : goal.invariant-loop-i
invariant-loop-i l = record {
  begun : AreBegun (λ name columns store. Begins columns l.stamp
      (next_rows (made_rows l.names l.rows) l.stamp (at_places l.tables l.places) name) store)
      (take l.i (entries l.next)) (at_places (l.tables ++ l.begun.items) l.own.items);
  there : AreWithin l.own.items (length l.tables + length l.begun.items);
  coming : AreComing l.tables l.places (is_made (made_rows l.names l.rows))
      (BeginsWith l.version l.stamp (next_rows (made_rows l.names l.rows) l.stamp
      (at_places l.tables l.places))) (take l.i (entries l.next)) l.begun.items l.own.items;
}
