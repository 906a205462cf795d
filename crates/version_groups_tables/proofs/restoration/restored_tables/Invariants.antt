use Rattle.std.proofs.Common.{◌≡◌, ◌+◌, ◌++◌, List, ℕ, length, take, drop}
use Rattle.std.specs.List.{filter}
use Rattle.std.specs.FinMap.{entries}
use Rattle.std.specs.Vec.Iter.{into_iter_items}
use Rattle.prima_base.specs.Columns.{Column}
use Rattle.version_groups_tables.specs.Places.{at_places, AreWithin}
use Rattle.smo_ops_operators.specs.Names.{is_one_of}
use Rattle.version_groups_tables.specs.Restoring.{stores_of, HaveColumns, BeginsOver, HasColumns}
use Rattle.version_groups_tables.proofs.BegunTables.{AreBegun}
use Rattle.version_groups_tables.proofs.PlacedTables.{AreComing}
use Rattle.version_groups_tables.proofs.restoration.restored_tables.Given as goal

abbrev pub invariant-loop-i : goal.invariant-loop-i
invariant-loop-i l = record {
  begun : AreBegun HasColumns (take l.i (entries l.next))
      (at_places (l.tables ++ l.begun.items) l.own.items);
  there : AreWithin l.own.items (length l.tables + length l.begun.items);
  coming : AreComing l.tables l.places (is_one_of l.names) (BeginsOver l.version)
      (take l.i (entries l.next)) l.begun.items l.own.items;
  due : HaveColumns (into_iter_items l.stores)
      (filter (λ (e : List ℕ × List Column). is_one_of l.names e.0) (drop l.i (entries l.next)));
  taken : stores_of l.begun.items ++ into_iter_items l.stores ≡ into_iter_items l.initial.stores;
}
