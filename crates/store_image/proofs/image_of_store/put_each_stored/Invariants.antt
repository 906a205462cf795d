use Rattle.std.proofs.Common.{◌≡◌, ◌<◌, ◌++◌, ℕ, map, drop, get_or}
use Rattle.std.specs.List.{flat_map}
use Rattle.store_image_spec.specs.Encoding.{stored_bytes}
use Rattle.version_groups.specs.StoredTables.{MadeTable}
use Rattle.store_image.specs.ImageIn.{kept_line, TableHolds}
use Rattle.store_image.proofs.image_of_store.put_each_stored.Given as goal

abbrev pub invariant-loop-table : goal.invariant-loop-table
invariant-loop-table g l = record {
  written : l.out.items ++ flat_map stored_bytes (map kept_line (drop l.table-index l.tables))
      ≡ l.initial.out.items ++ flat_map stored_bytes (map kept_line l.tables);
  holds : (k : ℕ) → (d : MadeTable) → k < l.table-index → TableHolds (get_or l.tables k d);
}
