use Rattle.std.proofs.Common.{◌≡◌, ◌<◌, ◌++◌, ℕ, List, drop, get_or}
use Rattle.std.specs.List.{flat_map}
use Rattle.history_store_spec.specs.Store.{Cell}
use Rattle.command_codec_spec.specs.Encoding.{list_bytes}
use Rattle.store_image_spec.specs.Encoding.{cell_bytes}
use Rattle.store_image.specs.ImageIn.{ColumnHolds}
use Rattle.store_image.proofs.image_of_store.put_columns.Given as goal

abbrev pub invariant-loop-column : goal.invariant-loop-column
invariant-loop-column g l = record {
  written : l.out.items ++ flat_map (list_bytes 8 cell_bytes) (drop l.column l.store.cells)
      ≡ l.initial.out.items ++ flat_map (list_bytes 8 cell_bytes) l.store.cells;
  holds : (k : ℕ) → (d : List Cell) → k < l.column → ColumnHolds (get_or l.store.cells k d);
}
