-- What scans hand out.
use Rattle.std.specs.Prelude.{ℕ, ◌+◌, List, [], ◌∷◌}
use Rattle.relations_spec.specs.Spans.{Span}
use Rattle.history_store.specs.declared.scan.KeyEntry.{KeyEntry}
pub use Rattle.history_store_columns.specs.Scans.{seen_cell}

-- the keys with their ids, counted from `id` on
abbrev pub keys_from : ℕ → List Span → List KeyEntry
keys_from id [] = []
keys_from id (p ∷ keys) = record { id = id; period = p } ∷ keys_from (id + 1) keys
