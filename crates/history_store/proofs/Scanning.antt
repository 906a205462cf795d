-- How many keys a scan hands out.
use Rattle.std.proofs.Common.{◌≡◌, ℕ, ◌+◌, suc, List, [], ◌∷◌, length, refl, ap}
use Rattle.relations_spec.specs.Spans.{Span}
use Rattle.history_store.specs.Scans.{keys_from}

pub keys_count : (base : ℕ) (keys : List Span) → length (keys_from base keys) ≡ length keys
keys_count base [] = refl
keys_count base (k ∷ keys) = ap suc (keys_count (base + 1) keys)
