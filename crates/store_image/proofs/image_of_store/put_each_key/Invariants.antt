use Rattle.std.proofs.Common.{◌≡◌, ◌++◌, length, map}
use Rattle.std.specs.List.{flat_map}
use Rattle.store_image_spec.specs.Encoding.{span_bytes}
use Rattle.store_image.proofs.image_of_store.put_each_key.Given as goal

abbrev pub invariant-keys : goal.invariant-keys
invariant-keys g l = l.out.items ++ flat_map span_bytes (map (λ k. k.period) l.keys)
    ≡ l.initial.out.items ++ flat_map span_bytes (map (λ k. k.period) l.initial.keys)

abbrev pub decreases-keys : goal.decreases-keys
decreases-keys g l = length l.keys
