-- The newest of versions that were read, and what an operator asks.
use Rattle.std.proofs.Common.{◌≡◌, ℕ, zero, suc, ◌+◌, List, [], ◌∷◌, map, length, get_or, ap, arith}
use Rattle.std.specs.Prelude.{Some}
use Rattle.smo_ops_types.specs.Commands.{version_of}
use Rattle.smo_ops_types.specs.declared.version.Version.{Version}
use Rattle.store_image_reader.specs.NextVersion.{newest_stamp}

pub last_stamp : (versions : List Version) (i : ℕ) (v : Version) → i + 1 ≡ length versions
    → v ≡ get_or versions i v → Some v.stamp ≡ newest_stamp (map version_of versions)
last_stamp [] i v e is = absurd (omega (arith, e))
last_stamp (w ∷ []) zero v e is = ap (λ (x : Version). Some x.stamp) is
last_stamp (w ∷ []) (suc i) v e is = absurd (omega (arith, e))
last_stamp (w ∷ x ∷ versions) zero v e is = absurd (omega (arith, e))
last_stamp (w ∷ x ∷ versions) (suc i) v e is = last_stamp (x ∷ versions) i v (omega (arith, e)) is
