-- The schema of the last of versions that are kept.
use Rattle.std.proofs.Common.{◌≡◌, ℕ, zero, suc, ◌+◌, List, [], ◌∷◌, map, length, get_or, ap, arith}
use Rattle.schema_catalog.specs.Tables.{Tables}
use Rattle.smo_ops_types.specs.Commands.{version_of}
use Rattle.smo_ops_types.specs.declared.version.Version.{Version}
use Rattle.smo_ops_spec.specs.Past.{newest_from}

-- the last version's schema is the newest
pub last_schema : (before : Tables) (versions : List Version) (i : ℕ) (v : Version)
    → i + 1 ≡ length versions → v ≡ get_or versions i v
    → v.schema ≡ newest_from before (map version_of versions)
last_schema before [] i v e is = absurd (omega (arith, e))
last_schema before (w ∷ []) zero v e is = ap (λ (x : Version). x.schema) is
last_schema before (w ∷ []) (suc i) v e is = absurd (omega (arith, e))
last_schema before (w ∷ x ∷ versions) zero v e is = absurd (omega (arith, e))
last_schema before (w ∷ x ∷ versions) (suc i) v e is =
    last_schema w.schema (x ∷ versions) i v (omega (arith, e)) is
