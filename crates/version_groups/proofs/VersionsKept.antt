-- The versions that are kept, and those of a past.
use Rattle.std.proofs.Common.{◌≡◌, ◌<◌, ℕ, suc, zero, List, [], ◌∷◌, map, length, get_or, refl}
use Rattle.std.proofs.Common.{ap, arith}
use Rattle.schema_catalog.specs.Tables.{Tables}
use Rattle.smo_ops_types.specs.declared.version.Version.{Version}
use Rattle.smo_ops_types.specs.Commands.{PlainVersion, version_of}
use Rattle.smo_ops_spec.specs.Past.{tables_from, newest_from}

-- ---- schemas

pub no_schema : (before : Tables) (versions : List Version) → length versions ≡ 0
    → before ≡ newest_from before (map version_of versions)
no_schema before [] e = refl
no_schema before (v ∷ versions) e = absurd (omega (arith, e))

-- version k + 1 is the one at place k
pub schema_at : (before : Tables) (versions : List Version) (k : ℕ) (v : Version)
    → k < length versions → v ≡ get_or versions k v
    → v.schema ≡ tables_from before (map version_of versions) (suc k)
schema_at before [] k v l is = absurd (omega (arith, l))
schema_at before (w ∷ []) zero v l is = ap (λ (x : Version). x.schema) is
schema_at before (w ∷ x ∷ versions) zero v l is = ap (λ (x : Version). x.schema) is
schema_at before (w ∷ versions) (suc k) v l is =
    schema_at w.schema versions k v (omega (arith, l)) is

pub at_nought : (before : Tables) (versions : List PlainVersion)
    → tables_from before versions 0 ≡ before
at_nought before [] = refl
at_nought before (v ∷ versions) = refl
