-- Each version of a past is accepted after the tables of the one before.
use Rattle.std.proofs.Common.{◌≡◌, ℕ, zero, suc, List, [], ◌∷◌, subst}
use Rattle.std.specs.Prelude.{Option, Some, slice_get}
use Rattle.schema_catalog.specs.Tables.{Tables}
use Rattle.smo_ops_types.specs.Commands.{PlainVersion}
use Rattle.smo_ops_spec.specs.Past.{tables_from}
use Rattle.smo_ops_spec.specs.ValidPast.{IsVersion, AreVersions}

pub accepted_version : (last : Option ℕ) (before : Tables) (versions : List PlainVersion) (k : ℕ)
    (v : PlainVersion) → AreVersions last before versions → slice_get versions k ≡ Some v
    → (l : Option ℕ) × IsVersion l (tables_from before versions k) v
accepted_version last before [] k v are e = absurd (cc)
accepted_version last before (w ∷ versions) zero v are e =
    let same : w ≡ v = cc in
    (last, subst (IsVersion last before) same are.0)
accepted_version last before (w ∷ versions) (suc k) v are e =
    accepted_version (Some w.stamp) w.tables versions k v are.1 e
