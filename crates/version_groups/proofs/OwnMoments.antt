-- The moments at which a version of a valid past is in force.
use Rattle.std.proofs.Common.{◌≡◌, ◌≤◌, ◌<◌, ℕ, zero, suc, List, [], ◌∷◌, length, subst, arith}
use Rattle.std.specs.Prelude.{None, slice_get}
use Rattle.relations_spec.specs.Spans.{forever}
use Rattle.smo_ops_types.specs.Commands.{PlainVersion}
use Rattle.smo_ops_spec.specs.InForce.{stamp_of}
use Rattle.smo_ops_spec.specs.ValidPast.{AllInForce, last_or_nought, IsPast}
use Rattle.smo_ops_spec.specs.Past.{Past, no_tables, version_at}
use Rattle.smo_ops_spec.proofs.VersionsInForce.{in_force_at, is_now}
use Rattle.version_groups.specs.Representation.{IsInForce}

-- each version begins before the end of time
pub stamp_within : (low : ℕ) (versions : List PlainVersion) (k : ℕ) → AllInForce low versions
    → low < forever → stamp_of (slice_get versions k) ≤ forever
stamp_within low [] k h l = omega arith
stamp_within low (v ∷ versions) zero h l = (let first = h.0 in omega arith)
stamp_within low (v ∷ versions) (suc k) h l = stamp_within low versions k h.1 l

module _ (past : Past) (valid : IsPast past) where
  -- at each of them it is the one in force
  pub own_version : (k m : ℕ) → k ≤ length past.versions → IsInForce past.versions k m
      → version_at past m ≡ k
  own_version k m l h = in_force_at None no_tables past.versions k m valid.evolved l h.0 h.1

  -- and each moment at which it is the one in force is one of them
  pub own_moment : (k m : ℕ) → m < forever → version_at past m ≡ k → IsInForce past.versions k m
  own_moment k m l e =
      subst (λ j. IsInForce past.versions j m) e
      (is_now None no_tables past.versions m valid.evolved l)

  -- none of them is the end of time
  pub own_within : (k m : ℕ) → last_or_nought past.last < forever → IsInForce past.versions k m
      → m < forever
  own_within k m ends h =
      let low = last_or_nought past.last in
      let most = stamp_within low past.versions k valid.versions ends in
      let last = h.1 in
      omega arith
