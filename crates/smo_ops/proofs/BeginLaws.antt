-- When a version that is there begins.
use Rattle.std.proofs.Common.{◌≡◌, ◌<◌, ◌+◌, ℕ, suc, List, map, length, get_or, refl, sym, ap, ◌∙◌}
use Rattle.std.proofs.Common.{arith}
use Rattle.std.specs.Option.{option_map}
use Rattle.std.proofs.lemmas.Option.{slice_get-map, slice_get_read}
use Rattle.smo_ops_types.specs.declared.version.Version.{Version}
use Rattle.smo_ops_types.specs.Commands.{version_of}
use Rattle.smo_ops_spec.specs.InForce.{stamp_of, begins_at}

-- with its stamp
pub begins_there : (versions : List Version) (number k : ℕ) (v : Version) → k + 1 ≡ number
    → k < length versions → v ≡ get_or versions k v
    → v.stamp ≡ begins_at (map version_of versions) number
begins_there versions number k v n l e =
    let next : suc k ≡ number = omega (arith, n) in
    sym (ap (begins_at (map version_of versions)) (sym next)
    ∙ ap stamp_of (slice_get-map version_of versions k
    ∙ ap (option_map version_of) (slice_get_read versions (length versions) k v refl l e)))
