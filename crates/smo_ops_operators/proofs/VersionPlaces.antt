-- The versions of the code, and their tables, by their places.
use Rattle.std.proofs.Common.{◌≡◌, ◌<◌, ℕ, zero, suc, List, [], ◌∷◌, map, length, get_or, refl, sym}
use Rattle.std.proofs.Common.{ap, ◌∙◌, arith}
use Rattle.std.specs.Prelude.{Some, slice_get}
use Rattle.std.specs.Option.{option_map}
use Rattle.std.proofs.lemmas.Option.{slice_get-get_or, slice_get-map}
use Rattle.schema_catalog.specs.Tables.{Tables}
use Rattle.smo_ops_types.specs.declared.version.Version.{Version}
use Rattle.smo_ops_types.specs.Commands.{PlainVersion, version_of}
use Rattle.smo_ops_spec.specs.Past.{tables_from}

pub version_at_place : (vs : List Version) (i : ℕ) (v : Version) → i < length vs → v ≡ get_or vs i v
    → slice_get (map version_of vs) i ≡ Some (version_of v)
version_at_place vs i v l e = slice_get-map version_of vs i
    ∙ ap (option_map version_of) (slice_get-get_or vs i v l ∙ ap Some (sym e))

pub first_tables : (before : Tables) (vs : List PlainVersion) → tables_from before vs 0 ≡ before
first_tables before [] = refl
first_tables before (v ∷ vs) = refl

pub next_tables : (before : Tables) (vs : List Version) (i : ℕ) (v : Version) → i < length vs
    → v ≡ get_or vs i v → tables_from before (map version_of vs) (suc i) ≡ v.schema
next_tables before [] i v l e = absurd (omega arith)
next_tables before (w ∷ vs) zero v l e = first_tables w.schema (map version_of vs)
    ∙ ap (λ (x : Version). x.schema) (sym e)
next_tables before (w ∷ vs) (suc i) v l e = next_tables w.schema vs i v (omega arith) e
