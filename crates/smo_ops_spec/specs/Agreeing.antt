-- Databases that have the same under some names.
use Rattle.std.specs.Prelude.{◌≡◌, ℕ, List}
use Rattle.std.specs.FinMap.{get}
use Rattle.relations_spec.specs.Sets.{In}
use Rattle.schema_catalog.specs.Databases.{Database}

abbrev pub AgreeOn : List (List ℕ) → Database → Database → Type 0
AgreeOn names a b = (n : List ℕ) → In n names → get a n ≡ get b n
