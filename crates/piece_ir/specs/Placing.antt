-- The place at which the atoms of each view begin.
use Rattle.std.specs.Prelude.{ℕ, ◌+◌, List, [], ◌∷◌, length}
use Rattle.piece_ir_spec.specs.Views.{PlainView}

abbrev pub places_from : ℕ → List PlainView → List ℕ
places_from off [] = []
places_from off (v ∷ views) = off ∷ places_from (off + length v.atoms) views
