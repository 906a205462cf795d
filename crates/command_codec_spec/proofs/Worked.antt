-- Worked rows: the bytes of operators of one member and of two.
use Rattle.std.specs.Prelude.{◌≡◌, [], ◌∷◌, codes, refl}
use Rattle.smo_ops_types.specs.Operators.{nop, drop_table}
use Rattle.smo_ops_types.specs.Commands.{evolving}
use Rattle.command_codec_spec.specs.Encoding.{number, evolution_bytes, body_bytes}

one : evolution_bytes (drop_table (codes "t") ∷ []) ≡ 2 ∷ 1 ∷ 116 ∷ []
one = refl

-- NOP THEN DROP TABLE t: the tag of a list, two, and each
two : evolution_bytes (nop ∷ drop_table (codes "t") ∷ []) ≡ 12 ∷ 2 ∷ 0 ∷ 2 ∷ 1 ∷ 116 ∷ []
unfolding number
two = refl

-- in an inverse a list counts as one operator
in_inverse : body_bytes (evolving (nop ∷ []) ((nop ∷ nop ∷ []) ∷ (nop ∷ []) ∷ []))
    ≡ 1 ∷ 0 ∷ 0 ∷ 0 ∷ 0 ∷ 2 ∷ 12 ∷ 2 ∷ 0 ∷ 0 ∷ 0 ∷ []
unfolding number
in_inverse = refl
