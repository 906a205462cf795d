-- The writes of a column, oldest first.
use Rattle.std.specs.Prelude.{ℕ, ◌&&◌, nat_le, ◌==◌, List, [], ◌∷◌, if◌then◌else◌}
use Rattle.prima_base.specs.declared.value.Value.{Value}
use Rattle.prima_base.specs.declared.value.ColType.{ColType}

-- from the start on, the row with this id has this value
pub record Write : Type 0 where
  pub id : ℕ
  pub value : Value
  pub start : ℕ

-- what is seen of a column: its type, its ids, which count up from 0, its writes, for how many more
-- there is a place, for how many bytes of their texts there is room, and both together in units
pub record Log : Type 0 where
  pub kind : ColType
  pub ids : ℕ
  pub cells : List Write
  pub places : ℕ
  pub bytes : ℕ
  pub spare : ℕ

-- the first list, or the second where the first is empty
abbrev pub over : List Value → List Value → List Value
over [] below = below
over (v ∷ vs) below = v ∷ vs

-- the value of the last write of this id
abbrev pub newest : ℕ → List Write → List Value
newest id [] = []
newest id (c ∷ cells) = over (newest id cells) (if c.id == id then c.value ∷ [] else [])

-- the value that the row with this id has at the moment
abbrev pub value_at : ℕ → ℕ → List Write → List Value
value_at id m [] = []
value_at id m (c ∷ cells) = over (value_at id m cells)
    (if (c.id == id) && nat_le c.start m then c.value ∷ [] else [])
