-- Texts one after the other in one buffer.
use Rattle.std.specs.Prelude.{ℕ, List}

-- what is seen of them: the texts, for how many more there is a place, and for how many bytes of
-- these there is room
pub record Texts : Type 0 where
  pub items : List (List ℕ)
  pub places : ℕ
  pub bytes : ℕ

-- room is counted in units: a text takes one, and one more for each 32 bytes of it
abbrev pub room_unit : ℕ
room_unit = 32
