-- What a line that is gathered in memory and its sink hold together.
use Rattle.std.specs.Prelude.{◌≡◌, ℕ, List, ◌++◌, Option}
use Rattle.std.specs.Io.KnownBytes.{Appends}

-- The bytes were gathered: what the line held and then the bytes is what the sink was given and
-- then what the line holds now.
pub record Gathers (old : Option (List ℕ)) (held : List ℕ) (new : Option (List ℕ)) (holds : List ℕ)
    (bytes : List ℕ) : Type 0 where
  pub put : List ℕ
  pub appended : Appends old new put
  pub split : held ++ bytes ≡ put ++ holds
