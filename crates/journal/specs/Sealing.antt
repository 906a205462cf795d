-- The bytes of a record, as they are put.
use Rattle.std.specs.Prelude.{◌≡◌, ℕ, ◌-◌, ◌≤◌, ◌<◌, ◌^◌, List, [], ◌∷◌, ◌++◌, length, take}
use Rattle.std.specs.Prelude.{drop, get_or}
use Rattle.journal.specs.Records.{Record, IsKnown, body}

-- the record of which these are the bytes, with a closed gate after
abbrev pub record_in : List ℕ → Record
record_in bytes = (get_or bytes 0 0, take (length bytes - 10) (drop 9 bytes))

pub record IsSealed (bytes : List ℕ) : Type 0 where
  pub is : bytes ≡ body (record_in bytes) ++ 0 ∷ []
  pub known : IsKnown (record_in bytes).0
  pub long : 10 ≤ length bytes
  pub short : length bytes < 2 ^ 64
