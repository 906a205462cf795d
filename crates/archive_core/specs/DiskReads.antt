-- What a read of an archive's disk gives.
use Rattle.std.specs.Prelude.{◌≡◌, ℕ, List, length, Some}
use Rattle.disk_model.specs.Meaning.{Meaning}
use Rattle.journal.specs.Records.{Record, Holds, before_gate}

-- what a read gives holds these records, and its closed gate is at this place
pub record HoldsAt (d : Meaning) (at : ℕ) (rs : List Record) : Type 0 where
  pub file : List ℕ
  pub seen : d.seen ≡ Some file
  pub holds : Holds file rs
  pub place : at ≡ length (before_gate rs)
